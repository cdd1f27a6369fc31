-- A byte of a label is any but ".".
use Rattle.std.proofs.Common.{rules}
use Rattle.punycode_rules.specs.Labels.{in_label}
use Rattle.punycode.proofs.labels.InLabelByteTest.passes.Goals as goal

pub returns : goal.returns
unfolding in_label
returns c = search rules
