-- `text_compare::same_word` meets its contract: texts of different lengths are not alike, and at each turn the rests are alike if and only if
-- the whole texts are.
use mathlib.Core.Path.{◌≡◌}
use lib.ListN.{drop}
use Rattle.lexis_rules.specs.Bytes.{alike}
use Rattle.text_compare.proofs.same_word.Given as goal

abbrev pub invariant-loop-j : goal.invariant-loop-j
invariant-loop-j l = alike (drop l.j l.a) (drop l.j l.b) ≡ alike l.a l.b
