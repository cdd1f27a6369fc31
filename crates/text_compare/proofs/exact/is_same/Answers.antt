-- `text_compare::exact::is_same` meets its contract: what the library's `==` tells of two slices is what the definition tells, where the slices are the whole texts.
use Rattle.std.proofs.Common.{rules}
use Rattle.text_compare.proofs.Sames.{same-of, from-front}
use Rattle.text_compare.proofs.exact.is_same.Goals as goal

pub returns : goal.returns
returns c = search (rules, same-of, from-front)
