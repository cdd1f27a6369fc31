-- What the code's answers say and what they leave in the lent buffer.
use Rattle.std.specs.Prelude.{ℕ, List, ◌++◌, length, drop}
use Rattle.strip_rules.specs.declared.Stripped.{Stripped}
use Rattle.strip_rules.specs.Strip.{Answer}

abbrev pub answer_of : Answer → Stripped
answer_of a = record { number = a.number; place = a.place; kept = a.kept; removed = a.removed; fields = a.fields }

-- 01, Answer numbers: on every answer, bytes past those written stay unchanged
abbrev pub leaves : Answer → List ℕ → List ℕ
leaves a old = a.written ++ drop (length a.written) old
