-- What the first call's answer says, and what it leaves in the lent buffer. The second call's are those of stripping.
use Rattle.std.specs.Prelude.{ℕ, List, ◌++◌, length, drop}
use Rattle.strip_steps_rules.specs.declared.Marked.{Marked}
use Rattle.strip_steps_rules.specs.Steps.{Marks}

-- number and place; of the bytes written, how many there are
abbrev pub answer_of : Marks → Marked
answer_of a = record { number = a.number; place = a.place; written = length a.written }

-- 01, Answer numbers: on every answer, bytes past those written stay unchanged
abbrev pub leaves : Marks → List ℕ → List ℕ
leaves a old = a.written ++ drop (length a.written) old
