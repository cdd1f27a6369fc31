-- The two calls, one after the other, as a caller makes them.
use Rattle.std.specs.Prelude.{ℕ, zero, suc, List}
use Rattle.strip_rules.specs.Strip.{Answer, refuse}
use Rattle.strip_steps_rules.specs.Steps.{Marks, mark, copy}

-- what the first call refuses is refused; else the second is given what the first wrote
abbrev pub given : Marks → (List ℕ → Answer) → Answer
given m second = elim m.number [ zero ↦ second m.written | suc n ↦ refuse (suc n) m.place ]

-- the pair, with so much room for the marks and so much for what is kept; the counts come from the second call
unfoldable pub pair : List ℕ → List ℕ → ℕ → ℕ → Answer
pair block list marks_room room = given (mark block list marks_room) (λ marks. copy block list marks room)
