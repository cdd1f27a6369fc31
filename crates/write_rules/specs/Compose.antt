-- 02, ticket [1], "Write our own field": which lines may follow one another, and the answer.
use Rattle.std.specs.Prelude.{ℕ, zero, suc, ◌-◌, Bool, true, false, List, [], ◌∷◌, leb, length}
use Rattle.std.proofs.Math.Option.{Option, none, some}
use Rattle.base_readers.specs.Parsers.{nothing, got, Parser, ◌>>=◌}
use Rattle.base_readers.specs.Walks.{Walked, ended, before}
use Rattle.lexis_rules.specs.Limits.{byte_limit}
use Rattle.write_rules.specs.Entries.{Entry, identified, unstated, judged, reasoned, shown, entry}
use Rattle.write_rules.specs.Bodies.{body_of}

-- 02, ticket [1]: `id`, then `none` or `m`, `r` and `p` lines. What stands before a line: nothing; the id line; the line none; an m line; an
-- r or p line
pub data State : Type 0 where
  front named closed stated detailed : State

-- 02, ticket [1]: `id`, then `none` or `m`, `r` and `p` lines; 01, The report: for each result `m`; `r` if there is a reason; then `p`.
-- What stands before the next line, or none where this line can't stand here
unfoldable pub goes : State → Entry → Option State
goes front (identified i) = some named
goes front unstated = none
goes front (judged m r) = none
goes front (reasoned t) = none
goes front (shown p) = none
goes named (identified i) = none
goes named unstated = some closed
goes named (judged m r) = some stated
goes named (reasoned t) = none
goes named (shown p) = none
goes closed (identified i) = none
goes closed unstated = none
goes closed (judged m r) = none
goes closed (reasoned t) = none
goes closed (shown p) = none
goes stated (identified i) = none
goes stated unstated = none
goes stated (judged m r) = some stated
goes stated (reasoned t) = some detailed
goes stated (shown p) = some detailed
goes detailed (identified i) = none
goes detailed unstated = none
goes detailed (judged m r) = some stated
goes detailed (reasoned t) = none
goes detailed (shown p) = some detailed

-- 02, ticket [1]: an `id` line alone is refused. The lines may end here
unfoldable pub final : State → Bool
final front = false
final named = false
final closed = true
final stated = true
final detailed = true

-- a line that was read, and what then stands before the next one
pub record Step : Type 0 where
  pub entry : Entry
  pub state : State

-- 02, ticket [1]: a line that can be read goes on from a state, or can't
unfoldable pub steps : State → Entry → Parser Step
steps s e xs = elim (goes s e) [ none ↦ nothing | some t ↦ got (record { entry = e; state = t }) 0 ]

-- 02, ticket [1]: the next line
unfoldable pub step : State → Parser Step
step s = do
  e ← entry
  steps s e

-- 02, ticket [1]: with number 11. Its place is the first line, from 1, up to which the lines can begin no such report .. or, where they
-- only stop too early, one more than their count. The lines one by one, n the number of the next; k bytes of the list belong to the line
-- taken last
unfoldable pub walked : State → ℕ → ℕ → List ℕ → Walked Entry
walked s n k [] = elim (final s) [ true ↦ ended 0 0 | false ↦ ended 11 n ]
walked s n (suc k) (x ∷ xs) = walked s n k xs
walked s n zero (x ∷ xs) =
    elim (step s (x ∷ xs)) [
      | nothing ↦ ended 11 n
      | got v m ↦ before v.entry (walked v.state (suc n) (m - 1) xs)
    ]

-- 02, ticket [1]: from 1
abbrev pub entries : List ℕ → Walked Entry
entries src = walked front 1 0 src

-- 01, Answer numbers: number, place returned, and the bytes written
pub record Answer : Type 0 where
  pub number : ℕ
  pub place : ℕ
  pub written : List ℕ

-- 01, Answer numbers: refusals; they write nothing
abbrev pub refusal : ℕ → ℕ → Answer
refusal n p = record { number = n; place = p; written = [] }

-- 02, ticket [1]: After 11 come 1, for the body to be written, and 6; 01, Answer numbers: the place of 1 is 0, that of 6 the bytes needed
unfoldable pub sized : ℕ → List ℕ → Answer
sized room body =
    elim (leb (length body) byte_limit) [
      | false ↦ refusal 1 0
      | true ↦ (elim (leb (length body) room) [ true ↦ record { number = 0; place = 0; written = body } | false ↦ refusal 6 (length body) ])
    ]

-- 02, ticket [1]: 11 first
unfoldable pub answer : ℕ → Walked Entry → Answer
answer room w = elim w.number [ zero ↦ sized room (body_of w.items) | suc n ↦ refusal (suc n) w.place ]

-- 02, ticket [1]: the answer for these lines and this much room
unfoldable pub compose : List ℕ → ℕ → Answer
compose src room = answer room (entries src)
