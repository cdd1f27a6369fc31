-- The ways in which a report is answered, in the order of the answers: what holds in each, and the answer, spelled out. From it: which numbers
-- there are, and that each is given exactly when its rule says so.
use Prim.Native.Nat.{ℕ, ◌≤◌, ◌<◌}
use native.Mathlib.Omega.{arith}
use mathlib.Core.Path.{◌≡◌, refl, sym, ap, ◌∙◌}
use mathlib.Core.Bool.{Bool, true, false}
use mathlib.Core.List.{List, []}
use borrow.Author.Tests.{leb-true, leb-false}
use lib.Dec.{leb}
use lib.ListN.{length, drop}
use lib.Seq.{drop-append_seam}
use Rattle.lexis_rules.specs.Limits.{byte_limit}
use Rattle.report_rules.specs.Body.{Reading, unreadable, malformed, newer, no_result, results, reading}
use Rattle.report_rules.specs.Answers.{leaves}
use Rattle.report_rules.specs.ByCase.{number_of, text_of, count_of, has_report, told}
use Rattle.report_rules.specs.Report.{Answer, refusal, fitted, answer, report}

-- a refusal: a zero count, and nothing is written
abbrev pub refusing : ℕ → ℕ → Answer
refusing n p = record { number = n; place = p; ignored = 0; written = [] }

pub data Way (body : List ℕ) (room : ℕ) : Type 0 where
  long : byte_limit < length body → report body room ≡ refusing 1 0 → Way body room
  bad : length body ≤ byte_limit → has_report (reading body) ≡ false → report body room ≡ refusing (number_of (reading body)) 0 → Way body room
  short : length body ≤ byte_limit → has_report (reading body) ≡ true → room < length (text_of (reading body))
      → report body room ≡ refusing 6 (length (text_of (reading body))) → Way body room
  whole : length body ≤ byte_limit → has_report (reading body) ≡ true → length (text_of (reading body)) ≤ room
      → report body room ≡ record { number = number_of (reading body); place = 0; ignored = count_of (reading body); written = text_of (reading body) }
      → Way body room

module _ (room : ℕ) where
  fitted_short : (n : ℕ) (out : List ℕ) (k : ℕ) → leb (length out) room ≡ false → fitted room n out k ≡ refusing 6 (length out)
  unfolding fitted refusal
  fitted_short n out k e = rw (fitted, e)

  fitted-whole : (n : ℕ) (out : List ℕ) (k : ℕ) → leb (length out) room ≡ true
      → fitted room n out k ≡ record { number = n; place = 0; ignored = k; written = out }
  unfolding fitted
  fitted-whole n out k e = rw (fitted, e)

  answer-bad : (x : Reading) → has_report x ≡ false → answer room x ≡ refusing (number_of x) 0
  unfolding answer refusal
  answer-bad unreadable e = refl
  answer-bad malformed e = refl
  answer-bad (newer h) e = absurd (let z : ◌≡◌ {A = ℕ} 0 1 = cc in omega arith)
  answer-bad (no_result i) e = absurd (let z : ◌≡◌ {A = ℕ} 0 1 = cc in omega arith)
  answer-bad (results i rs) e = absurd (let z : ◌≡◌ {A = ℕ} 0 1 = cc in omega arith)

  answer-good : (x : Reading) → has_report x ≡ true → answer room x ≡ fitted room (number_of x) (text_of x) (count_of x)
  unfolding answer
  answer-good unreadable e = absurd (let z : ◌≡◌ {A = ℕ} 0 1 = cc in omega arith)
  answer-good malformed e = absurd (let z : ◌≡◌ {A = ℕ} 0 1 = cc in omega arith)
  answer-good (newer h) e = refl
  answer-good (no_result i) e = refl
  answer-good (results i rs) e = refl

pub way : (body : List ℕ) (room : ℕ) → Way body room
unfolding report refusal
way body room = big (leb (length body) byte_limit) refl
  where
    x : Reading
    x = reading body

    fit : length body ≤ byte_limit → report body room ≡ answer room x → has_report x ≡ true → (t : Bool) → leb (length (text_of x)) room ≡ t → Way body room
    fit a i h true e = whole a h (leb-true _ room e) (i ∙ (answer-good room x h ∙ fitted-whole room (number_of x) (text_of x) (count_of x) e))
    fit a i h false e = short a h (leb-false _ room e) (i ∙ (answer-good room x h ∙ fitted_short room (number_of x) (text_of x) (count_of x) e))

    good : length body ≤ byte_limit → report body room ≡ answer room x → (t : Bool) → has_report x ≡ t → Way body room
    good a i true h = fit a i h (leb (length (text_of x)) room) refl
    good a i false h = bad a h (i ∙ answer-bad room x h)

    big : (t : Bool) → leb (length body) byte_limit ≡ t → Way body room
    big true l = good (leb-true (length body) byte_limit l) (rw (report, l)) (has_report x) refl
    big false l = long (leb-false (length body) byte_limit l) (rw (report, l))

-- ==== when each number is given

-- the numbers that a reading has: none is 1 or 6
reading-number : (x : Reading) → (number_of x ≡ 1 → ⊥) × (number_of x ≡ 6 → ⊥)
reading-number unreadable = ((λ e. omega (arith, e)), (λ e. omega (arith, e)))
reading-number malformed = ((λ e. omega (arith, e)), (λ e. omega (arith, e)))
reading-number (newer h) = ((λ e. omega (arith, e)), (λ e. omega (arith, e)))
reading-number (no_result i) = ((λ e. omega (arith, e)), (λ e. omega (arith, e)))
reading-number (results i rs) = ((λ e. omega (arith, e)), (λ e. omega (arith, e)))

-- without a report nothing is written
bad-text : (x : Reading) → has_report x ≡ false → (text_of x ≡ []) × (count_of x ≡ 0)
bad-text unreadable e = (refl, refl)
bad-text malformed e = (refl, refl)
bad-text (newer h) e = absurd (let z : ◌≡◌ {A = ℕ} 0 1 = cc in omega arith)
bad-text (no_result i) e = absurd (let z : ◌≡◌ {A = ℕ} 0 1 = cc in omega arith)
bad-text (results i rs) e = absurd (let z : ◌≡◌ {A = ℕ} 0 1 = cc in omega arith)

-- an answer with one number has no other
other : {A : Type 0} (a b : Answer) (n : ℕ) → a ≡ b → a.number ≡ n → (b.number ≡ n → ⊥) → A
other a b n e q not = absurd (not (sym (ap (λ (x : Answer). x.number) e) ∙ q))

module _ (body : List ℕ) (room : ℕ) where
  pub one-when : (report body room).number ≡ 1 → byte_limit < length body
  one-when e =
      elim (way body room) [
        | long l q ↦ l
        | bad l h q ↦ other _ _ 1 q e (reading-number (reading body)).0
        | short l h s q ↦ other _ _ 1 q e (λ z. omega (arith, z))
        | whole l h s q ↦ other _ _ 1 q e (reading-number (reading body)).0
      ]

  pub when-one : byte_limit < length body → report body room ≡ refusing 1 0
  when-one t =
      elim (way body room) [
        | long l q ↦ q
        | bad l h q ↦ absurd (omega arith)
        | short l h s q ↦ absurd (omega arith)
        | whole l h s q ↦ absurd (omega arith)
      ]

  pub six-when : (report body room).number ≡ 6
      → (length body ≤ byte_limit) × ((has_report (reading body) ≡ true) × (room < length (text_of (reading body))))
  six-when e =
      elim (way body room) [
        | long l q ↦ other _ _ 6 q e (λ z. omega (arith, z))
        | bad l h q ↦ other _ _ 6 q e (reading-number (reading body)).1
        | short l h s q ↦ (l, (h, s))
        | whole l h s q ↦ other _ _ 6 q e (reading-number (reading body)).1
      ]

  pub when-six : length body ≤ byte_limit → has_report (reading body) ≡ true → room < length (text_of (reading body))
      → report body room ≡ refusing 6 (length (text_of (reading body)))
  when-six a b t =
      elim (way body room) [
        | long l q ↦ absurd (omega arith)
        | bad l h q ↦ absurd (let z : ◌≡◌ {A = ℕ} 0 1 = cc in omega arith)
        | short l h s q ↦ q
        | whole l h s q ↦ absurd (omega arith)
      ]

  -- 0, 7, 8 and 9 are the number of what the body says
  pub told-when : (n : ℕ) → (n ≡ 1 → ⊥) → (n ≡ 6 → ⊥) → (report body room).number ≡ n
      → (length body ≤ byte_limit) × ((number_of (reading body) ≡ n) × (length (text_of (reading body)) ≤ room))
  told-when n a b e =
      elim (way body room) [
        | long l q ↦ other _ _ n q e (λ z. a (sym z))
        | bad l h q ↦ (let t = ap length (bad-text (reading body) h).0 in (l, (sym (ap (λ (x : Answer). x.number) q) ∙ e, omega (arith, t))))
        | short l h s q ↦ other _ _ n q e (λ z. b (sym z))
        | whole l h s q ↦ (l, (sym (ap (λ (x : Answer). x.number) q) ∙ e, s))
      ]

  pub when-told : length body ≤ byte_limit → length (text_of (reading body)) ≤ room → report body room ≡ told (reading body)
  when-told a t =
      elim (way body room) [
        | long l q ↦ absurd (omega arith)
        | bad l h q ↦ (let b = bad-text (reading body) h in q ∙ rw (b.0, b.1))
        | short l h s q ↦ absurd (omega arith)
        | whole l h s q ↦ q
      ]

  -- All but 0 and 8 are refusals; they write nothing and return zero counts
  pub refused-silent : ((report body room).number ≡ 0 → ⊥) → ((report body room).number ≡ 8 → ⊥)
      → report body room ≡ refusing (report body room).number (report body room).place
  refused-silent a b =
      elim (way body room) [
        | long l q ↦ rw q
        | bad l h q ↦ rw q
        | short l h s q ↦ rw q
        | whole l h s q ↦ done (reading body) h (ap (λ (x : Answer). x.number) q)
      ]
    where
      done : (x : Reading) → has_report x ≡ true → (report body room).number ≡ number_of x
          → report body room ≡ refusing (report body room).number (report body room).place
      done unreadable h e = absurd (let z : ◌≡◌ {A = ℕ} 0 1 = cc in omega arith)
      done malformed h e = absurd (let z : ◌≡◌ {A = ℕ} 0 1 = cc in omega arith)
      done (newer y) h e = absurd (b e)
      done (no_result i) h e = absurd (a e)
      done (results i rs) h e = absurd (a e)

-- 01, Answer numbers: on every answer, bytes past those written stay unchanged
pub past : (body old : List ℕ)
    → drop (length (report body (length old)).written) (leaves (report body (length old)) old) ≡ drop (length (report body (length old)).written) old
past body old = drop-append_seam (report body (length old)).written (drop (length (report body (length old)).written) old)
