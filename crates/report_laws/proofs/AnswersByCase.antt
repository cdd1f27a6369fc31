-- The numbers, places and counts that a report can have, by the cases of its answer. What is promised of the call is in crate `promises`.
use Prim.Native.Nat.{ℕ}
use native.Mathlib.Omega.{arith}
use mathlib.Core.Path.{◌≡◌, refl, sym, ap, ◌∙◌}
use mathlib.Core.Bool.{Bool, true, false}
use mathlib.Core.List.{List, [], ◌∷◌, ◌++◌}
use lib.Dec.{leb}
use lib.ListN.{length}
use Rattle.base_readers.specs.Texts.{one_of}
use Rattle.base_readers.proofs.Texts.{one_in}
use Rattle.lexis_rules.specs.Limits.{byte_limit}
use Rattle.report_rules.specs.Body.{Reading, unreadable, malformed, newer, no_result, results, reading}
use Rattle.report_rules.specs.Report.{Answer, id_line, version_line, none_line, lines, ignored_of, refusal, fitted, answer, report}

-- each of the ways in which an answer is made
data Made (a : Answer) : Type 0 where
  refuses : (n p : ℕ) → a ≡ refusal n p → one_of (1 ∷ 6 ∷ 7 ∷ 9 ∷ []) n ≡ true → ((n ≡ 6 → ⊥) → p ≡ 0) → Made a
  tells : a.number ≡ 0 → a.place ≡ 0 → Made a
  newer_told : a.number ≡ 8 → a.place ≡ 0 → a.ignored ≡ 0 → Made a

module _ (body : List ℕ) (room : ℕ) where
  made : Made (report body room)
  unfolding report answer fitted refusal one_of
  made = go (leb (length body) byte_limit) refl
    where
      fit : (n : ℕ) (out : List ℕ) (k : ℕ) → ((a : Answer) → a.number ≡ n → a.place ≡ 0 → a.ignored ≡ k → Made a) → Made (fitted room n out k)
      fit n out k f = case (leb (length out) room) refl
        where
          case : (t : Bool) → leb (length out) room ≡ t → Made (fitted room n out k)
          case true e = f (fitted room n out k) (rw (fitted, e)) (rw (fitted, e)) (rw (fitted, e))
          case false e = refuses 6 (length out) (rw (fitted, e)) refl (λ ne. absurd (ne refl))

      says : (x : Reading) → Made (answer room x)
      says unreadable = refuses 7 0 refl refl (λ ne. refl)
      says malformed = refuses 9 0 refl refl (λ ne. refl)
      says (newer h) = fit 8 (id_line h.identifier ++ version_line h.version) 0 (λ a n p k. newer_told n p k)
      says (no_result i) = fit 0 (id_line i ++ none_line) 0 (λ a n p k. tells n p)
      says (results i rs) = fit 0 (id_line i ++ lines rs) (ignored_of rs) (λ a n p k. tells n p)

      go : (t : Bool) → leb (length body) byte_limit ≡ t → Made (report body room)
      go true e = rw (report, e) (says (reading body))
      go false e = refuses 1 0 (rw (report, e)) refl (λ ne. refl)

  -- the number is one of 0, 1, 6, 7, 8 and 9
  pub report-numbers : one_of (0 ∷ 1 ∷ 6 ∷ 7 ∷ 8 ∷ 9 ∷ []) (report body room).number ≡ true
  unfolding refusal one_of
  report-numbers = go made
    where
      wider : (n : ℕ) → one_of (1 ∷ 6 ∷ 7 ∷ 9 ∷ []) n ≡ true → one_of (0 ∷ 1 ∷ 6 ∷ 7 ∷ 8 ∷ 9 ∷ []) n ≡ true
      wider n e = one_in (1 ∷ 6 ∷ 7 ∷ 9 ∷ []) (one_of (0 ∷ 1 ∷ 6 ∷ 7 ∷ 8 ∷ 9 ∷ [])) refl n e

      go : Made (report body room) → one_of (0 ∷ 1 ∷ 6 ∷ 7 ∷ 8 ∷ 9 ∷ []) (report body room).number ≡ true
      go (refuses n p e o z) = rw e (wider n o)
      go (tells n p) = rw n
      go (newer_told n p k) = rw n

  -- all but 0 and 8 are refusals: they write nothing and return zero counts
  pub report-refused : ((report body room).number ≡ 0 → ⊥) → ((report body room).number ≡ 8 → ⊥)
      → report body room ≡ refusal (report body room).number (report body room).place
  unfolding refusal
  report-refused ne nf = go made
    where
      go : Made (report body room) → report body room ≡ refusal (report body room).number (report body room).place
      go (refuses n p e o z) = rw e
      go (tells n p) = absurd (ne n)
      go (newer_told n p k) = absurd (nf n)

  -- the place is 0 but for 6, where it is the bytes needed
  pub report-place : ((report body room).number ≡ 6 → ⊥) → (report body room).place ≡ 0
  unfolding refusal
  report-place ne = go made
    where
      go : Made (report body room) → (report body room).place ≡ 0
      go (refuses n p e o z) = ap (λ (a : Answer). a.place) e ∙ z (λ s. ne (ap (λ (a : Answer). a.number) e ∙ s))
      go (tells n p) = p
      go (newer_told n p k) = p

  -- an ignored count of zero where the header version isn't 1
  pub report-eight : (report body room).number ≡ 8 → (report body room).ignored ≡ 0
  unfolding refusal
  report-eight e = go made
    where
      go : Made (report body room) → (report body room).ignored ≡ 0
      go (refuses n p q o z) = rw q
      go (tells n p) = absurd (let w : ◌≡◌ {A = ℕ} 0 8 = sym n ∙ e in omega arith)
      go (newer_told n p k) = k
