-- What a number means and what is wrong with an entry, stored: the words of each case of the definition are a phrase of the text. The premises are literally what a need
-- is handed.
use Prim.Native.Nat.{ℕ, zero, suc, ◌+◌, ◌<◌, ◌^◌}
use native.Mathlib.Omega.{arith}
use mathlib.Core.Path.{◌≡◌, refl, sym, ◌∙◌}
use mathlib.Core.Bool.{Bool, true, false, cond}
use Rattle.std.specs.Prelude.{nat_eq}
use Rattle.std.specs.List.{count_by}
use Rattle.std.proofs.lemmas.List.Recursion.{is_count_by}
use mathlib.Core.List.{List, [], ◌++◌, append-nil}
use lib.Dec.{eqb}
use lib.ListN.{length}
use borrow.Author.Tests.{eq-eqb, ne_eqb}
use Rattle.base_sequences.specs.Stored.{Clipped}
use Rattle.base_sequences.proofs.Clips.{clipped-then}
use Rattle.base_readers.specs.Readers.{run}
use Rattle.text_write.specs.Phrases.{start, phrase}
use Rattle.command_rules.specs.Messages.{feeds, fault_at, meaning}
use Rattle.command_rules.proofs.Lines.{meaning-six}
use Rattle.command_meanings.specs.Internal.{meanings, meaning_place}

-- ==== what is wrong with an entry

one_or_none : (t : Bool) (n : ℕ) → elim t [ true ↦ suc n | false ↦ n ] ≡ cond t (1 + n) n
one_or_none true n = omega arith
one_or_none false n = refl

-- the LF that the library counts are those of the definition
pub feeds-counted : (s : List ℕ) (n : ℕ) → n ≡ count_by (λ b. nat_eq b 10) s → n ≡ feeds s
unfolding feeds
feeds-counted s n e = e ∙ sym (is_count_by feeds (λ b. nat_eq b 10) refl (λ x xs. one_or_none (nat_eq x 10) (feeds xs)) s)

-- ==== what a number means

module _ (n place : ℕ) (list : List ℕ) (a : n ≡ 1 → ⊥) (b : n ≡ 2 → ⊥) (c : n ≡ 3 → ⊥) (d : n ≡ 4 → ⊥) (e : n ≡ 5 → ⊥) where
  meaning-other : phrase (meaning_place n) meanings ++ cond (eqb n 5) (fault_at list place) [] ≡ meaning n place list
  unfolding phrase start run meaning_place
  meaning-other = rw (meaning-six n place list a b c d e, ne_eqb n 1 a, ne_eqb n 2 b, ne_eqb n 3 c, ne_eqb n 4 d, ne_eqb n 5 e)

-- the phrase, and for 5 what is wrong with the entry
meaning-is : (n place : ℕ) (list : List ℕ) → phrase (meaning_place n) meanings ++ cond (eqb n 5) (fault_at list place) [] ≡ meaning n place list
unfolding phrase start run meaning_place meaning
meaning-is zero place list = refl
meaning-is (suc zero) place list = refl
meaning-is (suc (suc zero)) place list = refl
meaning-is (suc (suc (suc zero))) place list = refl
meaning-is (suc (suc (suc (suc zero)))) place list = refl
meaning-is (suc (suc (suc (suc (suc zero))))) place list = refl
meaning-is (suc (suc (suc (suc (suc (suc n)))))) place list =
    meaning-other (suc (suc (suc (suc (suc (suc n)))))) place list (λ e. omega (arith, e)) (λ e. omega (arith, e)) (λ e. omega (arith, e)) (λ e. omega (arith, e)) (λ e. omega (arith, e))

module _ (n place : ℕ) (list old : List ℕ) (to p : ℕ) (e : p ≡ meaning_place n) (o : List ℕ) (i : ℕ) (v : Clipped old to (phrase p meanings) o i) where
  said : Clipped old to (phrase (meaning_place n) meanings) o i
  said = rw e at v

  pub meaning-put : (n ≡ 5 → ⊥) → Clipped old to (meaning n place list) o i
  meaning-put d = rw (← meaning-is n place list, ne_eqb n 5 d, append-nil (phrase (meaning_place n) meanings)) said

  pub meaning-fault : n ≡ 5 → length old < 2 ^ 64 → (new : List ℕ) (r : ℕ) → Clipped o i (fault_at list place) new r → Clipped old to (meaning n place list) new r
  meaning-fault d l new r w = rw (← meaning-is n place list, eq-eqb n 5 d) (clipped-then (omega arith) said w)
