-- What holds of an entry of our own list, and of the whole list's answer.
use Prim.Native.Char.{code}
use Prim.Native.Nat.{ℕ, zero, suc, ◌+◌, ◌-◌, ◌≤◌, zero-le}
use native.Mathlib.Omega.{arith}
use mathlib.Core.Path.{◌≡◌, refl, sym}
use mathlib.Core.Bool.{Bool, true, false, ◌&&◌}
use mathlib.Core.List.{List, [], ◌∷◌}
use borrow.Author.Tests.{leb-true, eqb-true}
use lib.Dec.{eqb, leb}
use lib.ListN.{length, get_or}
use Rattle.base_sequences.proofs.Booleans.{and_left, and_right, cond-le}
use Rattle.base_readers.specs.Locality.{Fits}
use Rattle.base_readers.specs.Walks.{walk}
use Rattle.base_readers.proofs.Readers.{there}
use Rattle.ownlist_rules.specs.OwnList.{entry_limit, longest, entry_text, entry, entry_at, own_list}
use Rattle.base_readers.specs.Texts.{within}
use Rattle.ownlist_rules.specs.Utf8.{lead}

-- ==== an entry

-- the tests that an entry passes
abbrev fills : List ℕ → Bool
fills xs = leb 1 (entry_text xs) && leb (entry_text xs) longest

abbrev stops : List ℕ → Bool
stops xs = eqb (get_or xs (entry_text xs) 0) (code "\n")

pub entry-fits : Fits entry
unfolding entry
entry-fits xs =
    cond-le (fills xs && stops xs) (entry_text xs + 1) 0 (length xs)
    (λ e. omega (arith, there (λ x. eqb x (code "\n")) refl xs (entry_text xs) (and_right (fills xs) (stops xs) e)))
    zero-le

-- its text has 1 to 255 bytes
pub entry-is : (xs : List ℕ) (n : ℕ) → entry xs ≡ suc n → (1 ≤ n) × (n ≤ longest)
unfolding entry
entry-is xs n e = go (fills xs && stops xs) refl
  where
    go : (t : Bool) → (fills xs && stops xs) ≡ t → (1 ≤ n) × (n ≤ longest)
    go false q = absurd (let z : 0 ≡ suc n = rw (entry, q) at e in omega arith)
    go true q =
        let z : entry_text xs + 1 ≡ suc n = rw (entry, q) at e in
        let f = and_left (fills xs) (stops xs) q in
        let a = leb-true 1 (entry_text xs) (and_left (leb 1 (entry_text xs)) (leb (entry_text xs) longest) f) in
        let b = leb-true (entry_text xs) longest (and_right (leb 1 (entry_text xs)) (leb (entry_text xs) longest) f) in
        (omega arith, omega arith)

-- and ends where its LF stands
pub entry-ends : (xs : List ℕ) (n : ℕ) → entry xs ≡ suc n → (n ≡ entry_text xs) × (get_or xs n 0 ≡ code "\n")
unfolding entry
entry-ends xs n e = go (fills xs && stops xs) refl
  where
    go : (t : Bool) → (fills xs && stops xs) ≡ t → (n ≡ entry_text xs) × (get_or xs n 0 ≡ code "\n")
    go false q = absurd (let z : 0 ≡ suc n = rw (entry, q) at e in omega arith)
    go true q =
        let z : entry_text xs + 1 ≡ suc n = rw (entry, q) at e in
        let m : n ≡ entry_text xs = omega arith in
        (m, rw m (eqb-true (get_or xs (entry_text xs) 0) (code "\n") (and_right (fills xs) (stops xs) q)))

-- ==== it takes no more than there is

pub lead-most : (a : ℕ) → lead a ≤ 4
unfolding lead
lead-most a =
    cond-le (within 194 223 a) 2 _ 4 (λ e. omega arith)
    (cond-le (within 224 239 a) 3 _ 4 (λ e. omega arith) (cond-le (within 240 244 a) 4 0 4 (λ e. omega arith) (omega arith)))

-- ==== the whole list

-- its answer is 0 or 5
walk-five : (at count k : ℕ) (xs : List ℕ) (n : ℕ) → (walk entry_at at count k xs).number ≡ suc n → suc n ≡ 5
unfolding walk entry_at
walk-five at count zero [] n e = absurd (omega arith)
walk-five at count (suc k) [] n e = absurd (omega arith)
walk-five at count (suc k) (x ∷ xs) n e = walk-five (suc at) count k xs n e
walk-five at count zero (x ∷ xs) n e = go (λ k. walk-five (suc at) (suc count) k xs n) (entry (x ∷ xs)) (leb entry_limit count) refl refl
  where
    go : ((k : ℕ) → (walk entry_at (suc at) (suc count) k xs).number ≡ suc n → suc n ≡ 5) → (m : ℕ) (t : Bool) → entry (x ∷ xs) ≡ m → leb entry_limit count ≡ t → suc n ≡ 5
    go ih zero t p l = sym (rw (walk, entry_at, p) at e)
    go ih (suc m) true p l = sym (rw (walk, entry_at, p, l) at e)
    go ih (suc m) false p l = ih (suc m - 1) (rw (walk, entry_at, p, l) at e)

pub list-five : (list : List ℕ) (n : ℕ) → (own_list list).number ≡ suc n → suc n ≡ 5
list-five list n e = walk-five 0 0 0 list n e
