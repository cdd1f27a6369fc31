-- "Longest run of letters, digits and hyphens that doesn't end in a hyphen" can also be read as the longest part of the run that ends in
-- no hyphen. The two readings differ only where a hyphen comes next, and no rule lets one follow a keyword. By induction on the run.
use Prim.Native.Nat.{ℕ, zero, suc, ◌+◌, ◌-◌, ◌≤◌, zero-le}
use native.Mathlib.Omega.{arith}
use mathlib.Core.Path.{◌≡◌, refl, sym, ◌∙◌}
use mathlib.Core.Bool.{Bool, true, false, not}
use mathlib.Core.List.{List, [], ◌∷◌}
use lib.Dec.{eqb}
use lib.ListN.{length, drop, take, get_or}
use lib.Seq.{get_or-take, length-take-le, get_or-drop}
use borrow.Author.Tests.{not-true, eqb-true}
use Rattle.base_sequences.proofs.Booleans.{both, true-not}
use Rattle.base_readers.specs.Texts.{within, outside}
use Rattle.base_readers.specs.Readers.{Reader, run}
use Rattle.base_readers.specs.Locality.{Follows}
use Rattle.base_readers.proofs.Texts.{follows-not, starts_first}
use Rattle.base_readers.proofs.Readers.{run_more, run_ends, run_fits, passing-yes, passing-inv}
use Rattle.lexis_rules.specs.declared.Class.TheVariants.{Keyword}
use Rattle.lexis_rules.specs.Bytes.{in_class, letter}
use Rattle.lexis_rules.specs.Pieces.{unhyphened, keyword}
use Rattle.lexis_laws.proofs.Bytes.{class-zero}

abbrev word : Reader
word = run (in_class Keyword)

-- a hyphen counts only in front of something that counts
abbrev counts : Bool → ℕ → ℕ
counts true zero = 0
counts true (suc n) = suc (suc n)
counts false n = suc n

-- the longest part of the run that doesn't end in a hyphen
unfoldable pub trimmed : Reader
trimmed [] = 0
trimmed (x ∷ xs) = elim (in_class Keyword x) [ true ↦ counts (eqb x 45) (trimmed xs) | false ↦ 0 ]

module _ (x : ℕ) (xs : List ℕ) where
  trimmed-more : in_class Keyword x ≡ true → trimmed (x ∷ xs) ≡ counts (eqb x 45) (trimmed xs)
  unfolding trimmed
  trimmed-more e = rw (trimmed, e)

  trimmed-stop : in_class Keyword x ≡ false → trimmed (x ∷ xs) ≡ 0
  unfolding trimmed
  trimmed-stop e = rw (trimmed, e)

  word-stop : in_class Keyword x ≡ false → word (x ∷ xs) ≡ 0
  unfolding run
  word-stop e = rw (run, e)

counts_some : (t : Bool) (n : ℕ) → counts t (suc n) ≡ suc (suc n)
counts_some true n = refl
counts_some false n = refl

counts-le : (t : Bool) (n : ℕ) → counts t n ≤ suc n
counts-le true zero = zero-le
counts-le true (suc n) = omega arith
counts-le false n = omega arith

trimmed-le : (xs : List ℕ) → trimmed xs ≤ word xs
unfolding trimmed
trimmed-le [] = zero-le
trimmed-le (x ∷ xs) = go (in_class Keyword x) refl (trimmed-le xs)
  where
    go : (t : Bool) → in_class Keyword x ≡ t → trimmed xs ≤ word xs → trimmed (x ∷ xs) ≤ word (x ∷ xs)
    go true e ih = omega (arith, trimmed-more x xs e, counts-le (eqb x 45) (trimmed xs), run_more (in_class Keyword) x xs e)
    go false e ih = omega (arith, trimmed-stop x xs e)

-- ==== a run whose last byte is no hyphen is trimmed of nothing

run-trimmed : (xs : List ℕ) (n : ℕ) → word xs ≡ suc n → eqb (get_or xs n 0) 45 ≡ false → trimmed xs ≡ suc n
unfolding run
run-trimmed [] n e h = absurd (omega arith)
run-trimmed (x ∷ xs) n e h = go (in_class Keyword x) refl n e h (run-trimmed xs)
  where
    go : (t : Bool) → in_class Keyword x ≡ t → (n : ℕ) → word (x ∷ xs) ≡ suc n → eqb (get_or (x ∷ xs) n 0) 45 ≡ false
        → ((n : ℕ) → word xs ≡ suc n → eqb (get_or xs n 0) 45 ≡ false → trimmed xs ≡ suc n) → trimmed (x ∷ xs) ≡ suc n
    go false q n e h ih = absurd (omega (arith, word-stop x xs q))
    go true q zero e h ih = trimmed-more x xs q ∙ rw h (omega (arith, trimmed-le xs, run_more (in_class Keyword) x xs q))
    go true q (suc n) e h ih =
        let i : trimmed xs ≡ suc n = ih n (omega (arith, run_more (in_class Keyword) x xs q)) h in
        trimmed-more x xs q ∙ rw i (counts_some (eqb x 45) n)

-- ==== a trimmed run that no hyphen follows is the whole run

-- what is known of such a run
pub record Whole (xs : List ℕ) (n : ℕ) : Type 0 where
  pub all : word xs ≡ suc n
  pub last : eqb (get_or xs n 0) 45 ≡ false

none_left : (xs : List ℕ) → trimmed xs ≡ 0 → eqb (get_or xs 0 0) 45 ≡ false → word xs ≡ 0
unfolding run
none_left [] e h = refl
none_left (x ∷ xs) e h = go (in_class Keyword x) refl
  where
    go : (t : Bool) → in_class Keyword x ≡ t → word (x ∷ xs) ≡ 0
    go false q = word-stop x xs q
    go true q = let i : suc (trimmed xs) ≡ 0 = rw h at (sym (trimmed-more x xs q) ∙ e) in absurd (omega arith)

trimmed-run : (xs : List ℕ) (n : ℕ) → trimmed xs ≡ suc n → eqb (get_or xs (suc n) 0) 45 ≡ false → Whole xs n
unfolding trimmed
trimmed-run [] n e h = absurd (omega arith)
trimmed-run (x ∷ xs) n e h = go (in_class Keyword x) refl (trimmed xs) refl (trimmed-run xs)
  where
    go : (t : Bool) → in_class Keyword x ≡ t → (k : ℕ) → trimmed xs ≡ k
        → ((n : ℕ) → trimmed xs ≡ suc n → eqb (get_or xs (suc n) 0) 45 ≡ false → Whole xs n) → Whole (x ∷ xs) n
    go false q k j ih = absurd (omega (arith, trimmed-stop x xs q))
    go true q zero j ih = first (eqb x 45) refl
      where
        first : (t : Bool) → eqb x 45 ≡ t → Whole (x ∷ xs) n
        first true z = absurd (let i : 0 ≡ suc n = rw (j, z) at (sym (trimmed-more x xs q) ∙ e) in omega arith)
        first false z =
            let i : 1 ≡ suc n = rw (j, z) at (sym (trimmed-more x xs q) ∙ e) in
            let o : n ≡ 0 = omega arith in
            let m : eqb (get_or xs 0 0) 45 ≡ false = rw o at h in
            record { all = run_more (in_class Keyword) x xs q ∙ omega (arith, none_left xs j m); last = rw o z }
    go true q (suc k) j ih =
        let i : suc (suc k) ≡ suc n = sym (counts_some (eqb x 45) k) ∙ (rw j at (sym (trimmed-more x xs q) ∙ e)) in
        let o : n ≡ suc k = omega arith in
        let m : eqb (get_or xs (suc k) 0) 45 ≡ false = rw o at h in
        let v = ih k j m in
        record { all = run_more (in_class Keyword) x xs q ∙ omega (arith, v.all); last = rw o v.last }

-- ==== the two readings

whole-unhyphened : (xs : List ℕ) (n : ℕ) → word xs ≡ suc n → unhyphened (take (suc n) xs) ≡ not (eqb (get_or xs n 0) 45)
unfolding unhyphened
whole-unhyphened xs n e =
    let l : length (take (suc n) xs) ≡ suc n = length-take-le (suc n) xs (rw e at (run_fits (in_class Keyword) xs)) in
    let j : suc n - 1 ≡ n = omega arith in
    rw (l, j, get_or-take (suc n) xs n 0 (omega arith))

hyphen-in : in_class Keyword 45 ≡ true
unfolding in_class letter within
hyphen-in = refl

-- no hyphen follows a run
ended : (xs : List ℕ) (n : ℕ) → word xs ≡ suc n → eqb (get_or xs (suc n) 0) 45 ≡ false
ended xs n e = go (eqb (get_or xs (suc n) 0) 45) refl
  where
    next : in_class Keyword (get_or xs (suc n) 0) ≡ false
    next =
        let f : Follows (outside (in_class Keyword)) (drop (suc n) xs) = rw (← e) (run_ends (in_class Keyword) xs) in
        let g : in_class Keyword (get_or (drop (suc n) xs) 0 0) ≡ false = starts_first (in_class Keyword) (class-zero Keyword) (drop (suc n) xs) ∙ follows-not (in_class Keyword) (drop (suc n) xs) f in
        let k : suc n + 0 ≡ suc n = omega arith in
        rw (get_or-drop, k) at g

    go : (t : Bool) → eqb (get_or xs (suc n) 0) 45 ≡ t → eqb (get_or xs (suc n) 0) 45 ≡ false
    go true q = absurd (both (in_class Keyword 45) (rw (eqb-true (get_or xs (suc n) 0) 45 q) at next) hyphen-in)
    go false q = q

pub keyword-trimmed : (xs : List ℕ) (n : ℕ) → keyword xs ≡ suc n → (trimmed xs ≡ suc n) × (eqb (get_or xs (suc n) 0) 45 ≡ false)
keyword-trimmed xs n e =
    let v = passing-inv unhyphened word xs n e in
    let h : eqb (get_or xs n 0) 45 ≡ false = not-true (eqb (get_or xs n 0) 45) (sym (whole-unhyphened xs n v.0) ∙ v.1) in
    (run-trimmed xs n v.0 h, ended xs n v.0)

pub trimmed-keyword : (xs : List ℕ) (n : ℕ) → trimmed xs ≡ suc n → eqb (get_or xs (suc n) 0) 45 ≡ false → keyword xs ≡ suc n
trimmed-keyword xs n e h =
    let v = trimmed-run xs n e h in
    let u : unhyphened (take (word xs) xs) ≡ true = rw v.all (whole-unhyphened xs n v.all ∙ true-not (eqb (get_or xs n 0) 45) v.last) in
    passing-yes unhyphened word xs u ∙ v.all
