-- Verdicts read by loops: all seals, bytes from 0 to 3, the oldest pass.
use Prim.Native.Nat.{ℕ, zero, suc, ◌+◌, ◌-◌, ◌%◌}
use native.Mathlib.Omega.{arith}
use mathlib.Core.Path.{◌≡◌, refl, sym, ap, ◌∙◌}
use mathlib.Core.Bool.{Bool, true, false, cond, ◌&&◌}
use mathlib.Core.List.{List, [], ◌∷◌, ◌++◌}
use borrow.Author.Tests.{eq-eqb, ne_eqb}
use lib.Dec.{eqb, leb}
use lib.ListN.{length, get_or}
use Rattle.base_sequences.proofs.Booleans.{and_none}
use Rattle.std.specs.List.{list_all}
use Rattle.base_sequences.proofs.Lists.{empty-is}
use Rattle.arc_rules.specs.Chain.{seal_good, signature_good, all, valid_for, passes, oldest_from, oldest_pass}

-- ==== all of a list

-- the library's word for it
pub all-is : (p : ℕ → Bool) (v : List ℕ) → list_all p v ≡ all p v
unfolding all
all-is p [] = refl
all-is p (x ∷ v) = ap (λ (b : Bool). p x && b) (all-is p v)

-- ==== bytes from 0 to 3, one per instance

abbrev pub verdict : ℕ → Bool
verdict b = leb b 3

-- another length
pub valid-long : (n : ℕ) (v : List ℕ) → (length v ≡ n → ⊥) → eqb (length v) n ≡ valid_for n v
unfolding valid_for
valid-long n v h = rw (valid_for, ne_eqb (length v) n h)

-- with the length right, the bytes decide
pub valid-all : (n : ℕ) (v : List ℕ) → length v ≡ n → (r : Bool) → r ≡ list_all verdict v → r ≡ valid_for n v
unfolding valid_for
valid-all n v e r q = q ∙ (all-is verdict v ∙ rw (valid_for, eq-eqb (length v) n e))

-- ==== all seals and the last signature

module _ (v : List ℕ) where
  pub pass-none : length v ≡ 0 → false ≡ passes v
  unfolding passes all
  pass-none e = rw (empty-is v e)

  pub pass-last : (r : Bool) → get_or v (length v - 1) 0 % 2 ≡ 1 → r ≡ all seal_good v → r ≡ passes v
  unfolding passes
  pass-last r h e = rw (passes, eq-eqb (get_or v (length v - 1) 0 % 2) 1 h) (e ∙ go (all seal_good v))
    where
      go : (b : Bool) → b ≡ (b && true)
      go true = refl
      go false = refl

  pub pass-bad : (get_or v (length v - 1) 0 % 2 ≡ 1 → ⊥) → false ≡ passes v
  unfolding passes
  pass-bad h = rw (passes, ne_eqb (get_or v (length v - 1) 0 % 2) 1 h) (sym (and_none (all seal_good v)))

-- ==== the highest instance with a bad signature: the last element decides first

-- one element more at the end
oldest-last : (j : ℕ) (vs : List ℕ) (x : ℕ) → oldest_from j (vs ++ (x ∷ [])) ≡ cond (signature_good x) (oldest_from j vs) (suc (j + length vs))
unfolding oldest_from
oldest-last j [] x = ap (λ (k : ℕ). cond (signature_good x) 0 (suc k)) (omega arith)
oldest-last j (y ∷ ys) x = rw (oldest-last (suc j) ys x) (go (signature_good x))
  where
    go : (b : Bool)
        → elim (cond b (oldest_from (suc j) ys) (suc (suc j + length ys))) [ suc m ↦ suc m | zero ↦ cond (signature_good y) 0 (suc j) ]
        ≡ cond b (elim (oldest_from (suc j) ys) [ suc m ↦ suc m | zero ↦ cond (signature_good y) 0 (suc j) ]) (suc (j + suc (length ys)))
    go true = refl
    go false = omega arith

-- what is left answers as the whole
module _ (v rest front : List ℕ) (last : ℕ) (q : (rest ≡ front ++ (last ∷ [])) × (length front + 1 ≡ length rest)) (w : oldest_pass rest ≡ oldest_pass v) where
  oldest-here : oldest_pass v ≡ cond (signature_good last) (oldest_pass front) (suc (1 + length front))
  oldest-here = sym w ∙ (ap oldest_pass q.0 ∙ oldest-last 1 front last)

  pub oldest-found : last % 2 ≡ 0 → length rest + 1 ≡ oldest_pass v
  oldest-found e =
      let b : signature_good last ≡ false = rw e in
      let o = rw b at oldest-here in
      omega (arith, o, q.1)

  pub oldest-less : (last % 2 ≡ 0 → ⊥) → oldest_pass front ≡ oldest_pass v
  oldest-less e =
      let b : signature_good last ≡ true = eq-eqb (last % 2) 1 (omega arith) in
      sym (rw b at oldest-here)

pub oldest-none : (v rest : List ℕ) → length rest ≡ 0 → oldest_pass rest ≡ oldest_pass v → 0 ≡ oldest_pass v
unfolding oldest_from
oldest-none v [] h w = w
oldest-none v (x ∷ rest) h w = absurd (omega arith)
