-- What each parser takes is there, and is at least so much, from the same of its parts, by what is known of the parts where it succeeds.
use Prim.Native.Nat.{ℕ, zero, suc, ◌+◌, ◌≤◌, zero-le}
use native.Mathlib.Nat.{le_of_suc-le-suc}
use native.Mathlib.Omega.{arith}
use mathlib.Core.Path.{◌≡◌, refl, sym, ap, ◌∙◌}
use mathlib.Core.Bool.{Bool, true, false}
use mathlib.Core.List.{List, [], ◌∷◌}
use lib.Dec.{eqb}
use lib.ListN.{length, drop, length-drop}
use Rattle.base_readers.specs.Texts.{starts}
use Rattle.base_readers.specs.Readers.{Reader}
use Rattle.base_readers.specs.Parsers.{Got, nothing, got, Parser, after, ◌>>=◌, give, when, ahead, end, byte, taken, skipping, text, pass, either, branch, optional, cons, several}
use Rattle.base_readers.specs.Places.{ending}
use Rattle.base_readers.specs.Locality.{Fits, Within, Starts}
use Rattle.base_readers.proofs.Sequencing.{bind_inv, give-inv, when-inv, ahead-inv, end-inv, byte-inv, taken-inv, skipping-inv, text-inv, pass-inv, Which, first, second, either-inv, branch_yes, branch_no, Perhaps, absent, present, optional-inv}

pub within-weaker : {A : Type 0} (j k : ℕ) (p : Parser A) → Within k p → j ≤ k → Within j p
within-weaker j k p P l xs a n h = let w = P xs a n h in (w.0, omega (arith, w.1))

-- what takes nothing stays within the list
none_in : (n : ℕ) (xs : List ℕ) → n ≡ 0 → (n ≤ length xs) × (0 ≤ n)
none_in n xs z = (omega arith, zero-le)

-- ==== one after the other

module _ {A B : Type 0} (k : ℕ) (p : Parser A) (f : A → Parser B) where
  pub bind-within : Within k p → ((a : A) → Within 0 (f a)) → Within k (◌>>=◌ p f)
  bind-within P Q xs b n h =
      let v = bind_inv p f xs b n h in
      let x = P xs v.val v.fst v.reads in
      let y = Q v.val (drop v.fst xs) b v.snd v.goes in
      (omega (arith, x, y, v.sum, length-drop v.fst xs), omega (arith, x, v.sum))

  -- what comes first may take nothing
  pub bind-within₂ : Within 0 p → ((a : A) → Within k (f a)) → Within k (◌>>=◌ p f)
  bind-within₂ P Q xs b n h =
      let v = bind_inv p f xs b n h in
      let x = P xs v.val v.fst v.reads in
      let y = Q v.val (drop v.fst xs) b v.snd v.goes in
      (omega (arith, x, y, v.sum, length-drop v.fst xs), omega (arith, y, v.sum))

-- ==== parsers that take nothing

pub give-within : {A : Type 0} (a : A) → Within 0 (give a)
give-within a xs b n h = none_in n xs (give-inv a xs b n h).1

pub when-within : (t : Bool) → Within 0 (when t)
when-within t xs u n h = none_in n xs (when-inv t xs u n h).1

pub ahead_within : (c : ℕ → Bool) → Within 0 (ahead c)
ahead_within c xs u n h = none_in n xs (ahead-inv c xs u n h).1

pub end-within : Within 0 end
end-within xs u n h = none_in n xs (end-inv xs u n h).1

-- ==== bytes and readers

pub byte-within : (c : ℕ) → Within 1 (byte c)
unfolding starts
byte-within c xs u n h = let v = byte-inv c xs u n h in (go xs v.0 v.1, omega (arith, v.1))
  where
    go : (ys : List ℕ) → Starts (λ b. eqb b c) ys → n ≡ 1 → n ≤ length ys
    go [] s l = absurd (let z : ◌≡◌ {A = ℕ} 0 1 = cc in omega arith)
    go (y ∷ ys) s l = omega arith

module _ (f : Reader) (F : Fits f) where
  pub taken-within : Within 0 (taken f)
  taken-within xs a n h = (rw (← (taken-inv f xs a n h).0) (F xs), zero-le)

  pub skipping-within : Within 0 (skipping f)
  skipping-within xs u n h = (rw (← skipping-inv f xs u n h) (F xs), zero-le)

  pub text-within : Within 1 (text f)
  text-within xs a n h = let v = text-inv f xs a n h in (omega (arith, F xs, v.takes), omega (arith, v.some))

  pub pass-within : Within 1 (pass f)
  pass-within xs u n h = let v = pass-inv f xs u n h in (omega (arith, F xs, v.takes), omega (arith, v.some))

-- ==== choices

pub either-within : {A : Type 0} (k : ℕ) (p q : Parser A) → Within k p → Within k q → Within k (either p q)
either-within k p q P Q xs a n h = go (either-inv p q xs a n h)
  where
    go : Which p q xs a n → (n ≤ length xs) × (k ≤ n)
    go (first e) = P xs a n e
    go (second e g) = Q xs a n g

pub branch-within : {A : Type 0} (k : ℕ) (test : List ℕ → Bool) (p q : Parser A) → Within k p → Within k q → Within k (branch test p q)
branch-within k test p q P Q xs a n h = go (test xs) refl
  where
    go : (b : Bool) → test xs ≡ b → (n ≤ length xs) × (k ≤ n)
    go true e = P xs a n (sym (branch_yes test p q xs e) ∙ h)
    go false e = Q xs a n (sym (branch_no test p q xs e) ∙ h)

pub optional-within : {A : Type 0} (k : ℕ) (p : Parser A) → Within k p → Within 0 (optional p)
optional-within {A} k p P xs o n h = go (optional-inv p xs o n h)
  where
    go : Perhaps p xs o n → (n ≤ length xs) × (0 ≤ n)
    go (absent e i z) = none_in n xs z
    go (present a e i) = ((P xs a n e).0, zero-le)

-- ==== repetition

ending-after : {A : Type 0} (k : ℕ) (g : Got (List A)) → ending (after k g) ≤ k + ending g
unfolding after
ending-after k nothing = zero-le
ending-after k (got l n) = omega arith

ending-cons : {A : Type 0} (a : A) (g : Got (List A)) → ending (cons a g) ≡ ending g
unfolding cons
ending-cons a nothing = refl
ending-cons a (got l n) = refl

module _ {A : Type 0} (j : ℕ) (p : Parser A) (P : Within j p) where
  several-fits : (k : ℕ) (xs : List ℕ) → k ≤ length xs → ending (several p k xs) ≤ length xs
  unfolding several
  several-fits k [] h = h
  several-fits (suc k) (x ∷ xs) h = omega (arith, ending-after 1 (several p k xs), several-fits k xs (le_of_suc-le-suc h))
  several-fits zero (x ∷ xs) h = go (λ k i. several-fits k xs i) (p (x ∷ xs)) refl
    where
      go : ((k : ℕ) → k ≤ length xs → ending (several p k xs) ≤ length xs) → (g : Got A) → p (x ∷ xs) ≡ g → ending (several p 0 (x ∷ xs)) ≤ suc (length xs)
      go ih nothing e = rw (several, e) zero-le
      go ih (got a zero) e = rw (several, e) zero-le
      go ih (got a (suc n)) e =
          let w = P (x ∷ xs) a (suc n) e in
          let b : n ≤ length xs = le_of_suc-le-suc w.0 in
          rw (several, e) (omega (arith, ending-after 1 (cons a (several p n xs)), ending-cons a (several p n xs), ih n b))

  pub several-within : Within 0 (several p 0)
  several-within xs l n h = let e : ending (several p 0 xs) ≡ n = ap ending h in (omega (arith, several-fits 0 xs zero-le), zero-le)
