-- What parsers give at a place of a list, from the facts that code has there, by moving what they give in front of the rest.
use Prim.Native.Nat.{ℕ, zero, suc, ◌+◌, ◌-◌, ◌≤◌, ◌<◌}
use native.Mathlib.Omega.{arith}
use mathlib.Core.Path.{◌≡◌, refl, sym, ap, ◌∙◌}
use mathlib.Core.Bool.{Bool, true, false}
use mathlib.Core.List.{List, [], ◌∷◌}
use mathlib.Core.Option.{none, some}
use lib.Dec.{eqb}
use lib.ListN.{length, drop, take, get_or, drop_of_length-le}
use lib.Seq.{drop-drop, drop-cons, get_or-drop}
use Rattle.base_readers.specs.Texts.{starts, follows}
use Rattle.base_readers.specs.Readers.{Reader}
use Rattle.base_readers.specs.Parsers.{Got, nothing, got, Parser, after, ◌>>=◌, give, when, ahead, end, byte, taken, skipping, text, pass, branch, optional}
use Rattle.base_readers.specs.Places.{from}
use Rattle.base_readers.proofs.Texts.{starts_first}
use Rattle.base_readers.proofs.Sequencing.{no-got, after-after, bind-none, bind_is, give-is, when-is, when-not, ahead-is, ahead-not, end_is, byte-is, byte-not, taken_is, skipping-is, text-is, text-not, pass-is, pass-not, branch_yes, branch_no, optional-some, optional-none}
use native.Mathlib.Nat.{add-zero}

-- ==== what a parser gave at a place

pub record Took {A : Type 0} (p : Parser A) (s : List ℕ) (at : ℕ) (a : A) (e : ℕ) : Type 0 where
  pub size : ℕ
  pub is : p (drop at s) ≡ got a size
  pub sum : e ≡ at + size

module _ {A : Type 0} (p : Parser A) (s : List ℕ) (at : ℕ) where
  pub took : (a : A) (e : ℕ) → got a e ≡ from p s at → Took p s at a e
  unfolding from after
  took a e h = go (p (drop at s)) refl
    where
      go : (g : Got A) → p (drop at s) ≡ g → Took p s at a e
      go nothing q = absurd (no-got (sym (h ∙ ap (after at) q)))
      go (got b n) q =
          let w : got a e ≡ got b (at + n) = h ∙ ap (after at) q in
          let u : a ≡ b = cc in
          let v : e ≡ at + n = cc in
          record { size = n; is = rw (q, u); sum = v }

  pub none-at : nothing ≡ from p s at → p (drop at s) ≡ nothing
  unfolding from after
  none-at h = go (p (drop at s)) refl
    where
      go : (g : Got A) → p (drop at s) ≡ g → p (drop at s) ≡ nothing
      go nothing q = q
      go (got b n) q = absurd (no-got (h ∙ ap (after at) q))

  -- a value, and where it ends
  pub at-got : (a : A) (n e : ℕ) → p (drop at s) ≡ got a n → e ≡ at + n → got a e ≡ from p s at
  unfolding from after
  at-got a n e q z = ap (λ (k : ℕ). got a k) z ∙ ap (after at) (sym q)

  -- no value
  pub at_none : p (drop at s) ≡ nothing → nothing ≡ from p s at
  unfolding from after
  at_none q = ap (after at) (sym q)

-- ==== one after the other

module _ {A B : Type 0} (p : Parser A) (f : A → Parser B) (s : List ℕ) (at : ℕ) where
  -- what is left is f's to read
  pub goes_on : (a : A) (e : ℕ) (x : Got B) → got a e ≡ from p s at → x ≡ from (f a) s e → x ≡ from (◌>>=◌ p f) s at
  unfolding from
  goes_on a e x h k =
      let t = took p s at a e h in
      let n = t.size in
      let m : from (f a) s e ≡ after at (after n (f a (drop n (drop at s)))) = moved a e n t.sum in
      k ∙ (m ∙ ap (after at) (sym (bind_is p f (drop at s) a n t.is)))
    where
      moved : (a : A) (e n : ℕ) → e ≡ at + n → from (f a) s e ≡ after at (after n (f a (drop n (drop at s))))
      moved a e n q = rw (q, after-after at n (f a (drop n (drop at s))), drop-drop n at s)

  pub stops : nothing ≡ from p s at → nothing ≡ from (◌>>=◌ p f) s at
  stops h = at_none (◌>>=◌ p f) s at (bind-none p f (drop at s) (none-at p s at h))

pub gives : {A : Type 0} (a : A) (s : List ℕ) (at : ℕ) → got a at ≡ from (give a) s at
gives a s at = at-got (give a) s at a 0 at (give-is a (drop at s)) (omega arith)

-- ==== tests

module _ (t : Bool) (s : List ℕ) (at : ℕ) where
  pub passes : t ≡ true → got tt at ≡ from (when t) s at
  passes e = at-got (when t) s at tt 0 at (when-is t (drop at s) e) (omega arith)

  pub fails : t ≡ false → nothing ≡ from (when t) s at
  fails e = at_none (when t) s at (when-not t (drop at s) e)

module _ (c : ℕ → Bool) (s : List ℕ) (at : ℕ) (r : Bool) where
  pub ahead-at : r ≡ follows c (drop at s) → r ≡ true → got tt at ≡ from (ahead c) s at
  ahead-at q t = at-got (ahead c) s at tt 0 at (ahead-is c (drop at s) (sym q ∙ t)) (omega arith)

  pub ahead_none : r ≡ follows c (drop at s) → r ≡ false → nothing ≡ from (ahead c) s at
  ahead_none q t = at_none (ahead c) s at (ahead-not c (drop at s) (sym q ∙ t))

module _ (s : List ℕ) (at : ℕ) where
  pub end-at : length s ≤ at → got tt at ≡ from end s at
  end-at h = at-got end s at tt 0 at (ap end (drop_of_length-le s h) ∙ end_is) (omega arith)

  pub end-not : at < length s → nothing ≡ from end s at
  unfolding end
  end-not h = at_none end s at (ap end (drop-cons s at 0 h))

-- ==== one byte

module _ (c : ℕ) (s : List ℕ) (at : ℕ) (r : Bool) where
  pub byte_at : r ≡ eqb (get_or (drop at s) 0 0) c → r ≡ true → eqb 0 c ≡ false → got tt (at + 1) ≡ from (byte c) s at
  byte_at q t z = at-got (byte c) s at tt 1 (at + 1) (byte-is c (drop at s) (sym (starts_first (λ b. eqb b c) z (drop at s)) ∙ (sym q ∙ t))) refl

  pub byte-none : r ≡ eqb (get_or (drop at s) 0 0) c → r ≡ false → nothing ≡ from (byte c) s at
  unfolding starts
  byte-none q t = at_none (byte c) s at (go (drop at s) (sym q ∙ t))
    where
      go : (xs : List ℕ) → eqb (get_or xs 0 0) c ≡ false → byte c xs ≡ nothing
      go [] d = byte-not c [] refl
      go (x ∷ xs) d = byte-not c (x ∷ xs) d

-- ==== what a reader takes

module _ (f : Reader) (s : List ℕ) (at e : ℕ) where
  pub text_at : e ≡ at + f (drop at s) → (e ≡ at → ⊥) → got (take (e - at) (drop at s)) e ≡ from (text f) s at
  text_at q ne = go (f (drop at s)) refl
    where
      go : (n : ℕ) → f (drop at s) ≡ n → got (take (e - at) (drop at s)) e ≡ from (text f) s at
      go zero z = absurd (ne (omega arith))
      go (suc n) z = let d : e - at ≡ suc n = omega arith in rw d (at-got (text f) s at (take (suc n) (drop at s)) (suc n) e (text-is f (drop at s) n z) (omega arith))

  pub text-none : e ≡ at + f (drop at s) → e ≡ at → nothing ≡ from (text f) s at
  text-none q z = at_none (text f) s at (text-not f (drop at s) (omega arith))

  pub pass-at : e ≡ at + f (drop at s) → (e ≡ at → ⊥) → got tt e ≡ from (pass f) s at
  pass-at q ne = go (f (drop at s)) refl
    where
      go : (n : ℕ) → f (drop at s) ≡ n → got tt e ≡ from (pass f) s at
      go zero z = absurd (ne (omega arith))
      go (suc n) z = at-got (pass f) s at tt (suc n) e (pass-is f (drop at s) n z) (omega arith)

  pub pass-none : e ≡ at + f (drop at s) → e ≡ at → nothing ≡ from (pass f) s at
  pass-none q z = at_none (pass f) s at (pass-not f (drop at s) (omega arith))

  pub taken_at : e ≡ at + f (drop at s) → got (take (e - at) (drop at s)) e ≡ from (taken f) s at
  taken_at q =
      let d : e - at ≡ f (drop at s) = omega arith in
      rw d (at-got (taken f) s at (take (f (drop at s)) (drop at s)) (f (drop at s)) e (taken_is f (drop at s) (f (drop at s)) refl) q)

  pub skipping-at : e ≡ at + f (drop at s) → got tt e ≡ from (skipping f) s at
  skipping-at q = at-got (skipping f) s at tt (f (drop at s)) e (skipping-is f (drop at s) (f (drop at s)) refl) q

-- ==== choices

module _ {A : Type 0} (test : List ℕ → Bool) (p q : Parser A) (s : List ℕ) (at : ℕ) (x : Got A) where
  pub this-way : test (drop at s) ≡ true → x ≡ from p s at → x ≡ from (branch test p q) s at
  unfolding from
  this-way e h = h ∙ ap (after at) (sym (branch_yes test p q (drop at s) e))

  pub that-way : test (drop at s) ≡ false → x ≡ from q s at → x ≡ from (branch test p q) s at
  unfolding from
  that-way e h = h ∙ ap (after at) (sym (branch_no test p q (drop at s) e))

module _ {A : Type 0} (p : Parser A) (s : List ℕ) (at : ℕ) where
  pub one_more : (a : A) (e : ℕ) → got a e ≡ from p s at → got (some a) e ≡ from (optional p) s at
  one_more a e h = let t = took p s at a e h in at-got (optional p) s at (some a) t.size e (optional-some p (drop at s) a t.size t.is) t.sum

  pub none-there : nothing ≡ from p s at → got none at ≡ from (optional p) s at
  none-there h = at-got (optional p) s at none 0 at (optional-none p (drop at s) (none-at p s at h)) (omega arith)

-- a byte past the end e of what a reader takes
pub behind : (s : List ℕ) (at n k e : ℕ) → e ≡ at + n → get_or (drop e s) k 0 ≡ get_or (drop at s) (n + k) 0
behind s at n k e q = simp get_or-drop (ap (λ (j : ℕ). get_or s j 0) (omega arith))

pub behind-first : (s : List ℕ) (at n e : ℕ) → e ≡ at + n → get_or (drop e s) 0 0 ≡ get_or (drop at s) n 0
behind-first s at n e q = behind s at n 0 e q ∙ rw add-zero
