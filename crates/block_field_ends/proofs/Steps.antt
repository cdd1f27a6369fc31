-- From place to place of a field: past one byte of the text, past a CRLF with a further line behind it, and to the last CRLF. From each such
-- place on a field ends where it ends from the first, or it has no end from either.
use Prim.Native.Char.{code}
use Prim.Native.Nat.{ℕ, zero, suc, ◌+◌, ◌≤◌, ◌<◌}
use native.Mathlib.Nat.{add-zero}
use native.Mathlib.Numerals.{add-one}
use native.Mathlib.Omega.{arith}
use mathlib.Core.Path.{◌≡◌, refl, sym, ap, ◌∙◌}
use mathlib.Core.Bool.{Bool, true, false, not, ◌&&◌, ◌||◌, beq}
use mathlib.Core.List.{List, ◌∷◌}
use borrow.Author.Tests.{eqb-true, ne_eqb}
use lib.Dec.{eqb}
use lib.ListN.{length, get_or, drop, drop_of_length-le}
use lib.Seq.{drop-cons, get_or-drop}
use Rattle.base_sequences.proofs.Booleans.{no_true, or-none}
use Rattle.base_readers.specs.Texts.{one_of}
use Rattle.base_readers.proofs.Readers.{there-at}
use Rattle.lexis_rules.specs.declared.Class.TheVariants.{Blank}
use Rattle.lexis_rules.specs.Bytes.{in_class}
use Rattle.block_rules.specs.Fields.{in_line}
use Rattle.block_field_ends.specs.Ends.{whole}
use Rattle.block_field_ends.specs.Internal.{broken, end_or, Leads, past_feed, Onward}
use Rattle.block_field_ends.proofs.Ends.{further, whole-past, whole-folded, whole-last, whole-return, whole-feed, whole-empty}

-- ==== the end, or none

module _ (none : ℕ) (s : List ℕ) (at : ℕ) where
  end_none : whole (drop at s) ≡ 0 → end_or none s at ≡ none
  unfolding end_or
  end_none e = rw (end_or, e)

  end-some : (n : ℕ) → whole (drop at s) ≡ suc n → end_or none s at ≡ at + suc n
  unfolding end_or
  end-some n e = rw (end_or, e)

-- the place itself where there is none
end-self : (s : List ℕ) (at : ℕ) → end_or at s at ≡ at + whole (drop at s)
end-self s at = go (whole (drop at s)) refl
  where
    go : (n : ℕ) → whole (drop at s) ≡ n → end_or at s at ≡ at + whole (drop at s)
    go zero e = rw (end_none at s at e, e) (omega arith)
    go (suc n) e = rw (end-some at s at n e, e)

-- ==== from place to place

pub leads-here : {s : List ℕ} {i : ℕ} → Leads s i i
leads-here = record { same = λ none. refl }

pub leads-on : {s : List ℕ} {i j k : ℕ} → Leads s i j → Leads s j k → Leads s i k
leads-on a b = record { same = λ none. a.same none ∙ b.same none }

leads-further : (s : List ℕ) (i k : ℕ) → whole (drop i s) ≡ further k (whole (drop (i + k) s)) → Leads s i (i + k)
leads-further s i k q = record { same = λ none. go none (whole (drop (i + k) s)) refl }
  where
    go : (none n : ℕ) → whole (drop (i + k) s) ≡ n → end_or none s i ≡ end_or none s (i + k)
    go none zero e = rw (end_none none s (i + k) e) (end_none none s i (q ∙ rw e))
    go none (suc n) e =
        let o : further k (suc n) ≡ suc (k + n) = omega arith in
        rw (end-some none s (i + k) n e, end-some none s i (k + n) (q ∙ rw e o)) (omega arith)

module _ (s : List ℕ) (i : ℕ) (h : i < length s) where
  here : drop i s ≡ get_or s i 0 ∷ drop (i + 1) s
  here = rw add-one (drop-cons s i 0 h)

  -- past a byte of the text
  pub leads-text : in_line (get_or s i 0) ≡ true → Leads s i (i + 1)
  leads-text t = leads-further s i 1 (ap whole here ∙ whole-past (get_or s i 0) (drop (i + 1) s) t)

-- at a CRLF
module _ (s : List ℕ) (i : ℕ) (p : eqb (get_or (drop i s) 0 0) (code "\r") ≡ true) (q : eqb (get_or (drop i s) 1 0) (code "\n") ≡ true) where
  crlf : drop i s ≡ code "\r" ∷ code "\n" ∷ drop (i + 2) s
  crlf =
      let h : i + 1 < length s = there-at (λ x. eqb x (code "\n")) refl s i 1 q in
      let k : i < length s = omega arith in
      let a : get_or s i 0 ≡ code "\r" = eqb-true (get_or s i 0) (code "\r") (simp (get_or-drop, add-zero) at p) in
      let b : get_or s (suc i) 0 ≡ code "\n" = eqb-true (get_or s (suc i) 0) (code "\n") (simp (get_or-drop, add-one) at q) in
      let m : i + 2 ≡ suc (suc i) = omega arith in
      rw (drop-cons s i 0 k, drop-cons s (suc i) 0 (omega arith), a, b, m)

  -- past it, where a further line is behind it
  pub leads-fold : in_class Blank (get_or (drop (i + 2) s) 0 0) ≡ true → Leads s i (i + 2)
  leads-fold t = leads-further s i 2 (ap whole crlf ∙ whole-folded (drop (i + 2) s) t)

  -- and where none is the field ends
  pub ends-here : in_class Blank (get_or (drop (i + 2) s) 0 0) ≡ false → (none : ℕ) → end_or none s i ≡ i + 2
  ends-here t none = end-some none s i 1 (ap whole crlf ∙ whole-last (drop (i + 2) s) t)

-- ==== bytes

-- neither CR nor LF
pub text-byte : (b : ℕ) → eqb b (code "\r") ≡ false → eqb b (code "\n") ≡ false → in_line b ≡ true
unfolding in_line one_of
text-byte b p q = rw (p, q)

pub blank-byte : (b : ℕ) → in_class Blank b ≡ (eqb b 32 || eqb b 9)
unfolding in_class one_of
blank-byte b = rw (or-none (eqb b 9))

-- ==== a byte of a window

-- as the code tests it, with the answer r of the test for space and tab
pub broken-by : (a b c : ℕ) (r : Bool) → r ≡ (eqb c 32 || eqb c 9) → (not (beq (eqb a 13) (eqb b 10)) || (eqb b 10 && not r)) ≡ broken a b c
unfolding broken
broken-by a b c r e = rw e

-- a place that isn't an LF's, and one that is
past-none : (s : List ℕ) (i : ℕ) → eqb (get_or s i 0) (code "\n") ≡ false → past_feed s i ≡ i
unfolding past_feed
past-none s i e = rw e

past_one : (s : List ℕ) (i : ℕ) → eqb (get_or s i 0) (code "\n") ≡ true → past_feed s i ≡ suc i
unfolding past_feed
past_one s i e = rw e

module _ (s : List ℕ) (k : ℕ) (h : k + 2 < length s) where
  pub onward-step : broken (get_or s k 0) (get_or s (k + 1) 0) (get_or s (k + 2) 0) ≡ false → Onward s k (k + 1)
  unfolding broken
  onward-step e = go (eqb (get_or s k 0) (code "\r")) (eqb (get_or s (k + 1) 0) (code "\n")) (eqb (get_or s (k + 2) 0) 32 || eqb (get_or s (k + 2) 0) 9) refl refl refl
    where
      at_first : get_or (drop k s) 0 0 ≡ get_or s k 0
      at_first = simp (get_or-drop, add-zero)

      ends : (t : Bool) → eqb (get_or s k 0) (code "\n") ≡ t → eqb (get_or s k 0) (code "\r") ≡ false → eqb (get_or s (k + 1) 0) (code "\n") ≡ false → Onward s k (k + 1)
      ends true f p q = rw (past_one s k f, past-none s (k + 1) q, add-one) leads-here
      ends false f p q = rw (past-none s k f, past-none s (k + 1) q) (leads-text s k (omega arith) (text-byte (get_or s k 0) p f))

      go : (a b f : Bool) → eqb (get_or s k 0) (code "\r") ≡ a → eqb (get_or s (k + 1) 0) (code "\n") ≡ b → (eqb (get_or s (k + 2) 0) 32 || eqb (get_or s (k + 2) 0) 9) ≡ f
          → Onward s k (k + 1)
      go true true true p q r =
          let i : get_or s k 0 ≡ code "\r" = eqb-true (get_or s k 0) (code "\r") p in
          let n : eqb (get_or s k 0) (code "\n") ≡ false = rw i in
          let b : in_class Blank (get_or (drop (k + 2) s) 0 0) ≡ true = simp (get_or-drop, add-zero) (blank-byte (get_or s (k + 2) 0) ∙ r) in
          let o : suc (k + 1) ≡ k + 2 = omega arith in
          rw (past-none s k n, past_one s (k + 1) q, o) (leads-fold s k (rw at_first p) (simp get_or-drop q) b)
      go true true false p q r = absurd (no_true (sym (rw (broken, p, q, r) at e)))
      go true false f p q r = absurd (no_true (sym (rw (broken, p, q) at e)))
      go false true f p q r = absurd (no_true (sym (rw (broken, p, q) at e)))
      go false false f p q r = ends (eqb (get_or s k 0) (code "\n")) refl p q

-- one more byte of a window: neither those before it nor this one breaks the field
pub onward-more : (s : List ℕ) (at j : ℕ) (h r : Bool) → (h ≡ false → Onward s at (at + j)) → at + j + 2 < length s
    → r ≡ broken (get_or s (at + j) 0) (get_or s (at + j + 1) 0) (get_or s (at + j + 2) 0) → (h || r) ≡ false → Onward s at (at + (j + 1))
onward-more s at j true r w l q e = absurd (no_true (sym e))
onward-more s at j false r w l q e =
    let o : at + (j + 1) ≡ at + j + 1 = omega arith in
    rw o (leads-on (w refl) (onward-step s (at + j) l (sym q ∙ e)))

pub onward-none : (s : List ℕ) (at : ℕ) → Onward s at (at + 0)
onward-none s at = rw add-zero leads-here

pub onward-all : (s : List ℕ) (at j n : ℕ) → Onward s at (at + j) → j ≡ n → Onward s at (at + n)
onward-all s at j n w e = rw (← e) w

-- ==== a byte at a time

module _ (s : List ℕ) (at i : ℕ) (w : Leads s at i) where
  module _ (h : i < length s) where
    pub near-high : 13 < get_or s i 0 → Leads s at (i + 1)
    near-high g =
        let p : eqb (get_or s i 0) (code "\r") ≡ false = ne_eqb (get_or s i 0) 13 (λ z. omega arith) in
        let q : eqb (get_or s i 0) (code "\n") ≡ false = ne_eqb (get_or s i 0) 10 (λ z. omega arith) in
        leads-on w (leads-text s i h (text-byte (get_or s i 0) p q))

    pub near-low : (get_or s i 0 ≡ 13 → ⊥) → (get_or s i 0 ≡ 10 → ⊥) → Leads s at (i + 1)
    near-low f g =
        leads-on w (leads-text s i h (text-byte (get_or s i 0) (ne_eqb (get_or s i 0) 13 f) (ne_eqb (get_or s i 0) 10 g)))

    -- at an LF, and at a CR without LF, the field has no end
    pub near-feed : get_or s i 0 ≡ 10 → (none : ℕ) → none ≡ end_or none s at
    near-feed f none =
        let d : drop i s ≡ code "\n" ∷ drop (i + 1) s = here s i h ∙ rw f in
        sym (w.same none ∙ end_none none s i (ap whole d ∙ whole-feed (drop (i + 1) s)))

    pub near-return : get_or s i 0 ≡ 13 → (r : Bool) → r ≡ eqb (get_or (drop i s) 1 0) 10 → r ≡ false → (none : ℕ) → none ≡ end_or none s at
    near-return f r p t none =
        let d : drop i s ≡ code "\r" ∷ drop (i + 1) s = here s i h ∙ rw f in
        let g : get_or (drop (i + 1) s) 0 0 ≡ get_or (drop i s) 1 0 = simp (get_or-drop, add-zero) in
        sym (w.same none ∙ end_none none s i (ap whole d ∙ whole-return (drop (i + 1) s) (rw g (sym p ∙ t))))

  -- nor at the end of the bytes
  pub near_none : length s ≤ i → (none : ℕ) → none ≡ end_or none s at
  near_none h none = sym (w.same none ∙ end_none none s i (ap whole (drop_of_length-le {A = ℕ} s h) ∙ whole-empty))

  module _ (f : get_or s i 0 ≡ 13) (r : Bool) (p : r ≡ eqb (get_or (drop i s) 1 0) 10) (t : r ≡ true) (b : ℕ) (g : b ≡ get_or (drop i s) 2 0)
      (r' : Bool) (q : r' ≡ (eqb b 32 || eqb b 9)) where
    return : eqb (get_or (drop i s) 0 0) (code "\r") ≡ true
    return = let e : get_or (drop i s) 0 0 ≡ 13 = simp (get_or-drop, add-zero) f in rw e

    third : in_class Blank (get_or (drop (i + 2) s) 0 0) ≡ r'
    third =
        let d : get_or (drop (i + 2) s) 0 0 ≡ b = simp (get_or-drop, add-zero) (sym (g ∙ simp get_or-drop)) in
        rw d (blank-byte b ∙ sym q)

    pub near-fold : r' ≡ true → Leads s at (i + 2)
    near-fold t' = leads-on w (leads-fold s i return (sym p ∙ t) (third ∙ t'))

    pub near-end : r' ≡ false → (none : ℕ) → i + 2 ≡ end_or none s at
    near-end t' none = sym (w.same none ∙ ends-here s i return (sym p ∙ t) (third ∙ t') none)

-- both bytes of a CRLF are there
pub near-both : (s : List ℕ) (i : ℕ) (r : Bool) → r ≡ eqb (get_or (drop i s) 1 0) 10 → r ≡ true → i + 1 < length s
near-both s i r p t = there-at (λ x. eqb x 10) refl s i 1 (sym p ∙ t)

-- ==== the end of a field

-- at an LF there is none
pub first-feed : (s : List ℕ) (at : ℕ) (r : Bool) → r ≡ eqb (get_or (drop at s) 0 0) 10 → r ≡ true → at ≡ at + whole (drop at s)
first-feed s at r p t =
    let h : at + 0 < length s = there-at (λ x. eqb x 10) refl s at 0 (sym p ∙ t) in
    let f : get_or s at 0 ≡ 10 = eqb-true (get_or s at 0) 10 (simp (get_or-drop, add-zero) at (sym p ∙ t)) in
    near-feed s at at leads-here (omega arith) f at ∙ end-self s at

-- from the first byte, which is no LF, up to a place that may stand between CR and LF
module _ (s : List ℕ) (at e : ℕ) (r : Bool) (p : r ≡ eqb (get_or (drop at s) 0 0) 10) (f : r ≡ false) (w : Onward s at e) (r' : Bool) (q : r' ≡ eqb (get_or (drop e s) 0 0) 10) where
  from_first : end_or at s (past_feed s e) ≡ at + whole (drop at s)
  from_first =
      let g : eqb (get_or s at 0) 10 ≡ false = simp (get_or-drop, add-zero) at (sym p ∙ f) in
      let v : Leads s at (past_feed s e) = rw (past-none s at g) at w in
      sym (v.same at) ∙ end-self s at

  -- what is found from the LF's end on
  pub behind-feed : r' ≡ true → (x : ℕ) → x ≡ end_or at s (e + 1) → x ≡ at + whole (drop at s)
  behind-feed t x k =
      let g : eqb (get_or s e 0) 10 ≡ true = simp (get_or-drop, add-zero) at (sym q ∙ t) in
      k ∙ rw (past_one s e g, ← add-one e) at from_first

  -- and from a place that is none
  pub without-feed : r' ≡ false → (x : ℕ) → x ≡ end_or at s e → x ≡ at + whole (drop at s)
  without-feed t x k =
      let g : eqb (get_or s e 0) 10 ≡ false = simp (get_or-drop, add-zero) at (sym q ∙ t) in
      k ∙ rw (past-none s e g) at from_first
