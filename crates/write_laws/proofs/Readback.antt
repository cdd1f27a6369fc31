-- What a parser reads of a text that was written: all of it, with this value, whatever follows as long as F holds of that. From the same of
-- its parts, by putting the texts one after the other.
use Prim.Native.Nat.{ℕ, suc, ◌≤◌}
use native.Mathlib.Nat.{le_refl}
use native.Mathlib.Omega.{arith}
use mathlib.Core.Path.{◌≡◌, refl, ◌∙◌}
use mathlib.Core.Bool.{Bool, true, false}
use mathlib.Core.List.{List, [], ◌∷◌, ◌++◌, append_assoc, append-nil}
use mathlib.Core.Option.{none, some}
use lib.ListN.{length, drop, length-append}
use lib.Seq.{take-append_seam, drop-append_seam, drop-length}
use borrow.Author.Tests.{eqb-true, eq-eqb}
use Rattle.base_sequences.proofs.Booleans.{no_true}
use Rattle.base_readers.specs.Texts.{starts}
use Rattle.base_readers.specs.Readers.{Reader}
use Rattle.base_readers.specs.Parsers.{nothing, got, Parser, ◌>>=◌, give, when, ahead, byte, taken, skipping, text, pass, either, branch, optional, several}
use Rattle.base_readers.specs.Locality.{Any, Ends, Follows, Local}
use Rattle.base_readers.proofs.Sequencing.{bind-got, give-is, when-is, ahead-is, byte-is, taken_is, skipping-is, text-is, pass-is, either_first, either_second, branch_yes, branch_no, optional-some, optional-none}
use Rattle.base_readers.proofs.Repeats.{several-none, several-again}
use Rattle.write_rules.specs.Entries.{whole}

abbrev pub Reads : {A : Type 0} → Parser A → List ℕ → A → (List ℕ → Type 0) → Type 0
Reads p w a F = (t : List ℕ) → F t → p (w ++ t) ≡ got a (length w)

-- every one of a list
abbrev pub Each : {A : Type 0} → (A → Type 0) → List A → Type 0
Each P [] = Unit
Each P (a ∷ l) = P a × Each P l

-- ==== one after the other

pub bind-reads : {A B : Type 0} (p : Parser A) (f : A → Parser B) (u v : List ℕ) (a : A) (b : B) (F G : List ℕ → Type 0)
    → Reads p u a F → Reads (f a) v b G → ((t : List ℕ) → G t → F (v ++ t)) → Reads (◌>>=◌ p f) (u ++ v) b G
bind-reads p f u v a b F G P Q C t g =
    let e : p (u ++ (v ++ t)) ≡ got a (length u) = P (v ++ t) (C t g) in
    let d : drop (length u) (u ++ (v ++ t)) ≡ v ++ t = drop-append_seam u (v ++ t) in
    let h : f a (drop (length u) (u ++ (v ++ t))) ≡ got b (length v) = rw d (Q t g) in
    rw (append_assoc u v t, length-append u v) (bind-got p f (u ++ (v ++ t)) a (length u) b (length v) e h)

-- nothing is taken first
pub none_reads : {A B : Type 0} (p : Parser A) (f : A → Parser B) (v : List ℕ) (a : A) (b : B) (F G : List ℕ → Type 0)
    → Reads p [] a F → Reads (f a) v b G → ((t : List ℕ) → G t → F (v ++ t)) → Reads (◌>>=◌ p f) v b G
none_reads p f v a b F G P Q C = bind-reads p f [] v a b F G P Q C

-- nothing is taken last
pub last-reads : {A B : Type 0} (p : Parser A) (f : A → Parser B) (u : List ℕ) (a : A) (b : B) (F : List ℕ → Type 0)
    → Reads p u a F → Reads (f a) [] b F → Reads (◌>>=◌ p f) u b F
last-reads p f u a b F P Q t g = rw (append-nil u) at (bind-reads p f u [] a b F F P Q (λ t g. g) t g)

pub weaker-reads : {A : Type 0} (p : Parser A) (w : List ℕ) (a : A) (F G : List ℕ → Type 0) → ((t : List ℕ) → G t → F t) → Reads p w a F → Reads p w a G
weaker-reads p w a F G i P t g = P t (i t g)

-- ==== parsers that take nothing

pub give-reads : {A : Type 0} (a : A) (F : List ℕ → Type 0) → Reads (give a) [] a F
give-reads a F t g = give-is a t

pub when-reads : (b : Bool) (F : List ℕ → Type 0) → b ≡ true → Reads (when b) [] tt F
when-reads b F e t g = when-is b t e

pub ahead-reads : (c : ℕ → Bool) → Reads (ahead c) [] tt (Follows c)
ahead-reads c t g = ahead-is c t g

-- ==== bytes and readers

pub byte_reads : (c : ℕ) → Reads (byte c) (c ∷ []) tt Any
unfolding starts
byte_reads c t g = byte-is c (c ∷ t) (eq-eqb c c refl)

pub skip-reads : (f : Reader) → Reads (skipping f) [] tt (Ends f)
skip-reads f t g = skipping-is f t 0 g

-- a reader that takes just w
abbrev pub Takes : Reader → List ℕ → (List ℕ → Type 0) → Type 0
Takes f w F = (t : List ℕ) → F t → f (w ++ t) ≡ length w

pub skipping-reads : (f : Reader) (w : List ℕ) (F : List ℕ → Type 0) → Takes f w F → Reads (skipping f) w tt F
skipping-reads f w F T t g = skipping-is f (w ++ t) (length w) (T t g)

pub taken-reads : (f : Reader) (w : List ℕ) (F : List ℕ → Type 0) → Takes f w F → Reads (taken f) w w F
taken-reads f w F T t g = taken_is f (w ++ t) (length w) (T t g) ∙ rw (take-append_seam w t)

pub text-reads : (f : Reader) (x : ℕ) (w : List ℕ) (F : List ℕ → Type 0) → Takes f (x ∷ w) F → Reads (text f) (x ∷ w) (x ∷ w) F
text-reads f x w F T t g = text-is f (x ∷ (w ++ t)) (length w) (T t g) ∙ rw (take-append_seam w t)

pub pass-reads : (f : Reader) (x : ℕ) (w : List ℕ) (F : List ℕ → Type 0) → Takes f (x ∷ w) F → Reads (pass f) (x ∷ w) tt F
pass-reads f x w F T t g = pass-is f (x ∷ (w ++ t)) (length w) (T t g)

-- a text that a reader takes whole it takes whatever follows that may
pub whole_is : (f : Reader) (w : List ℕ) → whole f w ≡ true → f w ≡ length w
unfolding whole
whole_is f [] e = absurd (no_true e)
whole_is f (x ∷ w) e = eqb-true _ _ e

pub whole_takes : (f : Reader) (F : List ℕ → Type 0) → Local f F → (w : List ℕ) → whole f w ≡ true → Takes f w F
unfolding whole
whole_takes f F L [] e t g = absurd (no_true e)
whole_takes f F L (x ∷ w) e t g =
    let q : f ((x ∷ w) ++ []) ≡ suc (length w) = rw (append-nil (x ∷ w)) (eqb-true _ _ e) in
    let d : drop (length w) w ≡ [] = drop-length w in
    L (x ∷ w) [] t (length w) q (le_refl _) (rw d g)

pub whole-reads : (f : Reader) (F : List ℕ → Type 0) → Local f F → (w : List ℕ) → whole f w ≡ true → Reads (text f) w w F
unfolding whole
whole-reads f F L [] e = absurd (no_true e)
whole-reads f F L (x ∷ w) e = text-reads f x w F (whole_takes f F L (x ∷ w) e)

-- ==== choices

module _ {A : Type 0} (p q : Parser A) (w : List ℕ) (a : A) (F : List ℕ → Type 0) where
  pub first_reads : Reads p w a F → Reads (either p q) w a F
  first_reads P t g = either_first p q (w ++ t) a (length w) (P t g)

  pub second_reads : ((t : List ℕ) → F t → p (w ++ t) ≡ nothing) → Reads q w a F → Reads (either p q) w a F
  second_reads N Q t g = either_second p q (w ++ t) (N t g) ∙ Q t g

  module _ (test : List ℕ → Bool) where
    pub yes-reads : ((t : List ℕ) → F t → test (w ++ t) ≡ true) → Reads p w a F → Reads (branch test p q) w a F
    yes-reads T P t g = branch_yes test p q (w ++ t) (T t g) ∙ P t g

    pub no_reads : ((t : List ℕ) → F t → test (w ++ t) ≡ false) → Reads q w a F → Reads (branch test p q) w a F
    no_reads T Q t g = branch_no test p q (w ++ t) (T t g) ∙ Q t g

pub some-reads : {A : Type 0} (p : Parser A) (w : List ℕ) (a : A) (F : List ℕ → Type 0) → Reads p w a F → Reads (optional p) w (some a) F
some-reads p w a F P t g = optional-some p (w ++ t) a (length w) (P t g)

pub absent-reads : {A : Type 0} (p : Parser A) (F : List ℕ → Type 0) → ((t : List ℕ) → F t → p t ≡ nothing) → Reads (optional p) [] none F
absent-reads p F N t g = optional-none p t (N t g)

-- ==== repetition

-- texts one after the other
abbrev pub joined : {A : Type 0} → (A → List ℕ) → List A → List ℕ
joined w [] = []
joined w (a ∷ l) = w a ++ joined w l

-- F: what may follow an item; an item opens with what may follow one; G: what may follow all
module _ {A : Type 0} (p : Parser A) (w : A → List ℕ) (P : A → Type 0) (F G : List ℕ → Type 0) (R : (a : A) → P a → Reads p (w a) a F)
    (O : (a : A) → P a → (t : List ℕ) → F (w a ++ t)) (S : (a : A) → P a → 1 ≤ length (w a)) (E : (t : List ℕ) → G t → F t × (p t ≡ nothing)) where
  pub joined-front : (l : List A) → Each P l → (t : List ℕ) → G t → F (joined w l ++ t)
  joined-front [] h t g = (E t g).0
  joined-front (a ∷ l) h t g = rw (append_assoc (w a) (joined w l) t) (O a h.0 (joined w l ++ t))

  pub several-reads : (l : List A) → Each P l → Reads (several p 0) (joined w l) l G
  several-reads [] h t g = several-none p t (E t g).1
  several-reads (a ∷ l) h t g =
      let u = w a in
      let v = joined w l in
      let e : p (u ++ (v ++ t)) ≡ got a (length u) = R a h.0 (v ++ t) (joined-front l h.1 t g) in
      let d : drop (length u) (u ++ (v ++ t)) ≡ v ++ t = drop-append_seam u (v ++ t) in
      let r : several p 0 (drop (length u) (u ++ (v ++ t))) ≡ got l (length v) = rw d (several-reads l h.1 t g) in
      rw (append_assoc u v t, length-append u v)
      (several-again p (u ++ (v ++ t)) a (length u) l (length v) (S a h.0) (omega (arith, length-append u (v ++ t))) e r)
