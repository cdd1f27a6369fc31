-- The kind of a field by the tests of the code, and the instance: what the code finds at a place is what the parser yields there. A byte
-- with the space before it is a reader, so that the parser goes on behind it; one or two digits are worth the number that they write.
use Prim.Native.Nat.{ℕ, suc, ◌+◌, ◌-◌, ◌*◌, ◌≤◌, ◌<◌}
use native.Mathlib.Omega.{arith}
use mathlib.Core.Path.{◌≡◌, refl, sym, ◌∙◌}
use mathlib.Core.Bool.{Bool, true, false}
use mathlib.Core.List.{List, [], ◌∷◌}
use lib.Dec.{eqb, leb}
use lib.ListN.{length, get_or, take, drop, length-drop, length-take, drop_of_length-le}
use lib.Seq.{drop-cons, drop-drop}
use mir.Syntax.{w64}
use mir.Val as machine
use borrow.Author.Tests.{eq-eqb, ne_eqb, leb-true, le-leb, lt-leb}
use Rattle.base_sequences.proofs.Booleans.{and_left, and_right}
use Rattle.base_readers.specs.Texts.{bytes, starts, within}
use Rattle.base_readers.specs.Readers.{run}
use Rattle.base_readers.specs.Parsers.{Got, nothing, got, Parser, ◌>>◌, give, when, byte, text}
use Rattle.base_readers.specs.Places.{from}
use Rattle.base_readers.proofs.Sequencing.{after-zero, byte-is, byte-not}
use Rattle.base_readers.proofs.Readers.{run-all, run_take, run_fits}
use Rattle.base_readers.proofs.Places.{at-got, at_none, goes_on, stops, gives, passes, fails, text_at, text-none, skipping-at}
use Rattle.lexis_rules.specs.declared.Class.TheVariants.{Digit}
use Rattle.lexis_rules.specs.Bytes.{in_class, alike}
use Rattle.lexis_rules.specs.Pieces.{space, digits, decimal}
use Rattle.lexis_rules.specs.Words.{skip}
use Rattle.lexis_laws.proofs.Numbers.{decimal-more}
use Rattle.arc_rules.specs.declared.Kind.TheVariants.{Results, Signature, Seal, Other}
use Rattle.arc_rules.specs.Sets.{kind_named, is_instance, instance}
use Rattle.base_sequences.specs.Spans.{span}
use Rattle.arc_fields.specs.Internal.{separated, worth, numbered}

-- ==== kinds

module _ (n : List ℕ) (r : Bool) (e : r ≡ alike n (bytes "ARC-Authentication-Results")) where
  pub kind-results : r ≡ true → Results ≡ kind_named n
  unfolding kind_named
  kind-results t = rw (kind_named, ← e, t)

  module _ (f : r ≡ false) (r' : Bool) (e' : r' ≡ alike n (bytes "ARC-Message-Signature")) where
    pub kind-signature : r' ≡ true → Signature ≡ kind_named n
    unfolding kind_named
    kind-signature t = rw (kind_named, ← e, f, ← e', t)

    module _ (f' : r' ≡ false) (r'' : Bool) (e'' : r'' ≡ alike n (bytes "ARC-Seal")) where
      pub kind-seal : r'' ≡ true → Seal ≡ kind_named n
      unfolding kind_named
      kind-seal t = rw (kind_named, ← e, f, ← e', f', ← e'', t)

      pub kind-other : r'' ≡ false → Other ≡ kind_named n
      unfolding kind_named
      kind-other t = rw (kind_named, ← e, f, ← e', f', ← e'', t)

-- ==== the number of an instance

module _ (n : ℕ) where
  pub number-low : n < 1 → false ≡ within 1 50 n
  unfolding within
  number-low h = let z : n ≡ 0 = omega arith in rw z

  pub number-high : 1 ≤ n → leb n 50 ≡ within 1 50 n
  unfolding within
  number-high h = rw (le-leb 1 n h)

-- ==== a byte with the space before it

module _ (c : ℕ) (xs : List ℕ) where
  separated-yes : starts (λ b. eqb b c) (drop (space xs) xs) ≡ true → separated c xs ≡ space xs + 1
  unfolding separated
  separated-yes h = rw (separated, h)

  separated-no : starts (λ b. eqb b c) (drop (space xs) xs) ≡ false → separated c xs ≡ 0
  unfolding separated
  separated-no h = rw (separated, h)

module _ (s : List ℕ) (at a c : ℕ) (q : a ≡ at + space (drop at s)) where
  moved : drop (space (drop at s)) (drop at s) ≡ drop a s
  moved = rw (drop-drop (space (drop at s)) at s, ← q)

  met : a < length s → starts (λ b. eqb b c) (drop (space (drop at s)) (drop at s)) ≡ eqb (get_or s a 0) c
  unfolding starts
  met h = rw (moved, drop-cons s a 0 h)

  pub separator-there : a < length s → get_or s a 0 ≡ c → (a + 1 ≡ at + separated c (drop at s)) × (at < a + 1)
  separator-there h i = (omega (arith, separated-yes c (drop at s) (met h ∙ eq-eqb (get_or s a 0) c i)), omega arith)

  pub separator-other : a < length s → (get_or s a 0 ≡ c → ⊥) → separated c (drop at s) ≡ 0
  separator-other h i = separated-no c (drop at s) (met h ∙ ne_eqb (get_or s a 0) c i)

  pub separator-past : length s ≤ a → separated c (drop at s) ≡ 0
  unfolding starts
  separator-past h = separated-no c (drop at s) (rw (moved, drop_of_length-le s h))

-- a parser goes on behind such a byte, and stops where there is none
module _ {A : Type 0} (c : ℕ) (k : Parser A) (s : List ℕ) (at e : ℕ) (q : e ≡ at + separated c (drop at s)) where
  abbrev behind : Parser A
  behind = ◌>>◌ skip (◌>>◌ (byte c) k)

  skipped : (x : Got A) → x ≡ from (◌>>◌ (byte c) k) s (at + space (drop at s)) → x ≡ from behind s at
  skipped x h = goes_on skip (λ u. ◌>>◌ (byte c) k) s at tt (at + space (drop at s)) x (skipping-at space s at _ refl) h

  pub separator-goes : (e ≡ at → ⊥) → (x : Got A) → x ≡ from k s e → x ≡ from behind s at
  separator-goes ne x h = go (starts (λ b. eqb b c) (drop (space (drop at s)) (drop at s))) refl
    where
      go : (t : Bool) → starts (λ b. eqb b c) (drop (space (drop at s)) (drop at s)) ≡ t → x ≡ from behind s at
      go true j =
          let a = at + space (drop at s) in
          let b : byte c (drop a s) ≡ got tt 1 = rw (← moved s at a c refl) (byte-is c (drop (space (drop at s)) (drop at s)) j) in
          skipped x (goes_on (byte c) (λ u. k) s a tt e x (at-got (byte c) s a tt 1 e b (omega (arith, separated-yes c (drop at s) j))) h)
      go false j = absurd (ne (omega (arith, separated-no c (drop at s) j)))

  pub separator-stops : e ≡ at → nothing ≡ from behind s at
  separator-stops i = go (starts (λ b. eqb b c) (drop (space (drop at s)) (drop at s))) refl
    where
      go : (t : Bool) → starts (λ b. eqb b c) (drop (space (drop at s)) (drop at s)) ≡ t → nothing ≡ from behind s at
      go true j = absurd (omega (arith, separated-yes c (drop at s) j))
      go false j =
          let a = at + space (drop at s) in
          let b : byte c (drop a s) ≡ nothing = rw (← moved s at a c refl) (byte-not c (drop (space (drop at s)) (drop at s)) j) in
          skipped nothing (stops (byte c) (λ u. k) s a (at_none (byte c) s a b))

-- ==== digits

pub digit_low : (x : ℕ) → in_class Digit x ≡ true → 48 ≤ x
unfolding in_class within
digit_low x e = leb-true 48 x (and_left (leb 48 x) (leb x 57) e)

pub digit-high : (x : ℕ) → in_class Digit x ≡ true → x ≤ 57
unfolding in_class within
digit-high x e = leb-true x 57 (and_right (leb 48 x) (leb x 57) e)

-- the digits of a text of digits
module _ (d : List ℕ) (q : run (in_class Digit) d ≡ length d) where
  digit_at : (k : ℕ) → k < length d → in_class Digit (get_or d k 0) ≡ true
  digit_at k h = run-all (in_class Digit) d k (omega arith)

  pub digit-alone : length d ≡ 1 → in_class Digit (get_or d 0 0) ≡ true
  digit-alone h = digit_at 0 (omega arith)

  pub digit-first : length d ≡ 2 → in_class Digit (get_or d 0 0) ≡ true
  digit-first h = digit_at 0 (omega arith)

  pub digit-second : length d ≡ 2 → in_class Digit (get_or d 1 0) ≡ true
  digit-second h = digit_at 1 (omega arith)

  -- what they are worth is a number of the machine
  module _ (h : length d ≡ 2) (x : ℕ) (i : x ≡ get_or d 0 0 - 48) where
    pub tens-fit : machine.Fits w64 (x * 10)
    tens-fit = omega (arith, digit-high (get_or d 0 0) (digit-first h))

    pub sum_fits : (y : ℕ) → y ≡ get_or d 1 0 - 48 → machine.Fits w64 (x * 10 + y)
    sum_fits y j = omega (arith, digit-high (get_or d 0 0) (digit-first h), digit-high (get_or d 1 0) (digit-second h))

decimal-end : (n : ℕ) → decimal n [] ≡ n
unfolding decimal
decimal-end n = refl

worth-few : (d : List ℕ) → length d ≤ 2 → worth d ≡ decimal 0 d
unfolding worth
worth-few d h = rw (le-leb (length d) 2 h)

pub worth-one : (d : List ℕ) → run (in_class Digit) d ≡ length d → length d ≡ 1 → (x : ℕ) → x ≡ get_or d 0 0 - 48 → x ≡ worth d
worth-one [] q h x i = absurd (omega arith)
worth-one (a ∷ []) q h x i =
    let e = digit-alone (a ∷ []) q refl in
    omega (arith, worth-few (a ∷ []) (omega arith), decimal-more a [] 0 e, decimal-end (0 * 10 + (a - 48)))
worth-one (a ∷ b ∷ d) q h x i = absurd (omega arith)

pub worth-two : (d : List ℕ) → run (in_class Digit) d ≡ length d → length d ≡ 2 → (x y : ℕ) → x ≡ get_or d 0 0 - 48 → y ≡ get_or d 1 0 - 48 → x * 10 + y ≡ worth d
worth-two [] q h x y i j = absurd (omega arith)
worth-two (a ∷ []) q h x y i j = absurd (omega arith)
worth-two (a ∷ b ∷ []) q h x y i j =
    let e = digit-first (a ∷ b ∷ []) q refl in
    let f = digit-second (a ∷ b ∷ []) q refl in
    let z : 0 * 10 + (a - 48) ≡ x = omega arith in
    let w : x * 10 + (b - 48) ≡ x * 10 + y = omega arith in
    sym (worth-few (a ∷ b ∷ []) (omega arith) ∙ (decimal-more a (b ∷ []) 0 e ∙ (rw z (decimal-more b [] x f ∙ (rw w (decimal-end (x * 10 + y)))))))
worth-two (a ∷ b ∷ c ∷ d) q h x y i j = absurd (omega arith)

pub worth-none : (d : List ℕ) → (length d ≡ 1 → ⊥) → (length d ≡ 2 → ⊥) → 0 ≡ worth d
unfolding worth decimal
worth-none [] n m = refl
worth-none (x ∷ []) n m = absurd (n refl)
worth-none (x ∷ y ∷ []) n m = absurd (m refl)
worth-none (x ∷ y ∷ z ∷ d) n m = let l : leb (suc (suc (suc (length d)))) 2 ≡ false = lt-leb (suc (suc (suc (length d)))) 2 (omega arith) in rw l

-- what digits are worth is an instance exactly where they write one
module _ (d : List ℕ) where
  worth-instance : within 1 50 (worth d) ≡ is_instance d
  unfolding worth is_instance within
  worth-instance = go (leb (length d) 2) refl
    where
      go : (t : Bool) → leb (length d) 2 ≡ t → within 1 50 (worth d) ≡ is_instance d
      go true e = rw e
      go false e = rw e

  worth_number : is_instance d ≡ true → worth d ≡ decimal 0 d
  unfolding worth is_instance
  worth_number h = rw (and_left (leb (length d) 2) (within 1 50 (decimal 0 d)) h)

-- ==== the instance, by the tests of the code

module _ (s : List ℕ) (at e : ℕ) (q : e ≡ at + run (in_class Digit) (drop at s)) where
  pub digits-inside : (e ≡ at → ⊥) → e ≤ length s
  digits-inside ne = omega (arith, run_fits (in_class Digit) (drop at s), length-drop at s)

  pub digits-all : run (in_class Digit) (span s at e) ≡ length (span s at e)
  digits-all =
      let d : e - at ≡ run (in_class Digit) (drop at s) = omega arith in
      rw d (run_take (in_class Digit) (run (in_class Digit) (drop at s)) (drop at s) (omega arith) ∙ sym (length_run (drop at s)))
    where
      length_run : (xs : List ℕ) → length (take (run (in_class Digit) xs) xs) ≡ run (in_class Digit) xs
      length_run xs = length-take (run (in_class Digit) xs) xs ∙ omega (arith, run_fits (in_class Digit) xs)

  pub number-missing : e ≡ at → nothing ≡ from numbered s at
  unfolding numbered
  number-missing z = stops (text digits) _ s at (text-none digits s at e q z)

  module _ (ne : e ≡ at → ⊥) (n : ℕ) (w : n ≡ worth (span s at e)) (r : Bool) (h : r ≡ within 1 50 n) where
    decided : is_instance (span s at e) ≡ r
    decided = rw (← worth-instance (span s at e), ← w) (sym h)

    digits-there : (x : Got ℕ) → x ≡ from (◌>>◌ (when (is_instance (span s at e))) (◌>>◌ skip (◌>>◌ (byte 59) (give (decimal 0 (span s at e)))))) s e → x ≡ from numbered s at
    unfolding numbered
    digits-there x j = goes_on (text digits) _ s at (span s at e) e x (text_at digits s at e q ne) j

    pub number-none : r ≡ false → nothing ≡ from numbered s at
    number-none t = digits-there nothing (stops (when (is_instance (span s at e))) _ s e (fails _ s e (decided ∙ t)))

    module _ (t : r ≡ true) (f : ℕ) (p : f ≡ e + separated 59 (drop e s)) where
      passed : (x : Got ℕ) → x ≡ from (◌>>◌ skip (◌>>◌ (byte 59) (give (decimal 0 (span s at e))))) s e → x ≡ from numbered s at
      passed x j = digits-there x (goes_on (when (is_instance (span s at e))) _ s e tt e x (passes _ s e (decided ∙ t)) j)

      pub number-open : f ≡ e → nothing ≡ from numbered s at
      number-open z = passed nothing (separator-stops 59 (give (decimal 0 (span s at e))) s e f p z)

      pub number_read : (f ≡ e → ⊥) → got n f ≡ from numbered s at
      number_read nf =
          let i : n ≡ decimal 0 (span s at e) = w ∙ worth_number (span s at e) (decided ∙ t) in
          rw i (passed (got (decimal 0 (span s at e)) f) (separator-goes 59 (give (decimal 0 (span s at e))) s e f p nf _ (gives (decimal 0 (span s at e)) s f)))

module _ (s : List ℕ) where
  -- at the front
  front : from instance s 0 ≡ instance s
  unfolding from
  front = after-zero (instance s)

  module _ (a : ℕ) (q : a ≡ 0 + separated 105 (drop 0 s)) where
    pub instance-no-name : a ≡ 0 → nothing ≡ instance s
    unfolding instance
    instance-no-name z = separator-stops 105 _ s 0 a q z ∙ front

    module _ (ne : a ≡ 0 → ⊥) (b : ℕ) (p : b ≡ a + separated 61 (drop a s)) where
      pub instance-no-equals : b ≡ a → nothing ≡ instance s
      unfolding instance
      instance-no-equals z = separator-goes 105 _ s 0 a q ne _ (separator-stops 61 _ s a b p z) ∙ front

      pub instance-from : (b ≡ a → ⊥) → (c : ℕ) → c ≡ b + space (drop b s) → (x : Got ℕ) → x ≡ from numbered s c → x ≡ instance s
      unfolding instance numbered
      instance-from nb c w x h = separator-goes 105 _ s 0 a q ne _ (separator-goes 61 _ s a b p nb _ (goes_on skip _ s b tt c x (skipping-at space s b c w) h)) ∙ front
