-- What a sequence of UTF-8 takes, and the text of an entry, as the loop of the code goes over it.
use Prim.Native.Nat.{ℕ, ◌+◌, ◌-◌, ◌≤◌, ◌<◌, zero-le, ◌^◌}
use native.Mathlib.Omega.{arith}
use mathlib.Core.Path.{◌≡◌, refl, ◌∙◌}
use mathlib.Core.Bool.{Bool, true, false, ◌&&◌, ◌||◌}
use mathlib.Core.List.{List, ◌∷◌}
use lib.Dec.{leb, eqb}
use lib.ListN.{length, get_or, drop}
use borrow.Author.Tests.{lt-leb, leb-true}
use Rattle.base_sequences.proofs.Booleans.{and_left, and_right, cond-le}
use Rattle.base_readers.specs.Texts.{within}
use Rattle.base_readers.specs.Locality.{Fits}
use Rattle.base_readers.specs.Places.{Reaches}
use mir.Syntax.{w64}
use mir.Val as machine
use lib.Seq.{drop-drop}
use Rattle.base_readers.proofs.Texts.{starts_first, follows-not}
use Rattle.base_readers.proofs.Readers.{there, run_ends}
use Rattle.base_readers.proofs.Loops.{reaches-start, many-on, many-off, many-past-run, turn-fits, turn-less}
use Rattle.lexis_rules.specs.declared.Class.TheVariants.{Visible}
use Rattle.lexis_rules.specs.Bytes.{in_class}
use Rattle.lexis_laws.proofs.Bytes.{class-zero}
use Rattle.ownlist_rules.specs.Utf8.{lead, second, further, sequence}
use Rattle.ownlist_rules.specs.OwnList.{visible, entry_item, entry_text}
use Rattle.ownlist_laws.proofs.Entries.{lead-most}
use Rattle.ownlist_entry.proofs.ByteSequences.{sequence-none}

-- no sequence starts below 128
sequence-low : (xs : List ℕ) (a : ℕ) → a ≡ get_or xs 0 0 → a < 128 → 0 ≡ sequence xs
unfolding lead within
sequence-low xs a o h =
    sequence-none xs a o (lead a) refl (rw (lead, lt-leb 194 a (omega arith), lt-leb 224 a (omega arith), lt-leb 240 a (omega arith)))

-- ==== it takes no more than there is

tail-zero : within 128 191 0 ≡ false
unfolding within
tail-zero = refl

second-zero : (a : ℕ) → second a 0 ≡ false
unfolding second within
second-zero a = first (eqb a 224) (eqb a 237) (eqb a 240) (eqb a 244)
  where
    first : (p q r s : Bool)
        → elim p [ true ↦ false | false ↦ (elim q [ true ↦ false | false ↦ (elim r [ true ↦ false | false ↦ (elim s [ true ↦ false | false ↦ false ]) ]) ]) ] ≡ false
    first true q r s = refl
    first false true r s = refl
    first false false true s = refl
    first false false false true = refl
    first false false false false = refl

sequence-fits : Fits sequence
unfolding sequence further
sequence-fits xs = cond-le (second (get_or xs 0 0) (get_or xs 1 0) && further (lead (get_or xs 0 0)) xs) (lead (get_or xs 0 0)) 0 (length xs) some zero-le
  where
    n : ℕ
    n = lead (get_or xs 0 0)

    or-not : (a b : Bool) → a ≡ false → (a || b) ≡ true → b ≡ true
    or-not a b h e = rw h at e

    some : (second (get_or xs 0 0) (get_or xs 1 0) && further (lead (get_or xs 0 0)) xs) ≡ true → lead (get_or xs 0 0) ≤ length xs
    some e =
        let s : second (get_or xs 0 0) (get_or xs 1 0) ≡ true = and_left _ (further (lead (get_or xs 0 0)) xs) e in
        let f : further (lead (get_or xs 0 0)) xs ≡ true = and_right (second (get_or xs 0 0) (get_or xs 1 0)) _ e in
        let two : 1 < length xs = there (second (get_or xs 0 0)) (second-zero (get_or xs 0 0)) xs 1 s in
        third two (and_left (leb (lead (get_or xs 0 0)) 2 || within 128 191 (get_or xs 2 0)) _ f) (and_right (leb (lead (get_or xs 0 0)) 2 || within 128 191 (get_or xs 2 0)) _ f) (leb (lead (get_or xs 0 0)) 2) refl
      where
        fourth : 2 < length xs → (leb (lead (get_or xs 0 0)) 3 || within 128 191 (get_or xs 3 0)) ≡ true → (t : Bool) → leb (lead (get_or xs 0 0)) 3 ≡ t → lead (get_or xs 0 0) ≤ length xs
        fourth l h true t = omega (arith, leb-true (lead (get_or xs 0 0)) 3 t)
        fourth l h false t =
            omega (arith, there (within 128 191) tail-zero xs 3 (or-not (leb (lead (get_or xs 0 0)) 3) (within 128 191 (get_or xs 3 0)) t h), lead-most (get_or xs 0 0))

        third : 1 < length xs → (leb (lead (get_or xs 0 0)) 2 || within 128 191 (get_or xs 2 0)) ≡ true → (leb (lead (get_or xs 0 0)) 3 || within 128 191 (get_or xs 3 0)) ≡ true
            → (t : Bool) → leb (lead (get_or xs 0 0)) 2 ≡ t → lead (get_or xs 0 0) ≤ length xs
        third l h g true t = omega (arith, leb-true (lead (get_or xs 0 0)) 2 t)
        third l h g false t =
            fourth (there (within 128 191) tail-zero xs 2 (or-not (leb (lead (get_or xs 0 0)) 2) (within 128 191 (get_or xs 2 0)) t h)) g (leb (lead (get_or xs 0 0)) 3) refl

item-fits : Fits entry_item
unfolding entry_item
item-fits xs = cond-le (in_class Visible (get_or xs 0 0)) 1 (sequence xs) (length xs) (λ e. omega (arith, there (in_class Visible) (class-zero Visible) xs 0 e)) (sequence-fits xs)

one_byte : (x : ℕ) (xs : List ℕ) → in_class Visible x ≡ true → entry_item (x ∷ xs) ≡ 1
unfolding entry_item
one_byte x xs h = rw h

-- ==== the loop: a run of visible bytes, and then a sequence

module _ (s : List ℕ) (at i e n : ℕ) (w : Reaches entry_text s at i) (q : e ≡ i + visible (drop i s)) (z : n ≡ sequence (drop e s)) where
  past : Reaches entry_text s at e
  past = many-past-run entry_item (in_class Visible) one_byte s at i e w q

  not-visible : in_class Visible (get_or (drop e s) 0 0) ≡ false
  not-visible =
      let d : drop (visible (drop i s)) (drop i s) ≡ drop e s = rw (drop-drop, ← q) in
      starts_first (in_class Visible) (class-zero Visible) (drop e s) ∙ follows-not (in_class Visible) (drop e s) (rw d at (run_ends (in_class Visible) (drop i s)))

  other : n ≡ entry_item (drop e s)
  unfolding entry_item
  other = rw not-visible z

  pub text-more : Reaches entry_text s at (e + n)
  text-more = many-on entry_item item-fits s at e n other past

  pub text-end : n ≡ 0 → e ≡ at + entry_text (drop at s)
  text-end o = many-off entry_item item-fits s at e n other past o

  pub text-fits : (n ≡ 0 → ⊥) → length s < 2 ^ 64 → machine.Fits w64 (e + n)
  text-fits ne l = turn-fits entry_item item-fits s e e n other ne l

  pub text-less : (n ≡ 0 → ⊥) → length s - (e + n) < length s - i
  text-less ne = omega (arith, turn-less entry_item item-fits s e e n other ne)

-- ==== an entry of ASCII alone

module _ (s : List ℕ) (at e : ℕ) (q : e ≡ at + visible (drop at s)) where
  pub text-plain : (b : ℕ) → b ≡ get_or (drop e s) 0 0 → b < 128 → e ≡ at + entry_text (drop at s)
  text-plain b o h = text-end s at at e 0 reaches-start q (sequence-low (drop e s) b o h) refl

  pub text-past : (r : ℕ) → r ≡ e + entry_text (drop e s) → r ≡ at + entry_text (drop at s)
  text-past r g = g ∙ (past s at at e (sequence (drop e s)) reaches-start q refl).same
