-- A text without two hyphens in a row has no label that starts with xn--, and one without such a label is its own spelling.
use Prim.Native.Nat.{ℕ, zero, suc}
use mathlib.Core.Path.{◌≡◌, refl, ap, ◌∙◌}
use mathlib.Core.Bool.{Bool, true, false, ◌&&◌, ◌||◌}
use mathlib.Core.List.{List, [], ◌∷◌, map}
use lib.Dec.{eqb}
use lib.ListN.{get_or, take, drop}
use Rattle.base_sequences.proofs.Booleans.{and_none}
use Rattle.base_readers.specs.Texts.{one_of}
use Rattle.base_readers.specs.Lines.{on_first}
use Rattle.punycode_rules.specs.Labels.{prefixed, spelled, labels, joined, spelling, any_prefixed, double_hyphen}
use Rattle.punycode_laws.proofs.Lists.{or-false-left, or-false-right, or-both}
use Rattle.punycode_laws.proofs.Spelling.{spelled-plain, joined-labels}

module _ (x : ℕ) (xs : List ℕ) (h : double_hyphen (x ∷ xs) ≡ false) where
  pair-first : (eqb x 45 && eqb (get_or xs 0 0) 45) ≡ false
  unfolding double_hyphen
  pair-first = or-false-left _ (double_hyphen xs) h

  pair-rest : double_hyphen xs ≡ false
  unfolding double_hyphen
  pair-rest = or-false-right (eqb x 45 && eqb (get_or xs 0 0) 45) (double_hyphen xs) h

-- ==== parts

pub double_hyphen-drop : (n : ℕ) (xs : List ℕ) → double_hyphen xs ≡ false → double_hyphen (drop n xs) ≡ false
double_hyphen-drop zero xs h = h
double_hyphen-drop (suc n) [] h = h
double_hyphen-drop (suc n) (x ∷ xs) h = double_hyphen-drop n xs (pair-rest x xs h)

-- where the first byte behind x may be missing
first_taken : (n : ℕ) (xs : List ℕ) (b : Bool) → (b && eqb (get_or xs 0 0) 45) ≡ false → (b && eqb (get_or (take n xs) 0 0) 45) ≡ false
first_taken zero xs b h = and_none b
first_taken (suc n) [] b h = h
first_taken (suc n) (x ∷ xs) b h = h

pub double_hyphen-take : (n : ℕ) (xs : List ℕ) → double_hyphen xs ≡ false → double_hyphen (take n xs) ≡ false
unfolding double_hyphen
double_hyphen-take zero xs h = refl
double_hyphen-take (suc n) [] h = refl
double_hyphen-take (suc n) (x ∷ xs) h = or-both (eqb x 45 && eqb (get_or (take n xs) 0 0) 45) (double_hyphen (take n xs)) (first_taken n xs (eqb x 45) (pair-first x xs h)) (double_hyphen-take n xs (pair-rest x xs h))

-- ==== labels

pub double_hyphen-prefixed : (l : List ℕ) → double_hyphen l ≡ false → prefixed l ≡ false
unfolding prefixed one_of double_hyphen
double_hyphen-prefixed [] h = refl
double_hyphen-prefixed (a ∷ []) h = short (eqb a 120 || (eqb a 88 || false))
  where
    short : (t : Bool) → (t && false && false && false) ≡ false
    short true = refl
    short false = refl
double_hyphen-prefixed (a ∷ b ∷ l) h =
    last (eqb a 120 || (eqb a 88 || false)) (eqb b 110 || (eqb b 78 || false)) l (pair-rest b l (pair-rest a (b ∷ l) h))
  where
    last : (t u : Bool) (l : List ℕ) → double_hyphen l ≡ false → (t && u && eqb (get_or l 0 0) 45 && eqb (get_or l 1 0) 45) ≡ false
    last true true [] g = refl
    last true true (c ∷ l) g = pair-first c l g
    last true false l g = refl
    last false u l g = refl

-- none of the labels has two hyphens in a row
data Plains : List (List ℕ) → Type 0 where
  none : Plains []
  more : {l : List ℕ} {ls : List (List ℕ)} → double_hyphen l ≡ false → Plains ls → Plains (l ∷ ls)

plains-none : {ls : List (List ℕ)} → Plains ls → any_prefixed ls ≡ false
unfolding any_prefixed
plains-none none = refl
plains-none (more {l} {ls} h p) = or-both (prefixed l) (any_prefixed ls) (double_hyphen-prefixed l h) (plains-none p)

-- a byte in front: it stands before the first byte of the text, or before the end of a label
front : (x : ℕ) (xs : List ℕ) (ls : List (List ℕ)) → labels xs ≡ ls → (eqb x 45 && eqb (get_or xs 0 0) 45) ≡ false → Plains ls → Plains (on_first x ls)
unfolding labels double_hyphen
front x xs [] e h none = more (or-both (eqb x 45 && eqb 0 45) false (and_none (eqb x 45)) refl) none
front x xs (l ∷ ls) e h (more g p) = more (or-both (eqb x 45 && eqb (get_or l 0 0) 45) (double_hyphen l) (same xs e h) g) p
  where
    same : (xs : List ℕ) → labels xs ≡ l ∷ ls → (eqb x 45 && eqb (get_or xs 0 0) 45) ≡ false → (eqb x 45 && eqb (get_or l 0 0) 45) ≡ false
    same [] e h = let z : [] ≡ l = cc in rw (← z) (and_none (eqb x 45))
    same (y ∷ ys) e h = go (eqb y 46) refl (labels ys) refl
      where
        go : (t : Bool) → eqb y 46 ≡ t → (ms : List (List ℕ)) → labels ys ≡ ms → (eqb x 45 && eqb (get_or l 0 0) 45) ≡ false
        go true q ms w = let d : labels (y ∷ ys) ≡ [] ∷ labels ys = rw (labels, q) in let z : [] ≡ l = cc in rw (← z) (and_none (eqb x 45))
        go false q [] w = let d : labels (y ∷ ys) ≡ on_first y (labels ys) = rw (labels, q) in let f : on_first y (labels ys) ≡ (y ∷ []) ∷ [] = rw w in let z : y ∷ [] ≡ l = cc in rw (← z) h
        go false q (m ∷ ms) w = let d : labels (y ∷ ys) ≡ on_first y (labels ys) = rw (labels, q) in let f : on_first y (labels ys) ≡ (y ∷ m) ∷ ms = rw w in let z : y ∷ m ≡ l = cc in rw (← z) h

plains : (xs : List ℕ) → double_hyphen xs ≡ false → Plains (labels xs)
unfolding labels double_hyphen
plains [] h = more refl none
plains (x ∷ xs) h = go (eqb x 46) refl (plains xs (pair-rest x xs h))
  where
    go : (t : Bool) → eqb x 46 ≡ t → Plains (labels xs) → Plains (labels (x ∷ xs))
    go true e p = rw (labels, e) (more refl p)
    go false e p = rw (labels, e) (front x xs (labels xs) refl (pair-first x xs h) p)

pub double_hyphen-labels : (t : List ℕ) → double_hyphen t ≡ false → any_prefixed (labels t) ≡ false
double_hyphen-labels t h = plains-none (plains t h)

-- ==== the spelling

spelled-labels : (ls : List (List ℕ)) → any_prefixed ls ≡ false → map spelled ls ≡ ls
unfolding any_prefixed
spelled-labels [] h = refl
spelled-labels (l ∷ ls) h =
    let e : spelled l ≡ l = spelled-plain l (or-false-left (prefixed l) (any_prefixed ls) h) in
    let f : map spelled ls ≡ ls = spelled-labels ls (or-false-right (prefixed l) (any_prefixed ls) h) in
    cc

pub plain-spelling : (t : List ℕ) → any_prefixed (labels t) ≡ false → spelling t ≡ t
unfolding spelling
plain-spelling t h = ap joined (spelled-labels (labels t) h) ∙ joined-labels t
