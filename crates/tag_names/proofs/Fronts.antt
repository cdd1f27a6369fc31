-- The name at the front of bytes: the byte at a place, and the loop that compares. From each place of the loop on the name stands to the other as
-- it does from the start. And for a name of a name's bytes this is the order of the two names.
use Prim.Native.Nat.{ℕ, zero, suc, ◌+◌, ◌-◌, ◌≤◌, ◌<◌}
use native.Mathlib.Numerals.{add-one}
use native.Mathlib.Omega.{arith}
use mathlib.Core.Path.{◌≡◌, refl, sym, ap, ◌∙◌}
use mathlib.Core.Bool.{Bool, true, false}
use mathlib.Core.List.{List, [], ◌∷◌}
use borrow.Author.Tests.{ltb-false, lt-ltb, le-ltb}
use lib.Dec.{ltb}
use lib.ListN.{length, get_or, take, drop, drop_of_length-le}
use lib.Seq.{drop-cons, length-take-le, take-length}
use Rattle.base_sequences.proofs.Booleans.{both}
use Rattle.base_sequences.proofs.Lists.{drop-take}
use Rattle.base_readers.specs.Texts.{starts}
use Rattle.base_readers.specs.Readers.{run}
use Rattle.base_readers.proofs.Readers.{run_take, run_fits}
use Rattle.tag_rules.specs.Tags.{in_tag_name}
use Rattle.std.specs.declared.cmp.Ordering.TheVariants.{Less, Equal, Greater}
use Rattle.tag_names.specs.Names.{name_at, Named, compared, compared_at}

-- ==== the byte at a place

pub no_byte : (s : List ℕ) (at : ℕ) → length s ≤ at → false ≡ starts in_tag_name (drop at s)
unfolding starts
no_byte s at h = rw (drop_of_length-le s h)

pub front_long : (s : List ℕ) (at : ℕ) → at < length s → at + 1 ≡ length (take (at + 1) s)
front_long s at h = sym (length-take-le (at + 1) s (omega arith))

one-run : (l : List ℕ) (n : ℕ) → n ≡ 1 → ltb 0 (run in_tag_name (take n l)) ≡ starts in_tag_name l
unfolding starts run
one-run [] n e = rw e
one-run (x ∷ l) n e = rw e (go (in_tag_name x) refl)
  where
    go : (b : Bool) → in_tag_name x ≡ b → ltb 0 (run in_tag_name (x ∷ [])) ≡ b
    go true q = rw (run, q)
    go false q = rw (run, q)

-- the first at + 1 bytes are asked for the end of a name
pub this-byte : (s : List ℕ) (at e : ℕ) → e ≡ at + run in_tag_name (drop at (take (at + 1) s)) → ltb at e ≡ starts in_tag_name (drop at s)
this-byte s at e q =
    let k = run in_tag_name (take (at + 1 - at) (drop at s)) in
    let d : drop at (take (at + 1) s) ≡ take (at + 1 - at) (drop at s) = drop-take at (at + 1) s in
    let r : e ≡ at + k = rw d at q in
    rw (r, plus k) (one-run (drop at s) (at + 1 - at) (omega arith))
  where
    plus : (k : ℕ) → ltb at (at + k) ≡ ltb 0 k
    plus zero = let h : at + 0 ≤ at = omega arith in le-ltb at (at + 0) h
    plus (suc k) = let h : at < at + suc k = omega arith in lt-ltb at (at + suc k) h ∙ sym (lt-ltb 0 (suc k) (omega arith))

-- ==== the loop that compares

module _ (s : List ℕ) (at : ℕ) (name : List ℕ) (i j : ℕ) (w : compared_at (drop i s) (drop j name) ≡ compared_at (drop at s) name) where
  module _ (r : Bool) (e : r ≡ starts in_tag_name (drop i s)) where
    pub name-longer : length name ≤ j → r ≡ true → Greater ≡ compared_at (drop at s) name
    unfolding compared_at
    name-longer h t = (rw (drop_of_length-le name h, compared_at, ← e, t)) ∙ w

    pub name-same : length name ≤ j → r ≡ false → Equal ≡ compared_at (drop at s) name
    unfolding compared_at
    name-same h t = (rw (drop_of_length-le name h, compared_at, ← e, t)) ∙ w

    module _ (h : i < length s) (k : j < length name) (l : get_or name j 0 < get_or s i 0) where
      more : (b : Bool) → starts in_tag_name (drop i s) ≡ b → elim b [ true ↦ Greater | false ↦ Less ] ≡ compared_at (drop at s) name
      unfolding compared_at starts
      more b q =
          let x = get_or s i 0 in
          let y = get_or name j 0 in
          let a : in_tag_name x ≡ b = rw (drop-cons s i 0 h) at q in
          let m : y ≤ x = omega arith in
          (rw (drop-cons s i 0 h, drop-cons name j 0 k, compared_at, le-ltb x y m, lt-ltb y x l, a)) ∙ w

      pub byte_more : r ≡ true → Greater ≡ compared_at (drop at s) name
      byte_more t = more true (sym e ∙ t)

      pub byte-behind : r ≡ false → Less ≡ compared_at (drop at s) name
      byte-behind t = more false (sym e ∙ t)

  pub body-ends : j < length name → length s ≤ i → Less ≡ compared_at (drop at s) name
  unfolding compared_at
  body-ends k h = (rw (drop_of_length-le s h, drop-cons name j 0 k)) ∙ w

  module _ (h : i < length s) (k : j < length name) where
    pub byte-less : get_or s i 0 < get_or name j 0 → Less ≡ compared_at (drop at s) name
    unfolding compared_at
    byte-less l = (rw (drop-cons s i 0 h, drop-cons name j 0 k, compared_at, lt-ltb (get_or s i 0) (get_or name j 0) l)) ∙ w

    pub byte-equal : get_or name j 0 ≤ get_or s i 0 → get_or s i 0 ≤ get_or name j 0 → compared_at (drop (i + 1) s) (drop (j + 1) name) ≡ compared_at (drop at s) name
    unfolding compared_at
    byte-equal l m =
        (rw (add-one i, add-one j, drop-cons s i 0 h, drop-cons name j 0 k, compared_at, le-ltb (get_or s i 0) (get_or name j 0) l, le-ltb (get_or name j 0) (get_or s i 0) m)) ∙ w

-- ==== the order of names

-- the name at the front of bytes, whose own bytes are those of names
abbrev front : List ℕ → List ℕ
front l = take (run in_tag_name l) l

module _ (y : ℕ) (ys : List ℕ) (h : Named (y ∷ ys)) where
  named-first : (b : Bool) → in_tag_name y ≡ b → b ≡ true
  unfolding run
  named-first true q = refl
  named-first false q = let z : 0 ≡ suc (length ys) = rw (run, q) at h in absurd (omega arith)

  named-rest : Named ys
  unfolding run
  named-rest = let q : in_tag_name y ≡ true = named-first (in_tag_name y) refl in let z : suc (run in_tag_name ys) ≡ suc (length ys) = rw (run, q) at h in omega arith

front-none : (x : ℕ) (xs : List ℕ) → in_tag_name x ≡ false → front (x ∷ xs) ≡ []
unfolding run
front-none x xs q = rw (run, q)

front-more : (x : ℕ) (xs : List ℕ) → in_tag_name x ≡ true → front (x ∷ xs) ≡ x ∷ front xs
unfolding run
front-more x xs q = rw (run, q)

module _ (x : ℕ) (xs n : List ℕ) where
  past-none : in_tag_name x ≡ false → compared [] n ≡ compared (front (x ∷ xs)) n
  past-none q = ap (λ (l : List ℕ). compared l n) (sym (front-none x xs q))

  past_more : in_tag_name x ≡ true → compared (x ∷ front xs) n ≡ compared (front (x ∷ xs)) n
  past_more q = ap (λ (l : List ℕ). compared l n) (sym (front-more x xs q))

-- the comparison tells how the name at the front stands to the other
pub compared-front : (xs n : List ℕ) → Named n → compared_at xs n ≡ compared (front xs) n
unfolding compared_at compared starts run
compared-front [] [] h = refl
compared-front [] (y ∷ ys) h = refl
compared-front (x ∷ xs) [] h = go (in_tag_name x) refl
  where
    go : (b : Bool) → in_tag_name x ≡ b → compared_at (x ∷ xs) [] ≡ compared (front (x ∷ xs)) []
    go true q = (rw (compared_at, q)) ∙ past_more x xs [] q
    go false q = (rw (compared_at, q)) ∙ past-none x xs [] q
compared-front (x ∷ xs) (y ∷ ys) h = go (in_tag_name x) refl (ltb x y) refl (ltb y x) refl (compared-front xs ys)
  where
    go : (b : Bool) → in_tag_name x ≡ b → (l : Bool) → ltb x y ≡ l → (m : Bool) → ltb y x ≡ m → (Named ys → compared_at xs ys ≡ compared (front xs) ys)
        → compared_at (x ∷ xs) (y ∷ ys) ≡ compared (front (x ∷ xs)) (y ∷ ys)
    go true q true l m e ih = (rw (compared_at, compared, l)) ∙ past_more x xs (y ∷ ys) q
    go true q false l true e ih = (rw (compared_at, compared, l, e, q)) ∙ past_more x xs (y ∷ ys) q
    go true q false l false e ih = (rw (compared_at, compared, l, e) (ih (named-rest y ys h))) ∙ past_more x xs (y ∷ ys) q
    go false q true l m e ih = (rw (compared_at, l)) ∙ past-none x xs (y ∷ ys) q
    go false q false l true e ih = (rw (compared_at, l, e, q)) ∙ past-none x xs (y ∷ ys) q
    go false q false l false e ih =
        let a = ltb-false x y l in
        let b = ltb-false y x e in
        let z : x ≡ y = omega (arith, a, b) in
        let t : in_tag_name x ≡ true = ap in_tag_name z ∙ named-first y ys h (in_tag_name y) refl in
        absurd (both (in_tag_name x) q t)

-- the name at a place has bytes of names only
pub name-named : (s : List ℕ) (p : ℕ) → Named (name_at s p)
name-named s p = let l = drop p s in run_take in_tag_name (run in_tag_name l) l (omega arith) ∙ sym (long (run_fits in_tag_name l))
  where
    long : run in_tag_name (drop p s) ≤ length (drop p s) → length (name_at s p) ≡ run in_tag_name (drop p s)
    long h = length-take-le (run in_tag_name (drop p s)) (drop p s) h

-- a name stands at the front of its own bytes
pub named-whole : (n : List ℕ) → Named n → name_at n 0 ≡ n
named-whole n h = rw h (take-length n)
