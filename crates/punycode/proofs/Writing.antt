-- Code points written in UTF-8.
use Prim.Native.Nat.{ℕ, suc, ◌+◌, ◌*◌, ◌/◌, ◌%◌, ◌≤◌, ◌<◌}
use native.Mathlib.Numerals.{add-one, add-two, add-three}
use native.Mathlib.Omega.{arith}
use mathlib.Core.Path.{◌≡◌, refl, ap, ◌∙◌}
use mathlib.Core.Bool.{true}
use mathlib.Core.List.{List, [], ◌∷◌}
use lib.ListN.{length, get_or, set, drop, drop_of_length-le}
use lib.Seq.{drop-cons}
use borrow.Author.Tests.{lt-ltb, le-ltb}
use Rattle.base_sequences.specs.Stored.{Put}
use Rattle.base_sequences.proofs.Splices.{Left, left-start, left_step, left-done, put-wrote, wrote-put}
use Rattle.punycode_rules.specs.Unicode.{scalars, utf8, utf8s}
use Rattle.punycode_laws.proofs.Encoding.{utf8-bounds, scalars-first}

module _ (x : ℕ) (o : List ℕ) (to : ℕ) where
  pub point-one : x < 128 → (a : List ℕ) → a ≡ set o to x → Put o to (utf8 x) a 1
  unfolding utf8
  point-one h a p = let u : utf8 x ≡ x ∷ [] = rw (utf8, lt-ltb x 128 h) in rw u (record { count = refl; bytes = p })

  module _ (h : 128 ≤ x) where
    pub point-two : x < 2048 → (a b : List ℕ) → a ≡ set o to (192 + x / 64) → b ≡ set a (to + 1) (128 + x % 64) → Put o to (utf8 x) b 2
    unfolding utf8
    point-two i a b p q =
        let u : utf8 x ≡ (192 + x / 64) ∷ (128 + x % 64) ∷ [] = rw (utf8, le-ltb x 128 h, lt-ltb x 2048 i) in
        rw u (record { count = refl; bytes = q ∙ rw (p, add-one) })

    module _ (i : 2048 ≤ x) where
      pub point-three : x < 65536 → (a b c : List ℕ) → a ≡ set o to (224 + x / 4096) → b ≡ set a (to + 1) (128 + x / 64 % 64) → c ≡ set b (to + 2) (128 + x % 64) → Put o to (utf8 x) c 3
      unfolding utf8
      point-three j a b c p q r =
          let u : utf8 x ≡ (224 + x / 4096) ∷ (128 + x / 64 % 64) ∷ (128 + x % 64) ∷ [] = rw (utf8, le-ltb x 128 h, le-ltb x 2048 i, lt-ltb x 65536 j) in
          rw u (record { count = refl; bytes = r ∙ rw (q, p, add-one, add-two) })

      pub point-four : 65536 ≤ x → (a b c d : List ℕ) → a ≡ set o to (240 + x / 262144) → b ≡ set a (to + 1) (128 + x / 4096 % 64) → c ≡ set b (to + 2) (128 + x / 64 % 64)
          → d ≡ set c (to + 3) (128 + x % 64) → Put o to (utf8 x) d 4
      unfolding utf8
      point-four j a b c d p q r s =
          let u : utf8 x ≡ (240 + x / 262144) ∷ (128 + x / 4096 % 64) ∷ (128 + x / 64 % 64) ∷ (128 + x % 64) ∷ [] = rw (utf8, le-ltb x 128 h, le-ltb x 2048 i, le-ltb x 65536 j) in
          rw u (record { count = refl; bytes = s ∙ rw (r, q, p, add-one, add-two, add-three) })

-- ==== the loop

pub record Pointed (points old : List ℕ) (to : ℕ) (out : List ℕ) (j n : ℕ) : Type 0 where
  pub left : Left old to (utf8s points) out (to + n) (utf8s (drop j points))
  pub good : scalars (drop j points) ≡ true
  pub bound : n ≤ 4 * j

pub pointed-start : (points old : List ℕ) (to : ℕ) → scalars points ≡ true → Pointed points old to old 0 0
pointed-start points old to h =
    let y : to + 0 ≡ to = omega arith in
    record { left = rw y (left-start old to (utf8s points)); good = h; bound = omega arith }

module _ (points old : List ℕ) (to : ℕ) (out : List ℕ) (j n : ℕ) (w : Pointed points old to out j n) where
  pub pointed-end : length points ≤ j → Put old to (utf8s points) out n
  unfolding utf8s
  pointed-end h =
      let l : Left old to (utf8s points) out (to + n) [] = (rw (drop_of_length-le points h) at w.left) in
      wrote-put (left-done l refl)

  module _ (h : j < length points) where
    next : drop j points ≡ get_or points j 0 ∷ drop (suc j) points
    next = drop-cons {A = ℕ} points j 0 h

    pub pointed-small : get_or points j 0 < 1114112
    pointed-small = (scalars-first _ _ (rw next at w.good)).0

    pub pointed-on : (out' : List ℕ) (k : ℕ) → Put out (to + n) (utf8 (get_or points j 0)) out' k → Pointed points old to out' (j + 1) (n + k)
    unfolding utf8s
    pointed-on out' k p =
        let y : to + n + k ≡ to + (n + k) = omega arith in
        record {
          left = rw add-one (left_step {x = utf8 (get_or points j 0)} w.left (ap utf8s next) (rw y at (put-wrote p)));
          good = rw add-one (scalars-first _ _ (rw next at w.good)).1;
          bound = omega (arith, w.bound, p.count, utf8-bounds (get_or points j 0));
        }
