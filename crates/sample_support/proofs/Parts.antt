-- The parts of a line, stored one after another, are the line stored: a writer that tells the place after its whole text, and that place cut at the room, is one
-- that tells the place after what is stored; 256 bytes, shown, have room in 768. The premises are literally what a need is handed.
use Prim.Native.Nat.{ℕ, ◌-◌, ◌*◌, ◌≤◌, ◌<◌, ◌^◌, min}
use native.Mathlib.Omega.{arith}
use mathlib.Core.Path.{◌≡◌, refl, sym, ap, ◌∙◌}
use mathlib.Core.Bool.{Bool, true, false}
use mathlib.Core.List.{List, [], ◌∷◌}
use lib.Dec.{leb}
use lib.ListN.{length, take, drop, length-take, length-drop, drop_of_length-le}
use lib.Seq.{take_all, take-length, drop-length, take-append_seam}
use borrow.Author.Tests.{leb-true, leb-false}
use Rattle.base_sequences.specs.Stored.{Clipped}
use Rattle.base_sequences.proofs.Splices.{sets-front}
use Rattle.base_sequences.proofs.Clips.{clipped-then, clipped-long}
use Rattle.base_readers.specs.Texts.{bytes}
use Rattle.text_decimals_rules.specs.Decimals.{decimal}
use Rattle.sample_sums.specs.Sums.{adler, changed}
use Rattle.sample_support.specs.Samples.{plain, shown, Filled}
use Rattle.sample_support.specs.Lines.{numbered, sums_part, text_part, bytes_part}
use Rattle.sample_support.proofs.Fills.{filled-then, shown-itself, shown-coded, shown-none}

-- ==== as many bytes in front as there are

module _ (s : List ℕ) (n k : ℕ) (e : k ≡ min n (length s)) where
  take-front : take k s ≡ take n s
  take-front = go (leb n (length s)) refl
    where
      go : (b : Bool) → leb n (length s) ≡ b → take k s ≡ take n s
      go true a = let q : k ≡ n = omega (arith, leb-true n (length s) a) in rw q
      go false a =
          let h : length s ≤ n = omega (arith, leb-false n (length s) a) in
          let q : k ≡ length s = omega arith in
          rw q (take-length s ∙ sym (take_all n s h))

  drop-front : drop k s ≡ drop n s
  drop-front = go (leb n (length s)) refl
    where
      go : (b : Bool) → leb n (length s) ≡ b → drop k s ≡ drop n s
      go true a = let q : k ≡ n = omega (arith, leb-true n (length s) a) in rw q
      go false a =
          let h : length s ≤ n = omega (arith, leb-false n (length s) a) in
          let q : k ≡ length s = omega arith in
          rw q (drop-length s ∙ sym (drop_of_length-le s h))

-- ==== the place after the whole text, cut at the room

clipped-filled : {old text new : List ℕ} {at next r : ℕ} → length old < 2 ^ 64 → Clipped old at text new next → r ≡ min next (length new) → Filled old at text new r
clipped-filled l w e = record { place = omega (arith, w.place, clipped-long w); bytes = w.bytes }

module _ (old : List ℕ) (l : length old < 2 ^ 64) (at : ℕ) (o : List ℕ) (i : ℕ) where
  pub number_put : (label : List ℕ) → Clipped old at label o i → (n : ℕ) (new : List ℕ) (j : ℕ) → Clipped o i (decimal n) new j
      → (r : ℕ) → r ≡ min j (length new) → Filled old at (numbered label n) new r
  number_put label u n new j v r e = clipped-filled l (clipped-then (omega arith) u v) e

  pub text-put : (s : List ℕ) → Clipped old at (bytes " text [") o i → (p : List ℕ) (j : ℕ) → Clipped o i (shown (take 256 s)) p j
      → (new : List ℕ) (k : ℕ) → Clipped p j (bytes "]") new k → (r : ℕ) → r ≡ min k (length new) → Filled old at (text_part s) new r
  unfolding text_part
  text-put s u p j v new k w r e = clipped-filled l (clipped-then (omega arith) u (clipped-then (omega (arith, clipped-long u)) v w)) e

-- ==== one part after another

module _ (lent : List ℕ) (written n : ℕ) (e : n ≡ min written (length lent)) (old : List ℕ) (at : ℕ) (o : List ℕ) (i : ℕ) (new : List ℕ) (r : ℕ) where
  pub sums-put : (sum : ℕ) → sum ≡ adler (take n lent) → (count : ℕ) → count ≡ changed (take (length lent - n) (drop n lent))
      → Filled old at (numbered (bytes ", check ") sum) o i → Filled o i (numbered (bytes " changed ") count) new r → Filled old at (sums_part lent written) new r
  unfolding sums_part
  sums-put sum p count q u v =
      let d : count ≡ changed (drop n lent) = q ∙ ap changed (take_all (length lent - n) (drop n lent) (omega (arith, length-drop n lent))) in
      rw (← take-front lent written n e, ← drop-front lent written n e, ← p, ← d) (filled-then u v)

  pub bytes-put : Filled old at (sums_part lent written) o i → Filled o i (text_part (take n lent)) new r → Filled old at (bytes_part lent written) new r
  unfolding bytes_part
  bytes-put u v = rw (← take-front lent written n e) (filled-then u v)

-- ==== shown bytes have room

-- each becomes three at most
shown-short : (xs : List ℕ) → length (shown xs) ≤ 3 * length xs
shown-short [] = rw shown-none (omega arith)
shown-short (x ∷ xs) = go (plain x) refl (shown-short xs)
  where
    go : (b : Bool) → plain x ≡ b → length (shown xs) ≤ 3 * length xs → length (shown (x ∷ xs)) ≤ 3 * length (x ∷ xs)
    go true e h = rw (shown-itself x xs e) (omega (arith, h))
    go false e h = rw (shown-coded x xs e) (omega (arith, h))

-- so the first 256 stand in the buffer whole
module _ (s : List ℕ) (k : ℕ) (e : k ≡ min 256 (length s)) (old : List ℕ) (l : 768 ≡ length old) (new : List ℕ) (n : ℕ) (w : Filled old 0 (shown (take k s)) new n) where
  first-shown : take n new ≡ shown (take 256 s)
  first-shown =
      let t : List ℕ = shown (take k s) in
      let h : length t ≤ length old = omega (arith, shown-short (take k s), length-take k s) in
      let m : n ≡ length t = omega (arith, w.place) in
      let q : take n new ≡ t = rw (m, w.bytes, sets-front old t h) (take-append_seam t (drop (length t) old)) in
      q ∙ ap shown (take-front s 256 k e)

  pub first-put : (out : List ℕ) (to : ℕ) (out' : List ℕ) (r : ℕ) → Clipped out to (take n new) out' r → Clipped out to (shown (take 256 s)) out' r
  first-put out to out' r v = rw (← first-shown) v
