-- What one call of a reader or a writer adds to the bytes that were read or written so far.
use Rattle.std.proofs.Common.{◌≡◌, ℕ, ◌+◌, ◌-◌, ◌≤◌, List, ◌++◌, Option, Result, Ok, Err, arith, length, take, drop, slice_range, sym, ap, ◌∙◌, subst, le_refl, drop_at, length-take-le}
use Rattle.std.proofs.lemmas.Slice.{take-put_mid_below}
use Rattle.std.specs.Prelude.{IsErr}
use Rattle.std.specs.Io.KnownBytes.{Keeps, Consumes, Appends, ReadConsumes, WriteAppends}
use Rattle.std.specs.Io.{ReadsAtMost}
use Rattle.std.proofs.KnownBytes.{Consumes-trans, Consumes-kept, Appends-trans, Appends-kept}
use Rattle.base_sequences.proofs.Booleans.{no_true}
use borrow.Rule.Slice.PartMut.{put_mid, post_of}
use lib.Seq.{take-add, take-take, take-append-le}

-- ==== a call that failed leaves the known bytes

read_kept : {E : Type 0} (b c : Option (List ℕ)) (r : Result ℕ E) (part : List ℕ) → IsErr r → ReadConsumes b c r part → Keeps b c
read_kept b c (Ok n) part f h = absurd (no_true f)
read_kept b c (Err e) part f h = h

write_kept : {E : Type 0} (b c : Option (List ℕ)) (r : Result ℕ E) (part : List ℕ) → IsErr r → WriteAppends b c r part → Keeps b c
write_kept b c (Ok n) part f h = absurd (no_true f)
write_kept b c (Err e) part f h = h

-- ==== reading

take_split : (a b : ℕ) (old new : List ℕ) → a ≤ b → take a new ≡ take a old → take a old ++ slice_range new a b ≡ take b new
take_split a b old new h front =
    let same : a + (b - a) ≡ b = omega arith in
    ap (λ l. l ++ slice_range new a b) (sym front) ∙ sym (take-add a (b - a) new) ∙ ap (λ n. take n new) same

slice_range-put_mid : (a k n : ℕ) (xs ys : List ℕ) → a ≤ length xs → n ≤ length ys → slice_range (put_mid a k xs ys) a (a + n) ≡ take n ys
slice_range-put_mid a k n xs ys within fits =
    let same : (a + n) - a ≡ n = omega arith in
    let after = post_of a k xs in
    ap (take ((a + n) - a)) (drop_at (take a xs) (ys ++ after) a (length-take-le a xs within)) ∙ ap (λ m. take m (ys ++ after)) same ∙ take-append-le n ys after fits

module _ {E : Type 0} (a b c : Option (List ℕ)) (r : Result ℕ E) (old part : List ℕ) (done k next : ℕ) (within : done ≤ length old) (before : Consumes a b (take done old)) (read : ReadConsumes b c r part) where
  pub gave : (n : ℕ) → r ≡ Ok n → ReadsAtMost r part → next ≡ done + n → Consumes a c (take next (put_mid done k old part))
  gave n e bound to =
      let fits : n ≤ length part = (subst (λ x. ReadsAtMost x part) e bound).0 in
      let new = put_mid done k old part in
      let given : Consumes b c (take n part) = (subst (λ x. ReadConsumes b c x part) e read).0 in
      let middle = slice_range-put_mid done k n old part within fits in
      let joined = take_split done (done + n) old new (omega arith) (take-put_mid_below _ _ _ _ _ (le_refl _) within) in
      subst (Consumes a c) (ap (λ l. take done old ++ l) (sym middle) ∙ joined ∙ ap (λ m. take m new) (sym to)) (Consumes-trans a b c _ _ before given)

  pub gave_none : IsErr r → next ≡ done → Consumes a c (take next (put_mid done k old part))
  gave_none f to =
      let new = put_mid done k old part in
      subst (Consumes a c) (sym (take-put_mid_below _ _ _ _ _ (le_refl _) within) ∙ ap (λ m. take m new) (sym to)) (Consumes-kept a b c _ before (read_kept b c r part f read))

-- ==== writing

module _ {E : Type 0} (a b c : Option (List ℕ)) (r : Result ℕ E) (text : List ℕ) (done room next : ℕ) (before : Appends a b (take done text)) (write : WriteAppends b c r (take room (drop done text))) where
  pub took : (n : ℕ) → r ≡ Ok n → n ≤ room → next ≡ done + n → Appends a c (take next text)
  took n e fits to =
      let given : Appends b c (take n (take room (drop done text))) = subst (λ x. WriteAppends b c x (take room (drop done text))) e write in
      subst (Appends a c) (ap (λ l. take done text ++ l) (take-take n room (drop done text) fits) ∙ sym (take-add done n text) ∙ ap (λ m. take m text) (sym to))
      (Appends-trans a b c _ _ before given)

  pub took_none : IsErr r → next ≡ done → Appends a c (take next text)
  took_none f to = subst (Appends a c) (ap (λ m. take m text) (sym to)) (Appends-kept a b c _ before (write_kept b c r _ f write))
