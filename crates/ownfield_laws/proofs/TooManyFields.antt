-- Sound fields, more than a block may have: the walk over their bytes answers 4. By induction on the fields.
use Prim.Native.Nat.{ℕ, zero, suc, ◌+◌, ◌≤◌, ◌<◌}
use native.Mathlib.Omega.{arith}
use mathlib.Core.Path.{◌≡◌, refl, ap, ◌∙◌}
use mathlib.Core.Bool.{Bool, true, false}
use mathlib.Core.List.{List, ◌++◌}
use borrow.Author.Tests.{le-leb, leb-true, leb-false}
use lib.Dec.{leb}
use lib.ListN.{length, get_or, length-append}
use lib.Seq.{drop-append_seam}
use Rattle.base_readers.specs.Walks.{Walked, refused, walk}
use Rattle.base_readers.proofs.Walks.{walk-item, walk-stop}
use Rattle.lexis_rules.specs.declared.Class.TheVariants.{Blank}
use Rattle.lexis_rules.specs.Bytes.{in_class}
use Rattle.block_rules.specs.Fields.{Field, field_limit, line, name_colon, field_at, bytes_of}
use Rattle.block_rules.specs.Sound.{Sound, AllSound, none, more}
use Rattle.block_laws.proofs.Field.{whole}
use Rattle.block_laws.proofs.Fields.{first-sound}

-- after so many fields as a block may have, any further one is refused
field-over : (f : Field) → Sound f → (at count : ℕ) (t : List ℕ) → field_limit ≤ count → in_class Blank (get_or t 0 0) ≡ false → field_at at count (f.bytes ++ t) ≡ refused 4 at
unfolding field_at
field-over f s at count t h b =
    let w = whole at 0 (f.bytes ++ t) f (length f.bytes) (s.steady at 0 t (omega arith) b) in
    lined w.lined w.labelled (line (f.bytes ++ t)) refl
  where
    over : leb field_limit count ≡ true
    over = le-leb field_limit count h

    labelled : (name_colon (f.bytes ++ t) ≡ 0 → ⊥) → (l : ℕ) → line (f.bytes ++ t) ≡ suc l → (n : ℕ) → name_colon (f.bytes ++ t) ≡ n
        → field_at at count (f.bytes ++ t) ≡ refused 4 at
    labelled some l e zero q = absurd (some q)
    labelled some l e (suc n) q = rw (field_at, e, q, over)

    lined : (line (f.bytes ++ t) ≡ 0 → ⊥) → (name_colon (f.bytes ++ t) ≡ 0 → ⊥) → (l : ℕ) → line (f.bytes ++ t) ≡ l → field_at at count (f.bytes ++ t) ≡ refused 4 at
    lined some some' zero e = absurd (some e)
    lined some some' (suc l) e = labelled some' l e (name_colon (f.bytes ++ t)) refl

pub walk-over : (at count : ℕ) {fs : List Field} → AllSound fs → count ≤ field_limit → field_limit < count + length fs → (walk field_at at count 0 (bytes_of fs)).number ≡ 4
unfolding bytes_of
walk-over at count none h l = absurd (omega arith)
walk-over at count (more {f} {fs} s a) h l = go (λ k. walk-over (at + length f.bytes) (suc count) a k (omega arith)) (leb field_limit count) refl
  where
    long : 0 < length (f.bytes ++ bytes_of fs)
    long = rw length-append (omega (arith, s.some))

    go : (suc count ≤ field_limit → (walk field_at (at + length f.bytes) (suc count) 0 (bytes_of fs)).number ≡ 4) → (t : Bool) → leb field_limit count ≡ t
        → (walk field_at at count 0 (f.bytes ++ bytes_of fs)).number ≡ 4
    go ih true q =
        ap (λ (w : Walked Field). w.number)
        (walk-stop field_at at count (f.bytes ++ bytes_of fs) 4 at long (field-over f s at count (bytes_of fs) (leb-true field_limit count q) (first-sound a)))
    go ih false q =
        let k : count < field_limit = leb-false field_limit count q in
        ap (λ (w : Walked Field). w.number)
        (walk-item field_at at count (f.bytes ++ bytes_of fs) f (length f.bytes) long s.some (s.steady at count (bytes_of fs) k (first-sound a)))
        ∙ rw (drop-append_seam f.bytes (bytes_of fs)) (ih k)
