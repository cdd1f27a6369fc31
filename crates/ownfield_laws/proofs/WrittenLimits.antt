-- 02, ticket [14]: the room for the limits. A written field and what stripping kept are within them exactly where 25 bytes more than body and
-- stripped block have are at most 65,536, and stripping kept at most 511 fields: with one field more the walk over the fields answers 4.
use Prim.Native.Nat.{ℕ, suc, ◌+◌, ◌≤◌, zero-le}
use native.Mathlib.Omega.{arith}
use mathlib.Core.Path.{◌≡◌, refl}
use mathlib.Core.Bool.{Bool, true, false}
use mathlib.Core.List.{List, ◌++◌}
use borrow.Author.Tests.{leb-true, leb-false}
use lib.Dec.{leb}
use lib.ListN.{length, length-append}
use Rattle.lexis_rules.specs.Limits.{byte_limit}
use Rattle.strip_rules.specs.Strip.{strip}
use Rattle.strip_rules.specs.Terms.{kept_fields}
use Rattle.write_rules.specs.Compose.{compose}
use Rattle.ownfield_rules.specs.OwnField.{Within, field_with}
use Rattle.ownfield_laws.proofs.TooManyFields.{walk-over}
use Rattle.ownfield_laws.proofs.FieldInLine.{field-length}
use Rattle.ownfield_laws.proofs.WrittenIsOurs.{front-sound, front_bytes}

module _ (src block list : List ℕ) (room rest : ℕ) (written : (compose src room).number ≡ 0) (stripped : (strip block list rest).number ≡ 0)
    (within : Within (field_with (compose src room).written ++ (strip block list rest).written)) where
  pub within-fields : length (kept_fields block list) ≤ 511
  within-fields = go (leb (length (kept_fields block list)) 511) refl
    where
      go : (t : Bool) → leb (length (kept_fields block list)) 511 ≡ t → length (kept_fields block list) ≤ 511
      go true q = leb-true (length (kept_fields block list)) 511 q
      go false q =
          absurd
          (within.fields
          (rw (front_bytes src block list room rest written stripped) at
          (walk-over 0 0 (front-sound src block list room rest written stripped) zero-le (omega (arith, leb-false (length (kept_fields block list)) 511 q)))))

  pub within-bytes : length (compose src room).written + 25 + length (strip block list rest).written ≤ byte_limit
  within-bytes =
      omega (arith, within.bytes, length-append (field_with (compose src room).written) (strip block list rest).written, field-length (compose src room).written)
