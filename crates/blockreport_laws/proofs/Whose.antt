-- Where the same is said of whose each identifier is, the report of a block is the same.
use Prim.Native.Nat.{ℕ, suc}
use mathlib.Core.Path.{◌≡◌, refl, ap}
use mathlib.Core.Bool.{Bool, true, false}
use mathlib.Core.List.{List, [], ◌∷◌}
use Rattle.base_readers.specs.Texts.{bytes}
use Rattle.base_readers.specs.Parsers.{Got}
use Rattle.lexis_rules.specs.Bytes.{alike}
use Rattle.block_rules.specs.Fields.{Field, name_of, body_of, fields}
use Rattle.ownlist_rules.specs.declared.Own.{Own}
use Rattle.identifier_rules.specs.Identifier.{identifier}
use Rattle.ownlist_laws.proofs.CallCases.{or-refusal-same}
use Rattle.blockreport_rules.specs.declared.Detail.{Detail}
use Rattle.blockreport_rules.specs.BlockReport.{body_lines, addition, additions, refuse, fitted, report_fields}

module _ (detail : Detail) (whose whose' : Got (List ℕ) → Own) (same : (g : Got (List ℕ)) → whose g ≡ whose' g) where
  same-addition : (n : ℕ) (name body : List ℕ) → addition detail whose n name body ≡ addition detail whose' n name body
  unfolding addition
  same-addition n name body = go (alike name (bytes "Authentication-Results")) refl
    where
      go : (t : Bool) → alike name (bytes "Authentication-Results") ≡ t → addition detail whose n name body ≡ addition detail whose' n name body
      go true e = rw (addition, e) (ap (λ (o : Own). body_lines detail n o body) (same (identifier body)))
      go false e = rw (addition, e)

  same-additions : (n : ℕ) (fs : List Field) → additions detail whose n fs ≡ additions detail whose' n fs
  unfolding additions
  same-additions n [] = refl
  same-additions n (f ∷ fs) = rw (same-addition n (name_of f) (body_of f), same-additions (suc n) fs)

  pub same-reported : (block : List ℕ) (room : ℕ) → report_fields detail block whose room ≡ report_fields detail block whose' room
  unfolding report_fields
  same-reported block room =
      or-refusal-same refuse (fields block) (λ fs. fitted (additions detail whose 1 fs) room) (λ fs. fitted (additions detail whose' 1 fs) room)
      (λ fs. ap (λ (text : List ℕ). fitted text room) (same-additions 1 fs))
