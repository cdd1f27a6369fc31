-- 02, ticket [14], "Nobody speaks in our name": what its theorems speak of.
use Rattle.std.specs.Prelude.{ℕ, suc, ◌≤◌, ◌≡◌, Bool, true, false, ◌&&◌, length}
use mathlib.Core.List.{List, [], ◌∷◌, ◌++◌, Memᴰ}
use Rattle.base_readers.specs.Texts.{bytes}
use Rattle.base_readers.specs.Parsers.{Got, nothing, got}
use Rattle.lexis_rules.specs.Bytes.{alike}
use Rattle.lexis_rules.specs.Limits.{byte_limit}
use Rattle.block_rules.specs.Fields.{Field, name_of, body_of, named, fields}
use Rattle.identifier_rules.specs.Identifier.{identifier, same_identifier}
use Rattle.ownlist_rules.specs.declared.Own.{Own}
use Rattle.ownlist_rules.specs.declared.Own.TheVariants.{Ours, Others, Unreadable}
use Rattle.ownlist_rules.specs.OwnList.{own_list}
use Rattle.report_rules.specs.Newer.{WellFormed}
use Rattle.blockreport_rules.specs.declared.Detail.{Detail}
use Rattle.blockreport_rules.specs.BlockReport.{addition}

-- one well-formed Authentication-Results field of ours that has an identifier from the list: bytes that are one field by document 01's rules,
-- which reads them as f
pub record OwnField (list ours : List ℕ) (f : Field) : Type 0 where
  pub one : fields ours ≡ record { items = f ∷ []; number = 0; place = 0 }
  pub name : alike (name_of f) (bytes "Authentication-Results") ≡ true
  pub body : WellFormed (body_of f)
  pub text : List ℕ
  pub size : ℕ
  pub reads : identifier (body_of f) ≡ got text size
  pub entry : List ℕ
  pub listed : Memᴰ entry (own_list list).items
  pub equal : same_identifier entry text ≡ true

-- within 01's limits: at most 65,536 bytes, and no 513th field
pub record Within (block : List ℕ) : Type 0 where
  pub bytes : length block ≤ byte_limit
  pub fields : (fields block).number ≡ 4 → ⊥

-- an Authentication-Results field whose identifier is on the list
unfoldable pub speaks_as : (List ℕ → Bool) → Field → Bool
speaks_as listed f = named (bytes "Authentication-Results") f && (elim (identifier (body_of f)) [ nothing ↦ false | got i _ ↦ listed i ])

-- an identifier of ours
abbrev pub is_ours : Own → Bool
is_ours Ours = true
is_ours Others = false
is_ours Unreadable = false

-- of the report of a block (`additions`) what is told of fields whose identifier passes a test: all fields count, the first is the n-th of the
-- block
unfoldable pub additions_under : (Own → Bool) → Detail → (Got (List ℕ) → Own) → ℕ → List Field → List ℕ
additions_under p detail whose n [] = []
additions_under p detail whose n (f ∷ fs) =
    (elim (p (whose (identifier (body_of f)))) [ true ↦ addition detail whose n (name_of f) (body_of f) | false ↦ [] ])
    ++ additions_under p detail whose (suc n) fs

-- the field that the gateway makes of a body of its own: the name, a colon, the body and CRLF
abbrev pub field_with : List ℕ → List ℕ
field_with body = bytes "Authentication-Results:" ++ (body ++ bytes "\r\n")

-- the same as a field of a block: its name has 22 bytes, its body starts behind the colon
abbrev pub as_field : List ℕ → Field
as_field body = record { bytes = field_with body; name = 22; body = 23 }
