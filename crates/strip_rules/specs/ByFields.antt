-- Demand 2's sentence on stripping, said of each field by itself: it removes exactly the Authentication-Results fields whose identifier is on our
-- own list or can't be read, and keeps every other one in order.
use Rattle.std.specs.Prelude.{ℕ, ◌≡◌, true}
use mathlib.Core.List.{List, [], ◌∷◌, Memᴰ}
use Rattle.base_readers.specs.Texts.{bytes}
use Rattle.base_readers.specs.Parsers.{nothing, got}
use Rattle.lexis_rules.specs.Bytes.{alike}
use Rattle.block_rules.specs.Fields.{Field, name_of, body_of}
use Rattle.identifier_rules.specs.Identifier.{identifier, same_identifier}

-- the identifier can't be read, or equals an entry of the list
pub data OursOrUnreadable (own : List (List ℕ)) (body : List ℕ) : Type 0 where
  unreadable : identifier body ≡ nothing → OursOrUnreadable own body
  ours : (i : List ℕ) (n : ℕ) (e : List ℕ) → identifier body ≡ got i n → Memᴰ e own → same_identifier e i ≡ true → OursOrUnreadable own body

-- a field that is removed
pub record Removed (own : List (List ℕ)) (f : Field) : Type 0 where
  pub name : alike (name_of f) (bytes "Authentication-Results") ≡ true
  pub identifier : OursOrUnreadable own (body_of f)

-- of some fields, one after the other: those that are removed are left out, and every other one is there, in order
pub data Kept (own : List (List ℕ)) : List Field → List Field → Type 0 where
  end : Kept own [] []
  stays : {f : Field} {fs ks : List Field} → (Removed own f → ⊥) → Kept own fs ks → Kept own (f ∷ fs) (f ∷ ks)
  goes : {f : Field} {fs ks : List Field} → Removed own f → Kept own fs ks → Kept own (f ∷ fs) ks
