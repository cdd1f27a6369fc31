-- Which fields go, by the tests that the code makes in turn.
use Prim.Native.Nat.{ℕ}
use mathlib.Core.Path.{◌≡◌, refl, ap, ◌∙◌}
use mathlib.Core.Bool.{Bool, true, false, ◌&&◌}
use mathlib.Core.List.{List}
use Rattle.base_readers.specs.Texts.{bytes}
use Rattle.base_readers.specs.Parsers.{Got, nothing, got}
use Rattle.lexis_rules.specs.Bytes.{alike}
use Rattle.ownlist_rules.specs.declared.Own.{Own}
use Rattle.identifier_rules.specs.Identifier.{identifier}
use Rattle.ownlist_rules.specs.Listed.{own_if}
use Rattle.ownlist_rules.specs.Spelled.{among_spelled, own_of_spelled}
use Rattle.strip_rules.specs.Strip.{ours_or_unreadable}
use Rattle.strip_fields.specs.Sifting.{is_disowned}

if-disowned : (b : Bool) → is_disowned (own_if b) ≡ b
if-disowned true = refl
if-disowned false = refl

-- ours and unreadable ones go, others stay
pub whose-disowned : (lines : List (List ℕ)) (body : List ℕ) (o : Own) → o ≡ own_of_spelled lines (identifier body) → (r : Bool) → r ≡ is_disowned o
    → r ≡ ours_or_unreadable (among_spelled lines) body
unfolding ours_or_unreadable
whose-disowned lines body o h r e = e ∙ (ap is_disowned h ∙ go (identifier body) refl)
  where
    go : (g : Got (List ℕ)) → identifier body ≡ g → is_disowned (own_of_spelled lines (identifier body)) ≡ ours_or_unreadable (among_spelled lines) body
    go nothing q = rw (ours_or_unreadable, q)
    go (got i n) q = rw (ours_or_unreadable, q) (if-disowned (among_spelled lines i))

module _ (listed : List ℕ → Bool) (name body : List ℕ) (r : Bool) (h : r ≡ alike name (bytes "Authentication-Results")) where
  pub other_name : r ≡ false → false ≡ (alike name (bytes "Authentication-Results") && ours_or_unreadable listed body)
  other_name t = rw (← h, t)

  pub this-name : r ≡ true → (q : Bool) → q ≡ ours_or_unreadable listed body → q ≡ (alike name (bytes "Authentication-Results") && ours_or_unreadable listed body)
  this-name t q e = rw (← h, t) e
