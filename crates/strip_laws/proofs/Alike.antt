-- Where the same identifiers are listed, stripping gives the same.
use Prim.Native.Nat.{ℕ}
use mathlib.Core.Path.{◌≡◌, refl, sym, ap, ◌∙◌}
use mathlib.Core.Bool.{Bool, true, false, not, ◌&&◌}
use mathlib.Core.List.{List, [], ◌∷◌}
use Rattle.base_readers.specs.Texts.{bytes}
use Rattle.base_readers.specs.Parsers.{Got, nothing, got}
use Rattle.block_rules.specs.Fields.{Field, body_of, named, fields, select}
use Rattle.block_laws.proofs.Fields.{select_yes, select_no}
use Rattle.identifier_rules.specs.Identifier.{identifier}
use Rattle.ownlist_laws.proofs.CallCases.{or-refusal-same}
use Rattle.strip_rules.specs.Strip.{ours_or_unreadable, is_removed, removed_of, kept_of, refuse, fitted, strip_fields}

same_select : (p q : Field → Bool) → ((f : Field) → p f ≡ q f) → (fs : List Field) → select p fs ≡ select q fs
unfolding select
same_select p q h [] = refl
same_select p q h (f ∷ fs) = go (q f) refl (same_select p q h fs)
  where
    go : (t : Bool) → q f ≡ t → select p fs ≡ select q fs → select p (f ∷ fs) ≡ select q (f ∷ fs)
    go true e ih = select_yes p f fs (h f ∙ e) ∙ (ap (λ (l : List Field). f ∷ l) ih ∙ sym (select_yes q f fs e))
    go false e ih = select_no p f fs (h f ∙ e) ∙ (ih ∙ sym (select_no q f fs e))

module _ (listed listed' : List ℕ → Bool) (same : (i : List ℕ) → listed i ≡ listed' i) where
  pub same-goes : (f : Field) → is_removed listed f ≡ is_removed listed' f
  unfolding is_removed ours_or_unreadable
  same-goes f = ap (λ (t : Bool). named (bytes "Authentication-Results") f && t) (go (identifier (body_of f)) refl)
    where
      go : (g : Got (List ℕ)) → identifier (body_of f) ≡ g → ours_or_unreadable listed (body_of f) ≡ ours_or_unreadable listed' (body_of f)
      go nothing q = rw (ours_or_unreadable, q)
      go (got i n) q = rw (ours_or_unreadable, q) (same i)

  pub same-gone : (fs : List Field) → removed_of listed fs ≡ removed_of listed' fs
  same-gone = same_select (is_removed listed) (is_removed listed') same-goes

  pub same-stays : (fs : List Field) → kept_of listed fs ≡ kept_of listed' fs
  same-stays = same_select (λ f. not (is_removed listed f)) (λ f. not (is_removed listed' f)) (λ f. ap not (same-goes f))

  pub same-stripped : (block : List ℕ) (room : ℕ) → strip_fields block listed room ≡ strip_fields block listed' room
  unfolding strip_fields
  same-stripped block room =
      or-refusal-same refuse (fields block) (λ fs. fitted (kept_of listed fs) (removed_of listed fs) room) (λ fs. fitted (kept_of listed' fs) (removed_of listed' fs) room) each
    where
      each : (fs : List Field) → fitted (kept_of listed fs) (removed_of listed fs) room ≡ fitted (kept_of listed' fs) (removed_of listed' fs) room
      each fs = rw (same-gone fs, same-stays fs)
