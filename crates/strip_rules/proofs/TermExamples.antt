-- What the theorems on stripping speak of, at worked examples: the kept and the removed fields of a block computed, and of each notion something that it
-- holds of, and next to that something that it does not hold of.
use Prim.Native.Nat.{ℕ, ◌+◌}
use native.Mathlib.Omega.{arith}
use mathlib.Core.Path.{◌≡◌, refl, sym, ap, ◌∙◌}
use mathlib.Core.Bool.{false}
use mathlib.Core.List.Memᴰ
use mathlib.Core.List.{List, [], ◌∷◌, ◌++◌}
use lib.Dec.{lit≤}
use lib.ListN.{length, get_or}
use Rattle.base_sequences.proofs.Booleans.{no_true}
use Rattle.base_readers.specs.Texts.{bytes}
use Rattle.base_readers.specs.Parsers.{Got, nothing, got}
use Rattle.block_rules.specs.Fields.{Field, bytes_of}
use Rattle.identifier_rules.specs.Identifier.{same_identifier}
use Rattle.strip_rules.specs.Terms.{kept_fields, removed_fields, Known}
use Rattle.strip_rules.specs.ByFields.{OursOrUnreadable, unreadable, ours, Removed, Kept, end, stays, goes}
use Rattle.strip_rules.proofs.Examples.{opened}

-- ==== the fields of a block

abbrev block : List ℕ
block = bytes "Authentication-Results:a\r\nB:\r\nAuthentication-Results:c\r\nAuthentication-Results:/\r\n"

kept : bytes_of (kept_fields block (bytes "a\n")) ≡ bytes "B:\r\nAuthentication-Results:c\r\n"
unfolding opened
kept = refl

removed : bytes_of (removed_fields block (bytes "a\n")) ≡ bytes "Authentication-Results:a\r\nAuthentication-Results:/\r\n"
unfolding opened
removed = refl

-- they are all there, or not (ownlist_rules has an example for each clause)
known : Known block (bytes "a\n")
unfolding opened
known = (lit≤ tt, (refl, refl))

not-bad-list : Known block (bytes "a\n\n") → ⊥
unfolding opened
not-bad-list k = let h : ◌≡◌ {A = ℕ} 5 0 = k.1.0 in omega arith

-- ==== an identifier that is listed or can't be read

abbrev ab : List (List ℕ)
ab = bytes "a" ∷ bytes "b" ∷ []

is-unreadable : OursOrUnreadable ab (bytes "/")
unfolding opened
is-unreadable = unreadable refl

-- the second entry, in another case
is_ours : OursOrUnreadable ab (bytes " B; none")
unfolding opened
is_ours = ours (bytes "B") 2 (bytes "b") refl (Memᴰ.tail (Memᴰ.head refl)) refl

-- the text that was read, and none where there was nothing to read
abbrev text_of : Got (List ℕ) → List ℕ
text_of nothing = bytes "/"
text_of (got i n) = i

-- one that can be read, and equals no entry, though it equals itself
not_ours : OursOrUnreadable (bytes "b" ∷ []) (bytes "c") → ⊥
unfolding opened
not_ours (unreadable e) = let h : ◌≡◌ {A = ℕ} 99 47 = ap (λ (g : Got (List ℕ)). get_or (text_of g) 0 0) e in omega arith
not_ours (ours i n e r m s) = no_true (sym c ∙ s)
  where
    c : same_identifier e i ≡ false
    c = ap (same_identifier e) (sym (ap text_of r)) ∙ ap (λ (x : List ℕ). same_identifier x (bytes "c")) (Memᴰ.eq_of_singleton m)

-- ==== a field that is removed

-- a field by its name and its body
abbrev field : List ℕ → List ℕ → Field
field n b = record { bytes = n ++ (bytes ":" ++ (b ++ bytes "\r\n")); name = length n; body = length n + 1 }

abbrev results : List ℕ → Field
results b = field (bytes "Authentication-Results") b

abbrev only_b : List (List ℕ)
only_b = bytes "b" ∷ []

is_removed : Removed only_b (results (bytes "/"))
unfolding opened
is_removed = record { name = refl; identifier = unreadable refl }

-- another name, and one that goes on
not_named : Removed only_b (field (bytes "ARC-Seal") (bytes "/")) → ⊥
unfolding opened
not_named r = no_true r.name

not-longer : Removed only_b (field (bytes "Authentication-Results-Original") (bytes "/")) → ⊥
unfolding opened
not-longer r = no_true r.name

not-other : Removed only_b (results (bytes "c")) → ⊥
unfolding opened
not-other r = not_ours r.identifier

-- ==== those that are kept

abbrev other : Field
other = results (bytes "c")

abbrev unread : Field
unread = results (bytes "/")

-- in order, and without those that are removed
are-kept : Kept only_b (unread ∷ other ∷ unread ∷ other ∷ []) (other ∷ other ∷ [])
are-kept = goes is_removed (stays not-other (goes is_removed (stays not-other end)))

-- one that is to be removed is not there, and one that is not is not left out
not-staying : Kept only_b (unread ∷ []) (unread ∷ []) → ⊥
not-staying (goes _ x) = elim x [ ]
not-staying (stays n k) = n is_removed

not_going : Kept only_b (other ∷ []) [] → ⊥
not_going (goes r k) = not-other r
