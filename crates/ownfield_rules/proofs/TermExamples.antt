-- What the theorems suppose, at worked examples: a field of ours and a block within the limits, and next to each clause something that fails it.
use Prim.Native.Nat.{ℕ, ◌+◌, ◌≤◌, ◌<◌}
use native.Mathlib.Omega.{arith}
use mathlib.Core.Path.{◌≡◌, refl, sym, ap, ◌∙◌}
use mathlib.Core.Bool.{false}
use mathlib.Core.List.Memᴰ
use mathlib.Core.List.{List, [], ◌∷◌, ◌++◌}
use lib.Dec.{lit≤}
use lib.ListN.{length}
use Rattle.base_sequences.proofs.Booleans.{no_true}
use Rattle.base_readers.specs.Texts.{bytes}
use Rattle.base_readers.specs.Parsers.{Got, nothing, got}
use Rattle.base_readers.specs.Walks.{Walked}
use Rattle.block_rules.specs.Fields.{Field, fields}
use Rattle.identifier_rules.specs.Identifier.{same_identifier}
use Rattle.ownfield_rules.specs.OwnField.{OwnField, Within, field_with, as_field}
use Rattle.ownfield_rules.proofs.Examples.{opened}

-- ==== one well-formed Authentication-Results field of ours that has an identifier from the list

-- the name in another case and a space before the colon; the second entry, in the other spelling and another case; a fold
abbrev written : List ℕ
written = bytes "authentication-results :\r\n B" ++ (195 ∷ 188 ∷ bytes "cher.Example; spf=fail; x/2=y\r\n")

abbrev field : Field
field = record { bytes = written; name = 22; body = 24 }

is-own : OwnField (bytes "a\nxn--bcher-kva.example\n") written field
unfolding opened
is-own =
    record {
      one = refl;
      name = refl;
      body = refl;
      text = bytes "B" ++ (195 ∷ 188 ∷ bytes "cher.Example");
      size = 18;
      reads = refl;
      entry = bytes "xn--bcher-kva.example";
      listed = Memᴰ.tail (Memᴰ.head refl);
      equal = refl;
    }

-- a field by its name and its body
abbrev field_of : List ℕ → List ℕ → Field
field_of n b = record { bytes = n ++ (bytes ":" ++ (b ++ bytes "\r\n")); name = length n; body = length n + 1 }

abbrev results : List ℕ → Field
results b = field_of (bytes "Authentication-Results") b

abbrev only_a : List ℕ
only_a = bytes "a\n"

-- not two fields, and not bytes behind the field
not-two : OwnField only_a (bytes "Authentication-Results: a; none\r\nAuthentication-Results: a; none\r\n") (results (bytes " a; none")) → ⊥
unfolding opened
not-two o = let h : ◌≡◌ {A = ℕ} 2 1 = ap (λ (w : Walked Field). length w.items) o.one in omega arith

not-cut : OwnField only_a (bytes "Authentication-Results: a; none\r\nX") (results (bytes " a; none")) → ⊥
unfolding opened
not-cut o = let h : ◌≡◌ {A = ℕ} 2 0 = ap (λ (w : Walked Field). w.number) o.one in omega arith

-- not another name
not_named : OwnField only_a (bytes "ARC-Authentication-Results: a; none\r\n") (field_of (bytes "ARC-Authentication-Results") (bytes " a; none")) → ⊥
unfolding opened
not_named o = no_true o.name

-- not a body that says nothing, or of a newer version
not-formed : OwnField only_a (bytes "Authentication-Results: a\r\n") (results (bytes " a")) → ⊥
unfolding opened
not-formed o = no_true o.body

not-newer : OwnField only_a (bytes "Authentication-Results: a 2; none\r\n") (results (bytes " a 2; none")) → ⊥
unfolding opened
not-newer o = no_true o.body

-- the text that was read, and none where there was nothing to read
abbrev text_of : Got (List ℕ) → List ℕ
text_of nothing = []
text_of (got i n) = i

-- not an identifier that equals no entry, though it equals itself
not_listed : OwnField only_a (bytes "Authentication-Results: c; none\r\n") (results (bytes " c; none")) → ⊥
unfolding opened
not_listed o = no_true (sym c ∙ o.equal)
  where
    c : same_identifier o.entry o.text ≡ false
    c = ap (same_identifier o.entry) (sym (ap text_of o.reads)) ∙ ap (λ (x : List ℕ). same_identifier x (bytes "c")) (Memᴰ.eq_of_singleton o.listed)

-- ==== within 01's limits

-- also a block that is refused for another reason
is_within : Within (bytes "a\r\n")
unfolding opened
is_within = record { bytes = lit≤ tt; fields = λ e. (let z : ◌≡◌ {A = ℕ} 3 4 = e in omega arith) }

not-long : (block : List ℕ) → 65536 < length block → Within block → ⊥
not-long block h w = let k : length block ≤ 65536 = w.bytes in omega (arith, h, k)

not-many : (block : List ℕ) → (fields block).number ≡ 4 → Within block → ⊥
not-many block e w = w.fields e

-- ==== the field that the gateway makes of a body of its own

made : field_with (bytes " a; none") ≡ bytes "Authentication-Results: a; none\r\n"
made = refl

made-field : fields (field_with (bytes " a; none")) ≡ record { items = as_field (bytes " a; none") ∷ []; number = 0; place = 0 }
unfolding opened
made-field = refl
