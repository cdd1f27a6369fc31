-- Names of tags at places of a body.
use Rattle.std.specs.Prelude.{ℕ, ◌+◌, ◌*◌, ◌/◌, ◌%◌, ◌≡◌, Bool, true, false, not, ◌&&◌, ◌||◌, List, [], ◌∷◌, eqb, ltb, length, take, drop}
use Rattle.base_readers.specs.Texts.{bytes, same, starts}
use Rattle.base_readers.specs.Readers.{run}
use Rattle.std.specs.List.{list_any}
use Rattle.std.specs.declared.cmp.Ordering.{Ordering}
use Rattle.std.specs.declared.cmp.Ordering.TheVariants.{Less, Equal, Greater}
use Rattle.std.specs.Ordering.{is_eq}
use Rattle.tag_rules.specs.Tags.{in_tag_name}
use Rattle.tag_rules.specs.Needed.{seal_tags}

-- the name that starts at a place
abbrev pub name_at : List ℕ → ℕ → List ℕ
name_at s a = take (run in_tag_name (drop a s)) (drop a s)

-- a text has bytes of names only
abbrev pub Named : List ℕ → Type 0
Named n = run in_tag_name n ≡ length n

-- ==== the order of names

-- how a name stands to another
unfoldable pub compared : List ℕ → List ℕ → Ordering
compared [] [] = Equal
compared [] (y ∷ ys) = Less
compared (x ∷ xs) [] = Greater
compared (x ∷ xs) (y ∷ ys) = elim (ltb x y) [ true ↦ Less | false ↦ (elim (ltb y x) [ true ↦ Greater | false ↦ compared xs ys ]) ]

-- how the name at the front of bytes stands to another. Only the byte behind the other, or the first that is more than the other's, is asked
-- whether it is one of a name (`compared-front` in proofs/Fronts.antt: where the other is `Named` this is `compared` of the two)
unfoldable pub compared_at : List ℕ → List ℕ → Ordering
compared_at xs [] = elim (starts in_tag_name xs) [ true ↦ Greater | false ↦ Equal ]
compared_at [] (y ∷ ys) = Less
compared_at (x ∷ xs) (y ∷ ys) =
    elim (ltb x y) [
      | true ↦ Less
      | false ↦ (elim (ltb y x) [
        | true ↦ (elim (in_tag_name x) [ true ↦ Greater | false ↦ Less ])
        | false ↦ compared_at xs ys
      ])
    ]

-- the name at a place is this one
abbrev pub same_at : List ℕ → ℕ → List ℕ → Bool
same_at s p n = is_eq (compared_at (drop p s) n)

-- ==== names at places

-- a name is one of these
unfoldable pub holds : List (List ℕ) → List ℕ → Bool
holds [] n = false
holds (k ∷ ks) n = same k n || holds ks n

-- a name stands at one of these places
abbrev pub held_at : List ℕ → List ℕ → List ℕ → Bool
held_at s ps n = list_any (λ (p : ℕ). same_at s p n) ps

-- each of these names does
unfoldable pub all_at : List ℕ → List ℕ → List (List ℕ) → Bool
all_at s ps [] = true
all_at s ps (n ∷ ns) = held_at s ps n && all_at s ps ns

-- the names that a seal needs do, h doesn't, and its chain value is one
unfoldable pub seal_at : List ℕ → List ℕ → ℕ → Bool
seal_at s ps c = not (eqb c 0) && not (held_at s ps (bytes "h")) && all_at s ps seal_tags

-- ==== buckets of names

-- the bytes of a name mixed into a number below 2^24
unfoldable pub mixed_from : ℕ → List ℕ → ℕ
mixed_from h [] = h
mixed_from h (x ∷ xs) = mixed_from ((h + x) * 10368889 % 16777216) xs

-- the upper bits of that number
unfoldable pub bucket_of : List ℕ → ℕ
bucket_of n = mixed_from 0 n / 512
