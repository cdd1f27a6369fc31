-- The parts of a tag as the code finds them: the name, the value by runs of plain bytes, and the tag at a place
-- tied to its parser. The premises are the tests of the code in turn.
use Prim.Native.Nat.{ℕ, ◌+◌, ◌≤◌, ◌<◌, zero-le}
use native.Mathlib.Omega.{arith}
use mathlib.Core.Path.{◌≡◌, refl, sym, subst, ◌∙◌}
use mathlib.Core.Bool.{Bool, true, false, ◌||◌}
use mathlib.Core.List.{List, ◌∷◌}
use lib.Dec.{eqb, leb}
use lib.ListN.{length, get_or, drop, length-drop}
use lib.Seq.{drop-cons}
use borrow.Author.Tests.{eq-eqb, ne_eqb, eqb-true, eqb-false, le-leb, lt-leb, leb-true, leb-false}
use Rattle.base_sequences.proofs.Booleans.{and_none, or-none}
use Rattle.base_readers.specs.Texts.{starts, within}
use Rattle.base_readers.specs.Readers.{run}
use Rattle.base_readers.specs.Parsers.{Got, nothing, got, Parser, ◌>>=◌, ◌>>◌, give, end, byte, taken, text, either}
use Rattle.base_readers.specs.Places.{from, Reaches}
use Rattle.base_readers.proofs.Sequencing.{byte-is, byte-not, either_first, either_second}
use Rattle.base_readers.proofs.Readers.{there-at, many-fits}
use Rattle.base_readers.proofs.Loops.{many-past-run}
use Rattle.base_readers.proofs.Places.{took, none-at, at-got, at_none, goes_on, stops, gives, end-at, end-not, byte_at, byte-none, text_at, text-none, taken_at, skipping-at}
use Rattle.lexis_rules.specs.declared.Class.TheVariants.{Keyword, Tag}
use Rattle.lexis_rules.specs.Bytes.{letter, in_class}
use Rattle.lexis_rules.specs.Pieces.{item, bare_space}
use Rattle.lexis_laws.proofs.Pieces.{item-fits}
use Rattle.lexis_classes.proofs.Loops.{items-on, items-off}
use Rattle.tag.specs.declared.Tag as found
use Rattle.std.specs.Prelude.{Option, None}
use Rattle.tag_rules.specs.Tags as tags
use Rattle.tag_rules.specs.Tags.{skip_bare, in_tag_name, tag_name, tag_value, trimmed, tag}
use Rattle.tag.specs.Tags.{TagFound, TagPlaces, tag_of, closed_at, valued_at, named_at, tag_at}
use Rattle.base_sequences.specs.Spans.{span}

-- ==== the name

module _ (b : ℕ) where
  pub letter-low : b < 65 → false ≡ letter b
  unfolding letter within
  letter-low h = rw (lt-leb 65 b h, lt-leb 97 b (omega arith))

  -- above the digits and the hyphen a byte of keywords is a letter
  pub letter-high : 65 ≤ b → (r : Bool) → r ≡ in_class Keyword b → r ≡ letter b
  unfolding in_class within
  letter-high h r e = e ∙ rw (lt-leb b 57 (omega arith), ne_eqb b 45 (λ i. omega arith), and_none (leb 48 b)) (or-none (letter b || false) ∙ or-none (letter b))

module _ (s : List ℕ) (at b : ℕ) (q : b ≡ get_or (drop at s) 0 0) (r : Bool) (h : r ≡ letter b) where
  pub name-there : r ≡ true → (e : ℕ) → e ≡ at + run in_tag_name (drop at s) → e ≡ at + tag_name (drop at s)
  unfolding tag_name
  name-there t e p = rw (← q, ← h, t) p

  pub name-missing : r ≡ false → at ≡ at + tag_name (drop at s)
  unfolding tag_name
  name-missing t = rw (← q, ← h, t) (omega arith)

-- a name that is there is the whole run
name-run : (s : List ℕ) (a e : ℕ) → e ≡ a + tag_name (drop a s) → (e ≡ a → ⊥) → e ≡ a + run in_tag_name (drop a s)
unfolding tag_name
name-run s a e q ne = go (letter (get_or (drop a s) 0 0)) refl
  where
    go : (t : Bool) → letter (get_or (drop a s) 0 0) ≡ t → e ≡ a + run in_tag_name (drop a s)
    go true h = rw (tag_name, h) at q
    go false h = let z : e ≡ a + 0 = rw (tag_name, h) at q in absurd (ne (omega arith))

-- ==== the value: each turn passes a run of plain bytes, and then another item

-- of a run one byte is taken at a time
one_byte : (x : ℕ) (xs : List ℕ) → in_class Tag x ≡ true → item Tag (x ∷ xs) ≡ 1
unfolding item
one_byte x xs h = rw h

module _ (s : List ℕ) (at i e n : ℕ) (w : Reaches tag_value s at i) (q : e ≡ i + run (in_class Tag) (drop i s)) (z : n ≡ item Tag (drop e s)) where
  past-run : Reaches tag_value s at e
  past-run = many-past-run (item Tag) (in_class Tag) one_byte s at i e w q

  pub value_on : Reaches tag_value s at (e + n)
  value_on = items-on Tag s at e n past-run z

  pub value-off : n ≡ 0 → e ≡ at + tag_value (drop at s)
  value-off o = items-off Tag s at e n past-run z o

-- ==== the end of a tag

module _ (s : List ℕ) (a e v w : ℕ) where
  pub closed-end : length s ≤ w → tag_of a e v w w ≡ closed_at s a e v w
  unfolding closed_at
  closed-end h = rw (closed_at, le-leb (length s) w h)

  module _ (h : w < length s) where
    met : starts (λ b. eqb b 59) (drop w s) ≡ eqb (get_or s w 0) 59
    unfolding starts
    met = rw (drop-cons s w 0 h)

    pub closed-mark : get_or s w 0 ≡ 59 → tag_of a e v w (w + 1) ≡ closed_at s a e v w
    unfolding closed_at
    closed-mark i = rw (closed_at, lt-leb (length s) w h, met, eq-eqb (get_or s w 0) 59 i)

    pub closed-not : (get_or s w 0 ≡ 59 → ⊥) → None ≡ closed_at s a e v w
    unfolding closed_at
    closed-not i = rw (closed_at, lt-leb (length s) w h, met, ne_eqb (get_or s w 0) 59 i)

-- one parser, or else the other, at a place
module _ {A : Type 0} (p q : Parser A) (s : List ℕ) (at : ℕ) where
  either-this : (a : A) (e : ℕ) → got a e ≡ from p s at → got a e ≡ from (either p q) s at
  either-this a e h = let t = took p s at a e h in at-got (either p q) s at a t.size e (either_first p q (drop at s) a t.size t.is) t.sum

  either-that : (x : Got A) → nothing ≡ from p s at → x ≡ from q s at → x ≡ from (either p q) s at
  unfolding from
  either-that x n h = rw (either_second p q (drop at s) (none-at p s at n)) h

-- ==== a tag

-- how the parser goes on behind the "="
abbrev valued : List ℕ → Parser tags.Tag
valued n = ◌>>=◌ (taken tag_value) (λ v. ◌>>◌ (either end (byte 59)) (give (record { name = n; value = trimmed v })))

module _ (s : List ℕ) (at a : ℕ) (q : a ≡ at + bare_space (drop at s)) (e : ℕ) (p : e ≡ a + tag_name (drop a s)) where
  missing : nothing ≡ from tag s at → TagFound s at None
  missing h = record { reads = h; stands = tt }

  pub tag-no-name : e ≡ a → TagFound s at None
  unfolding tag
  tag-no-name z = missing (goes_on skip_bare _ s at tt a nothing (skipping-at bare_space s at a q) (stops (text tag_name) _ s a (text-none tag_name s a e p z)))

  module _ (ne : e ≡ a → ⊥) (b : ℕ) (w : b ≡ e + bare_space (drop e s)) (r : Bool) (h : r ≡ eqb (get_or (drop b s) 0 0) 61) where
    pub named : (x : Got tags.Tag) → x ≡ from (◌>>◌ (byte 61) (valued (span s a e))) s b → x ≡ from tag s at
    unfolding tag
    named x j =
        goes_on skip_bare _ s at tt a x (skipping-at bare_space s at a q)
        (goes_on (text tag_name) _ s a (span s a e) e x (text_at tag_name s a e p ne)
        (goes_on skip_bare _ s e tt b x (skipping-at bare_space s e b w) j))

    pub tag-no-equals : r ≡ false → TagFound s at None
    tag-no-equals t = missing (named nothing (stops (byte 61) _ s b (byte-none 61 s b r h t)))

    module _ (t : r ≡ true) (v : ℕ) (i : v ≡ b + 1 + tag_value (drop (b + 1) s)) where
      pub inside : b < length s
      inside = omega (arith, there-at (λ x. eqb x 61) refl s b 0 (sym h ∙ t))

      valued-inside : v ≤ length s
      valued-inside = omega (arith, inside, many-fits (item Tag) (item-fits Tag) 0 (drop (b + 1) s) zero-le, length-drop (b + 1) s)

      -- so the tag is what its end makes of it
      ended : (x : Got tags.Tag)
          → x ≡ from (◌>>◌ (either end (byte 59)) (give (record { name = span s a e; value = trimmed (span s (b + 1) v) }))) s v → x ≡ from tag s at
      ended x j =
          named x (goes_on (byte 61) _ s b tt (b + 1) x (byte_at 61 s b r h t refl)
          (goes_on (taken tag_value) _ s (b + 1) (span s (b + 1) v) v x (taken_at tag_value s (b + 1) v i) j))

      places : (x : ℕ) → v ≤ x → x ≤ length s → TagPlaces s at a e (b + 1) v x
      places x l m =
          record {
            after = omega arith;
            name = omega (arith, ne);
            named = name-run s a e p ne;
            equals = omega arith;
            value = omega arith;
            end = l;
            inside = m;
          }

      read : (x : ℕ) → v ≤ x → x ≤ length s → got tt x ≡ from (either end (byte 59)) s v → TagFound s at (tag_of a e (b + 1) v x)
      read x l m j =
          let n : tags.Tag = record { name = span s a e; value = trimmed (span s (b + 1) v) } in
          record { reads = ended (got n x) (goes_on (either end (byte 59)) _ s v tt x (got n x) j (gives n s x)); stands = places x l m }

      pub tag-closed : (x : Option found.Tag) → x ≡ closed_at s a e (b + 1) v → TagFound s at x
      unfolding closed_at
      tag-closed x j = rw j (first (leb (length s) v) refl)
        where
          second : v < length s → (u : Bool) → starts (λ c. eqb c 59) (drop v s) ≡ u
              → TagFound s at (elim u [ true ↦ tag_of a e (b + 1) v (v + 1) | false ↦ None ])
          second l true k =
              read (v + 1) (omega arith) (omega arith)
              (either-that end (byte 59) s v _ (end-not s v l) (at-got (byte 59) s v tt 1 (v + 1) (byte-is 59 (drop v s) k) refl))
          second l false k =
              missing (ended nothing (stops (either end (byte 59)) _ s v
              (either-that end (byte 59) s v _ (end-not s v l) (at_none (byte 59) s v (byte-not 59 (drop v s) k)))))

          first : (u : Bool) → leb (length s) v ≡ u
              → TagFound s at (elim u [ true ↦ tag_of a e (b + 1) v v | false ↦ (elim (starts (λ c. eqb c 59) (drop v s)) [ true ↦ tag_of a e (b + 1) v (v + 1) | false ↦ None ]) ])
          first true k = read v (omega arith) valued-inside (either-this end (byte 59) s v tt v (end-at s v (leb-true (length s) v k)))
          first false k = second (leb-false (length s) v k) (starts (λ c. eqb c 59) (drop v s)) refl

-- ==== the answer of the code, by its tests in turn

module _ (s : List ℕ) (at a : ℕ) (q : a ≡ at + bare_space (drop at s)) (e : ℕ) (p : e ≡ a + tag_name (drop a s)) where
  at_name : tag_at s at ≡ named_at s a e
  at_name = rw (← q, ← p)

  pub at-no-name : e ≡ a → None ≡ tag_at s at
  unfolding named_at
  at-no-name z = sym (at_name ∙ rw (named_at, eq-eqb e a z))

  module _ (ne : e ≡ a → ⊥) (b : ℕ) (w : b ≡ e + bare_space (drop e s)) (r : Bool) (h : r ≡ eqb (get_or (drop b s) 0 0) 61) where
    at_value : tag_at s at ≡ valued_at s a e b
    unfolding named_at
    at_value = at_name ∙ rw (named_at, ne_eqb e a ne, ← w)

    pub at-no-equals : r ≡ false → None ≡ tag_at s at
    unfolding valued_at
    at-no-equals t = sym (at_value ∙ rw (valued_at, ← h, t))

    pub at-closed : r ≡ true → (v : ℕ) → v ≡ b + 1 + tag_value (drop (b + 1) s) → (x : Option found.Tag) → x ≡ closed_at s a e (b + 1) v → x ≡ tag_at s at
    unfolding valued_at
    at-closed t v i x j = j ∙ sym (at_value ∙ rw (valued_at, ← h, t, ← i))

module _ (s : List ℕ) (at a : ℕ) (q : a ≡ at + bare_space (drop at s)) (e : ℕ) (p : e ≡ a + tag_name (drop a s)) where
  found-value : (e ≡ a → ⊥) → (b : ℕ) → b ≡ e + bare_space (drop e s) → (r : Bool) → r ≡ eqb (get_or (drop b s) 0 0) 61 → TagFound s at (tag_at s at)
  found-value ne b w true h =
      let x = closed_at s a e (b + 1) (b + 1 + tag_value (drop (b + 1) s)) in
      tag-closed s at a q e p ne b w true h refl _ refl (tag_at s at) (sym (at-closed s at a q e p ne b w true h refl _ refl x refl))
  found-value ne b w false h = subst (TagFound s at) (at-no-equals s at a q e p ne b w false h refl) (tag-no-equals s at a q e p ne b w false h refl)

  found_name : (t : Bool) → eqb e a ≡ t → TagFound s at (tag_at s at)
  found_name true k = let z = eqb-true e a k in subst (TagFound s at) (at-no-name s at a q e p z) (tag-no-name s at a q e p z)
  found_name false k = found-value (eqb-false e a k) (e + bare_space (drop e s)) refl _ refl

-- a tag at a place is what the parser of tags reads there, and its parts stand in order
pub tag-found : (s : List ℕ) (at : ℕ) → TagFound s at (tag_at s at)
tag-found s at = found_name s at _ refl _ refl _ refl
