-- Tag lists: the tests of a collected list are those of the definition, and it has half as many tags as its body has bytes at most, for a tag
-- takes two bytes at least.
use Prim.Native.Nat.{ℕ, zero, suc, ◌+◌, ◌*◌, ◌≤◌, ◌<◌, zero-le}
use native.Mathlib.Nat.{le_of_suc-le-suc}
use native.Mathlib.Omega.{arith}
use mathlib.Core.Path.{◌≡◌, refl, sym, ◌∙◌}
use mathlib.Core.Bool.{Bool, true, false, not, ◌&&◌}
use mathlib.Core.List.{List, [], ◌∷◌, map}
use mathlib.Core.Option.{none}
use lib.Dec.{eqb, leb, ltb}
use lib.ListN.{length, take, drop, length-drop}
use lib.Seq.{length-take-le}
use borrow.Author.Tests.{le-leb, lt-leb, leb-true, leb-false, le-ltb, ltb-false}
use Rattle.base_sequences.proofs.Booleans.{both}
use Rattle.base_readers.specs.Texts.{bytes, same}
use Rattle.base_readers.specs.Readers.{run}
use Rattle.base_readers.specs.Parsers.{Got, nothing, got, Parser, after, end, cons, several}
use Rattle.base_readers.specs.Places.{from, values, list_at, end_at}
use Rattle.base_readers.specs.Locality.{Within}
use Rattle.base_readers.proofs.Places.{goes_on, stops, gives, end-at, end-not}
use Rattle.base_readers.proofs.Repeats.{list-is}
use Rattle.tag_rules.proofs.Unfolding.{opened}
use Rattle.std.specs.Prelude.{Result, Ok, Err}
use Rattle.tag_content.specs.declared.Sound.{Sound}
use Rattle.tag_content.specs.declared.Unread.{Unread}
use Rattle.tag_content.specs.declared.Unread.TheVariants.{Unreadable, Full}
use Rattle.lexis_rules.specs.Limits.{byte_limit}
use Rattle.tag_rules.specs.Tags.{Tag, tag, tags, named, needs, value_named, trimmed}
use Rattle.tag_rules.specs.Needed.{chain_value, sound, signature_tags, is_signature, seal_tags, is_seal}
use Rattle.tag_content.specs.Lists.{tags_at, list_test, list_said, listed_at}
use Rattle.tag_names.specs.Names.{name_at, Named, same_at, holds, held_at, all_at, seal_at}
use Rattle.tag_names.proofs.Needed.{same_whole, held-named}
use Rattle.tag_content.specs.Tests.{cv_after, ended_at, SoundAt, CollectedIf, attempt_if, told_at, AttemptIf}
use Rattle.tag_content.proofs.TagsRead.{tag-within}

-- ==== the end of a list

module _ (s : List ℕ) (at n c : ℕ) where
  pub ended-there : length s ≤ at → Ok (record { count = n; cv = c }) ≡ ended_at s at n c
  ended-there h = rw (ended_at, le-leb (length s) at h)

  pub ended-not : at < length s → Err Unreadable ≡ ended_at s at n c
  ended-not h = rw (ended_at, lt-leb (length s) at h)

-- ==== a collected list

-- each of these is a name
abbrev AllNamed : List (List ℕ) → Type 0
AllNamed [] = Unit
AllNamed (n ∷ ns) = Named n × AllNamed ns

signature-named : AllNamed signature_tags
unfolding opened run
signature-named = (refl, (refl, (refl, (refl, (refl, (refl, tt))))))

seal-named : AllNamed seal_tags
unfolding opened run
seal-named = (refl, (refl, (refl, (refl, (refl, tt)))))

header-named : Named (bytes "h")
unfolding opened run
header-named = refl

-- the names of a table are those of the list
module _ (s ps : List ℕ) (ts : List Tag) (h : (m : List ℕ) → holds (map (name_at s) ps) m ≡ named ts m) where
  held-there : (n : List ℕ) → Named n → held_at s ps n ≡ named ts n
  held-there n k = held-named s ps n k ∙ h n

  held-needs : (ns : List (List ℕ)) → AllNamed ns → all_at s ps ns ≡ needs ns ts
  unfolding all_at needs
  held-needs [] k = refl
  held-needs (n ∷ ns) k = rw (held-there n k.0, held-needs ns k.1)

-- three tests, in either order
turned : (a b c : Bool) → (a && b && c) ≡ (c && b && a)
turned true true true = refl
turned true true false = refl
turned true false true = refl
turned true false false = refl
turned false true true = refl
turned false true false = refl
turned false false true = refl
turned false false false = refl

module _ (s : List ℕ) (at : ℕ) (t : List ℕ) (n c : ℕ) (w : SoundAt s at t n c) where
  signature-is : all_at s (take n t) signature_tags ≡ is_signature (tags_at s at)
  unfolding is_signature
  signature-is = rw w.fine (held-needs s (take n t) (tags_at s at) w.names signature_tags signature-named)

  seal-is : seal_at s (take n t) c ≡ is_seal (tags_at s at)
  unfolding is_seal seal_at
  seal-is =
      let a = all_at s (take n t) seal_tags in
      let b = not (held_at s (take n t) (bytes "h")) in
      let d = not (eqb c 0) in
      let e : a ≡ needs seal_tags (tags_at s at) = held-needs s (take n t) (tags_at s at) w.names seal_tags seal-named in
      let k : held_at s (take n t) (bytes "h") ≡ named (tags_at s at) (bytes "h") = held-there s (take n t) (tags_at s at) w.names (bytes "h") header-named in
      turned d b a ∙ (rw (w.fine, ← e, ← k, ← w.cv))

-- a list that ends with the body is read
module _ (seal : Bool) (s : List ℕ) (at : ℕ) where
  tags-got : length s ≤ end_at tag s at → got (tags_at s at) (end_at tag s at) ≡ from tags s at
  unfolding tags
  tags-got h =
      let e = end_at tag s at in
      goes_on (several tag 0) _ s at (tags_at s at) e _ (list-is tag s at) (goes_on end _ s e tt e _ (end-at s e h) (gives (tags_at s at) s e))

  tags-none : end_at tag s at < length s → nothing ≡ from tags s at
  unfolding tags
  tags-none h = let e = end_at tag s at in goes_on (several tag 0) _ s at (tags_at s at) e _ (list-is tag s at) (stops end _ s e (end-not s e h))

  said-list : length s ≤ end_at tag s at → list_test seal (tags_at s at) ≡ list_said seal s at
  unfolding list_said
  said-list h = rw (list_said, ← tags-got h)

  said-none : end_at tag s at < length s → none ≡ list_said seal s at
  unfolding list_said
  said-none h = rw (list_said, ← tags-none h)

-- ==== the limit

-- within it nothing is left out
pub list-within : (seal : Bool) (s : List ℕ) (at : ℕ) → length s ≤ byte_limit → listed_at seal s at ≡ list_said seal s at
unfolding listed_at
list-within seal s at h = rw (listed_at, le-ltb byte_limit (length s) h)

pub list-long : (seal : Bool) (s : List ℕ) (at : ℕ) (big : Bool) → big ≡ ltb byte_limit (length s) → big ≡ true → none ≡ listed_at seal s at
unfolding listed_at
list-long seal s at big b t = rw (listed_at, ← b, t)

pub list-fits : (s : List ℕ) (big : Bool) → big ≡ ltb byte_limit (length s) → big ≡ false → length s ≤ byte_limit
list-fits s big b f = ltb-false byte_limit (length s) (sym b ∙ f)

-- ==== the tests

-- neither test is passed where the list isn't sound
unsound-test : (seal : Bool) (ts : List Tag) → sound ts ≡ false → none ≡ list_test seal ts
unfolding is_seal is_signature
unsound-test true ts e = rw (list_test, e)
unsound-test false ts e = rw (list_test, e)

module _ (F : Type 0) (s : List ℕ) (at : ℕ) where
  seal-test : (ts : List Tag) (b : Bool) → b ≡ is_seal ts → (c : ℕ) → c ≡ chain_value (value_named (bytes "cv") ts) → list_test true ts ≡ listed_at true s at
      → AttemptIf F true s at (attempt_if b c)
  seal-test ts true e c q h = rw (list_test, ← e, ← q) at h
  seal-test ts false e c q h = rw (list_test, ← e) at h

  signature-test : (ts : List Tag) (b : Bool) → b ≡ is_signature ts → list_test false ts ≡ listed_at false s at → AttemptIf F false s at (attempt_if b 0)
  signature-test ts true e h = rw (list_test, ← e) at h
  signature-test ts false e h = rw (list_test, ← e) at h

-- ==== by what was collected

module _ (F : Type 0) (s : List ℕ) (at : ℕ) (t : List ℕ) (x : Result Sound Unread) (w : CollectedIf F s at t x) where
  -- what is read of a list that ends with the body
  read-there : (seal : Bool) → length s ≤ byte_limit → length s ≤ end_at tag s at → list_test seal (tags_at s at) ≡ listed_at seal s at
  read-there seal h e = said-list seal s at e ∙ sym (list-within seal s at h)

  module _ (k : Sound) (e : x ≡ Ok k) where
    sound-at : SoundAt s at t k.count k.cv
    sound-at = rw e at w

    pub collected-fits : k.count ≤ length t
    collected-fits = sound-at.fits

    pub collected-told : (seal : Bool) (r : Result ℕ Unread) → length s ≤ byte_limit → r ≡ told_at seal s (take k.count t) k.cv → AttemptIf F seal s at r
    collected-told true r h i =
        rw i (seal-test F s at (tags_at s at) (seal_at s (take k.count t) k.cv) (seal-is s at t k.count k.cv sound-at) k.cv sound-at.cv (read-there true h sound-at.ends))
    collected-told false r h i =
        rw i (signature-test F s at (tags_at s at) (all_at s (take k.count t) signature_tags) (signature-is s at t k.count k.cv sound-at) (read-there false h sound-at.ends))

  pub collected-unsound : x ≡ Err Unreadable → (seal : Bool) → length s ≤ byte_limit → none ≡ listed_at seal s at
  collected-unsound e seal l = go (leb (length s) (end_at tag s at)) refl ∙ sym (list-within seal s at l)
    where
      no : (sound (tags_at s at) && leb (length s) (end_at tag s at)) ≡ false
      no = rw e at w

      listed : leb (length s) (end_at tag s at) ≡ true → (u : Bool) → sound (tags_at s at) ≡ u → none ≡ list_said seal s at
      listed h true k = absurd (both (sound (tags_at s at) && leb (length s) (end_at tag s at)) no (rw (k, h)))
      listed h false k = unsound-test seal (tags_at s at) k ∙ said-list seal s at (leb-true (length s) (end_at tag s at) h)

      go : (u : Bool) → leb (length s) (end_at tag s at) ≡ u → none ≡ list_said seal s at
      go true h = listed h (sound (tags_at s at)) refl
      go false h = said-none seal s at (leb-false (length s) (end_at tag s at) h)

  -- what isn't collected isn't read
  pub collected-unread : (e : Unread) → x ≡ Err e → (seal : Bool) → length s ≤ byte_limit → AttemptIf F seal s at (Err e)
  collected-unread Unreadable h seal l = collected-unsound h seal l
  collected-unread Full h seal l = rw h at w

-- ==== how many tags there can be

values-after : {A : Type 0} (k : ℕ) (g : Got (List A)) → values (after k g) ≡ values g
unfolding after
values-after k nothing = refl
values-after k (got l n) = refl

values-cons : {A : Type 0} (a : A) (g : Got (List A)) → length (values (cons a g)) ≤ suc (length (values g))
unfolding cons
values-cons a nothing = zero-le
values-cons a (got l n) = omega arith

module _ {A : Type 0} (p : Parser A) (P : Within 2 p) where
  several-few : (k : ℕ) (xs : List ℕ) → k ≤ length xs → k + 2 * length (values (several p k xs)) ≤ length xs
  unfolding several
  several-few k [] h = omega arith
  several-few (suc k) (x ∷ xs) h = rw (values-after 1 (several p k xs)) (omega (arith, several-few k xs (le_of_suc-le-suc h)))
  several-few zero (x ∷ xs) h = go (λ k i. several-few k xs i) (p (x ∷ xs)) refl
    where
      go : ((k : ℕ) → k ≤ length xs → k + 2 * length (values (several p k xs)) ≤ length xs) → (g : Got A) → p (x ∷ xs) ≡ g
          → 0 + 2 * length (values (several p 0 (x ∷ xs))) ≤ suc (length xs)
      go ih nothing e = rw (several, e) (omega arith)
      go ih (got a zero) e = rw (several, e) (omega arith)
      go ih (got a (suc n)) e =
          let w = P (x ∷ xs) a (suc n) e in
          let b : n ≤ length xs = le_of_suc-le-suc w.0 in
          rw (several, e, values-after 1 (cons a (several p n xs))) (omega (arith, w, ih n b, values-cons a (several p n xs)))

pub tags-few : (s : List ℕ) (at : ℕ) → 2 * length (tags_at s at) ≤ length s
unfolding list_at from
tags-few s at = rw (values-after at (several tag 0 (drop at s))) (omega (arith, several-few tag tag-within 0 (drop at s) zero-le, length-drop at s))

-- ==== what a list says

pub attempt-if : (b : Bool) (c : ℕ) → b ≡ true → Ok c ≡ attempt_if b c
attempt-if b c e = rw e

-- the entries in use
pub in-use-long : (t : List ℕ) (n : ℕ) → n ≤ length t → n ≡ length (take n t)
in-use-long t n h = sym (length-take-le n t h)

module _ (seal : Bool) (s ps : List ℕ) (c : ℕ) (b : Bool) (r : Result ℕ Unread) where
  pub told-seal : seal ≡ true → b ≡ seal_at s ps c → r ≡ attempt_if b c → r ≡ told_at seal s ps c
  told-seal e q i = rw (e, ← q) i

  pub told-signature : seal ≡ false → b ≡ all_at s ps signature_tags → r ≡ attempt_if b 0 → r ≡ told_at seal s ps c
  told-signature e q i = rw (e, ← q) i

-- ==== the chain value

module _ (c : ℕ) (n v : List ℕ) (r : Bool) (e : r ≡ same_at n 0 (bytes "cv")) where
  pub cv-here : r ≡ true → (x : ℕ) → x ≡ chain_value (trimmed v) → x ≡ cv_after c n v
  cv-here t x q = rw (← e, t) q

  pub cv-before : r ≡ false → c ≡ cv_after c n v
  cv-before t = rw (← e, t)

-- ==== i counts as a name that was read

named-i : Named (bytes "i")
unfolding opened run
named-i = refl

-- whether a name is i, as it is asked at its first byte
pub is-i : (n : List ℕ) → Named n → (r : Bool) → r ≡ same_at n 0 (bytes "i") → r ≡ same n (bytes "i")
is-i n g r e = e ∙ same_whole n (bytes "i") g named-i
