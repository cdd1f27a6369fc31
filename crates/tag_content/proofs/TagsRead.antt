-- The tags of a list, one after another: with `done` the tags read so far, the list is `done` and then the tags from here on, none is named
-- twice or i, and the chain value is that of `done`. By what one tag more does to each of these.
use Prim.Native.Char.{code}
use Prim.Native.Nat.{ℕ, ◌+◌, ◌-◌, ◌≤◌, ◌<◌, zero-le}
use native.Mathlib.Omega.{arith}
use mathlib.Core.Path.{◌≡◌, refl, sym, ap, ◌∙◌, subst}
use mathlib.Core.Bool.{Bool, true, false, not, ◌&&◌, ◌||◌}
use mathlib.Core.Logic.{◌⊎◌, inl, inr, ⊎_elim}
use mathlib.Core.List.{List, [], ◌∷◌, ◌++◌, append_assoc, append-nil}
use borrow.Author.Tests.{leb-true}
use lib.Dec.{leb}
use lib.ListN.{length, get_or, drop, length-append, length-drop}
use Rattle.base_sequences.proofs.Booleans.{no_true, and_left, and_right, and_none, or_left, or_right, or-none, cond-le}
use Rattle.base_readers.specs.Texts.{bytes, same}
use Rattle.base_readers.specs.Readers.{run}
use Rattle.base_readers.specs.Parsers.{Parser, ◌>>=◌, end, byte, taken, skipping, text, either}
use Rattle.base_readers.specs.Places.{end_at}
use Rattle.base_readers.specs.Locality.{Fits, Within}
use Rattle.base_readers.proofs.Readers.{run_fits, many-fits}
use Rattle.base_readers.proofs.Sequencing.{bind_inv}
use Rattle.base_readers.proofs.Bounds.{within-weaker, bind-within, bind-within₂, give-within, end-within, byte-within, taken-within, skipping-within, text-within, either-within}
use Rattle.base_readers.proofs.Repeats.{list-none, end_none, list-more, end_more}
use Rattle.lexis_rules.specs.Bytes.{letter}
use Rattle.lexis_rules.specs.Pieces.{item, bare_space}
use Rattle.lexis_rules.specs.declared.Class.TheVariants as class
use Rattle.lexis_laws.proofs.Pieces.{item-fits, bare-space-fits}
use Rattle.tag.specs.declared.Tag as told
use Rattle.std.specs.Prelude.{Option, Some, None, Result}
use Rattle.tag_content.specs.declared.Sound.{Sound}
use Rattle.tag_content.specs.declared.Unread.{Unread}
use Rattle.tag_rules.specs.Tags.{in_tag_name, tag_name, tag_value, trimmed, Tag, tag, named, unrepeated, value_named}
use Rattle.tag_rules.specs.Needed.{chain_value, sound}
use Rattle.tag.specs.Tags.{TagFound, tag_at}
use Rattle.base_sequences.specs.Spans.{span}
use Rattle.tag.proofs.TagParts.{tag-found}
use Rattle.tag_names.specs.Names.{name_at, Named, same_at, holds}
use Rattle.tag_names.proofs.Ordering.{same-is, same-flip}
use Rattle.tag_names.proofs.Fronts.{name-named}
use Rattle.tag_names.proofs.Needed.{same_whole}
use Rattle.tag_content.specs.Lists.{tags_at}
use Rattle.tag_content.specs.Tests.{kept, is_held, cv_after, ended_at, CollectedIf}
use Rattle.tag_rules.proofs.Unfolding.{opened}

-- ==== a tag takes two bytes at least: one of its name, and "="

tag-name-fits : Fits tag_name
unfolding tag_name
tag-name-fits xs = cond-le (letter (get_or xs 0 0)) (run in_tag_name xs) 0 _ (λ e. run_fits in_tag_name xs) zero-le

tag-value-fits : Fits tag_value
tag-value-fits xs = many-fits (item class.Tag) (item-fits class.Tag) 0 xs zero-le

-- each of two parts takes its own
bind-adds : {A B : Type 0} (j k : ℕ) (p : Parser A) (f : A → Parser B) → Within j p → ((a : A) → Within k (f a)) → Within (j + k) (◌>>=◌ p f)
bind-adds j k p f P Q xs b n h =
    let v = bind_inv p f xs b n h in
    let x = P xs v.val v.fst v.reads in
    let y = Q v.val (drop v.fst xs) b v.snd v.goes in
    (omega (arith, x, y, v.sum, length-drop v.fst xs), omega (arith, x, y, v.sum))

pub tag-within : Within 2 tag
unfolding tag
tag-within =
    bind-within₂ 2 (skipping bare_space) _ (skipping-within bare_space bare-space-fits)
    (λ u. bind-adds 1 1 (text tag_name) _ (text-within tag_name tag-name-fits)
    (λ n. bind-within₂ 1 (skipping bare_space) _ (skipping-within bare_space bare-space-fits)
    (λ u. bind-within 1 (byte (code "=")) _ (byte-within (code "="))
    (λ u. bind-within 0 (taken tag_value) _ (taken-within tag_value tag-value-fits)
    (λ v. bind-within 0 (either end (byte (code ";"))) _
    (either-within 0 end (byte (code ";")) end-within (within-weaker 0 1 (byte (code ";")) (byte-within (code ";")) zero-le))
    (λ u. give-within _))))))

tag-some : Within 1 tag
tag-some = within-weaker 1 2 tag tag-within (omega arith)

-- ==== one tag more in a list of tags

or-false : (a b : Bool) → (a || b) ≡ false → (a ≡ false) × (b ≡ false)
or-false true b e = absurd (no_true (sym e))
or-false false b e = (refl, e)

or-either : (a b : Bool) → (a || b) ≡ true → (a ≡ true) ⊎ (b ≡ true)
or-either true b e = inl refl
or-either false b e = inr e

or-last : (a b : Bool) → (a || b) ≡ (b || (a || false))
or-last true true = refl
or-last true false = refl
or-last false b = sym (or-none b)

named-append : (ts us : List Tag) (m : List ℕ) → named (ts ++ us) m ≡ (named ts m || named us m)
unfolding named
named-append [] us m = refl
named-append (t ∷ ts) us m = rw (named-append ts us m) (go (same t.name m))
  where
    go : (a : Bool) → (a || (named ts m || named us m)) ≡ ((a || named ts m) || named us m)
    go true = refl
    go false = refl

module _ (t : Tag) where
  -- a tag of another name leaves the names different
  unrepeated-more : (ts : List Tag) → unrepeated ts ≡ true → named ts t.name ≡ false → unrepeated (ts ++ (t ∷ [])) ≡ true
  unfolding unrepeated named
  unrepeated-more [] e f = refl
  unrepeated-more (u ∷ ts) e f =
      let d = or-false (same u.name t.name) (named ts t.name) f in
      let a : not (named ts u.name) ≡ true = and_left (not (named ts u.name)) (unrepeated ts) e in
      let b : named (ts ++ (t ∷ [])) u.name ≡ named ts u.name =
      named-append ts (t ∷ []) u.name ∙ rw (same-flip t.name u.name, d.0) (or-none (named ts u.name)) in
      rw (b, a) (unrepeated-more ts (and_right (not (named ts u.name)) (unrepeated ts) e) d.1)

  -- a tag of a name that was there repeats it
  repeated : (ts us : List Tag) → named ts t.name ≡ true → unrepeated (ts ++ (t ∷ us)) ≡ false
  unfolding unrepeated named
  repeated [] us f = absurd (no_true f)
  repeated (u ∷ ts) us f = go (same u.name t.name) refl (repeated ts us)
    where
      go : (b : Bool) → same u.name t.name ≡ b → (named ts t.name ≡ true → unrepeated (ts ++ (t ∷ us)) ≡ false)
          → unrepeated (u ∷ (ts ++ (t ∷ us))) ≡ false
      go true q ih =
          let n : named (ts ++ (t ∷ us)) u.name ≡ true =
          named-append ts (t ∷ us) u.name ∙ or_right (named ts u.name) _ (or_left (same t.name u.name) _ (same-flip t.name u.name ∙ q)) in
          rw n
      go false q ih = rw (ih (rw q at f)) (and_none (not (named (ts ++ (t ∷ us)) u.name)))

  -- the value of a name, where the tag has another name, or is the first of this name
  value-other : (n : List ℕ) (ts : List Tag) → same t.name n ≡ false → value_named n (ts ++ (t ∷ [])) ≡ value_named n ts
  unfolding value_named
  value-other n [] e = rw (value_named, e)
  value-other n (u ∷ ts) e = go (same u.name n) refl (value-other n ts e)
    where
      go : (b : Bool) → same u.name n ≡ b → value_named n (ts ++ (t ∷ [])) ≡ value_named n ts → value_named n (u ∷ (ts ++ (t ∷ []))) ≡ value_named n (u ∷ ts)
      go true q ih = rw (value_named, q)
      go false q ih = rw (value_named, q) ih

  value-this : (n : List ℕ) (ts : List Tag) → same t.name n ≡ true → named ts n ≡ false → value_named n (ts ++ (t ∷ [])) ≡ t.value
  unfolding value_named named
  value-this n [] e f = rw (value_named, e)
  value-this n (u ∷ ts) e f =
      let d = or-false (same u.name n) (named ts n) f in
      rw (value_named, d.0) (value-this n ts e d.1)

-- the names of a sound list stay sound with a name that is neither there nor i
sound_more : (t : Tag) (ts : List Tag) → sound ts ≡ true → named ts t.name ≡ false → same t.name (bytes "i") ≡ false → sound (ts ++ (t ∷ [])) ≡ true
unfolding sound named
sound_more t ts e f g =
    let a = unrepeated-more t ts (and_left (unrepeated ts) (not (named ts (bytes "i"))) e) f in
    let b : named (ts ++ (t ∷ [])) (bytes "i") ≡ named ts (bytes "i") = named-append ts (t ∷ []) (bytes "i") ∙ rw g (or-none (named ts (bytes "i"))) in
    rw (a, b) (and_right (unrepeated ts) (not (named ts (bytes "i"))) e)

sound-not : (t : Tag) (ts us : List Tag) → (same t.name (bytes "i") ≡ true) ⊎ (named ts t.name ≡ true) → sound (ts ++ (t ∷ us)) ≡ false
unfolding sound named
sound-not t ts us = ⊎_elim (λ e. second e) (λ e. rw (repeated t ts us e))
  where
    second : same t.name (bytes "i") ≡ true → sound (ts ++ (t ∷ us)) ≡ false
    second e =
        let n : named (ts ++ (t ∷ us)) (bytes "i") ≡ true =
        named-append ts (t ∷ us) (bytes "i") ∙ or_right (named ts (bytes "i")) _ (or_left (same t.name (bytes "i")) _ e) in
        rw n (and_none (unrepeated (ts ++ (t ∷ us))))

-- ==== the tags read so far

-- they are sound, `ks` are their names, and the list goes on from i
pub record ReadSoFar (s : List ℕ) (at : ℕ) (ks : List (List ℕ)) (i count cv : ℕ) : Type 0 where
  pub done : List Tag
  pub list : tags_at s at ≡ done ++ tags_at s i
  pub ends : end_at tag s at ≡ end_at tag s i
  pub size : count ≡ length done
  pub names : (m : List ℕ) → holds ks m ≡ named done m
  pub fine : sound done ≡ true
  pub value : cv ≡ chain_value (value_named (bytes "cv") done)

-- the tag that a call told of
pub told-tag : (s : List ℕ) (i : ℕ) (r r' : Option told.Tag) → r ≡ r' → r ≡ tag_at s i → TagFound s i r'
told-tag s i r r' e f = subst (TagFound s i) (sym f ∙ e) (tag-found s i)

module _ (s : List ℕ) (i : ℕ) (g : told.Tag) (f : TagFound s i (Some g)) where
  -- its name is the one at its place
  pub found_name : span s g.start g.name_end ≡ name_at s g.start
  found_name = let n = f.stands.named in let d : g.name_end - g.start ≡ run in_tag_name (drop g.start s) = omega (arith, n) in rw d

  pub found-named : Named (span s g.start g.name_end)
  found-named = rw found_name (name-named s g.start)

cv-named : Named (bytes "cv")
unfolding opened run
cv-named = refl

pub read_none : (s : List ℕ) (at : ℕ) → ReadSoFar s at [] at 0 0
unfolding opened holds
read_none s at = record { done = []; list = refl; ends = refl; size = refl; names = λ m. refl; fine = refl; value = refl }

module _ (s : List ℕ) (at : ℕ) (ks : List (List ℕ)) (i count cv : ℕ) (c : ReadSoFar s at ks i count cv) where
  module _ (g : told.Tag) (f : TagFound s i (Some g)) where
    -- the tag that was found
    abbrev one : Tag
    one = record { name = span s g.start g.name_end; value = trimmed (span s g.value_start g.value_end) }

    list-one : tags_at s at ≡ c.done ++ (one ∷ tags_at s g.end)
    list-one = c.list ∙ ap (λ (l : List Tag). c.done ++ l) (list-more tag s i tag-some one g.end f.reads)

    names-one : (m : List ℕ) → (same (span s g.start g.name_end) m || named c.done m) ≡ named (c.done ++ (one ∷ [])) m
    unfolding named
    names-one m = or-last (same (span s g.start g.name_end) m) (named c.done m) ∙ sym (named-append c.done (one ∷ []) m)

    value-one : named c.done (span s g.start g.name_end) ≡ false → cv_after cv (span s g.start g.name_end) (span s g.value_start g.value_end) ≡ chain_value (value_named (bytes "cv") (c.done ++ (one ∷ [])))
    value-one h = go (same (span s g.start g.name_end) (bytes "cv")) refl
      where
        is-cv : same_at (span s g.start g.name_end) 0 (bytes "cv") ≡ same (span s g.start g.name_end) (bytes "cv")
        is-cv = same_whole (span s g.start g.name_end) (bytes "cv") (found-named s i g f) cv-named

        go : (b : Bool) → same (span s g.start g.name_end) (bytes "cv") ≡ b
            → cv_after cv (span s g.start g.name_end) (span s g.value_start g.value_end) ≡ chain_value (value_named (bytes "cv") (c.done ++ (one ∷ [])))
        go true q =
            let n : named c.done (bytes "cv") ≡ false = rw (same-is (span s g.start g.name_end) (bytes "cv") q) at h in
            rw (is-cv, q, value-this one (bytes "cv") c.done q n)
        go false q = rw (is-cv, q, value-other one (bytes "cv") c.done q) c.value

    -- its name was there or is i: the list is not sound
    pub read_twice : is_held ks (span s g.start g.name_end) ≡ true → (sound (tags_at s at) && leb (length s) (end_at tag s at)) ≡ false
    read_twice h =
        let b = or-either (same (span s g.start g.name_end) (bytes "i")) (holds ks (span s g.start g.name_end)) h in
        rw (list-one, sound-not one c.done (tags_at s g.end) (⊎_elim (λ q. inl q) (λ q. inr (sym (c.names (span s g.start g.name_end)) ∙ q)) b))

    -- the list has one tag more
    pub read-full : (m : ℕ) → m ≤ count → m < length (tags_at s at)
    read-full m h = rw list-one (omega (arith, length-append c.done (one ∷ tags_at s g.end), c.size))

    pub read-on : is_held ks (span s g.start g.name_end) ≡ false → (ks' : List (List ℕ)) → ((m : List ℕ) → holds ks' m ≡ (same (name_at s g.start) m || holds ks m)) → (cv' : ℕ)
        → cv' ≡ cv_after cv (span s g.start g.name_end) (span s g.value_start g.value_end) → ReadSoFar s at ks' g.end (count + 1) cv'
    read-on h ks' n cv' j =
        let z = or-false (same (span s g.start g.name_end) (bytes "i")) (holds ks (span s g.start g.name_end)) h in
        let new : named c.done (span s g.start g.name_end) ≡ false = sym (c.names (span s g.start g.name_end)) ∙ z.1 in
        record {
          done = c.done ++ (one ∷ []);
          list = list-one ∙ sym (append_assoc c.done (one ∷ []) (tags_at s g.end));
          ends = c.ends ∙ end_more tag s i tag-some one g.end f.reads;
          size = omega (arith, length-append c.done (one ∷ []), c.size);
          names = λ m. n m ∙ (rw (← found_name s i g f, c.names m) (names-one m));
          fine = sound_more one c.done c.fine new z.0;
          value = j ∙ value-one new;
        }

  -- no tag is left
  pub read-end : (F : Type 0) (t : List ℕ) → count ≤ length t → ks ≡ kept s t count → (r : Result Sound Unread) → TagFound s i None → r ≡ ended_at s i count cv
      → CollectedIf F s at t r
  read-end F t u k r f q = rw q (go (leb (length s) i) refl)
    where
      all : tags_at s at ≡ c.done
      all = c.list ∙ (ap (λ (l : List Tag). c.done ++ l) (list-none tag s i f.reads) ∙ append-nil c.done)

      ends : end_at tag s at ≡ i
      ends = c.ends ∙ end_none tag s i f.reads

      go : (b : Bool) → leb (length s) i ≡ b → CollectedIf F s at t (ended_at s i count cv)
      go true h =
          rw (ended_at, h)
          (record {
            fine = rw all c.fine;
            ends = rw ends (leb-true (length s) i h);
            fits = u;
            names = λ m. rw (← k, all) (c.names m);
            cv = rw all c.value;
          })
      go false h = rw (ended_at, h) (rw (ends, h) (and_none (sound (tags_at s at))))
