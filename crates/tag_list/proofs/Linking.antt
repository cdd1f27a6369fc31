-- Names linked by buckets: the walk along the links of a bucket passes by names of other buckets only, so that a name is found where it is held; and the
-- loop that collects the tags of a list so.
use Prim.Native.Nat.{ℕ, zero, suc, ◌+◌, ◌-◌, ◌%◌, ◌≤◌, ◌<◌, zero-le}
use native.Mathlib.Nat.{eq-or-lt_of_le, le_of_suc-le-suc, not-suc-le-zero}
use native.Mathlib.Numerals.{add-one}
use native.Mathlib.Omega.{arith}
use mathlib.Core.Path.{◌≡◌, refl, sym, ap, ◌∙◌}
use mathlib.Core.Bool.{Bool, true, false, ◌&&◌, ◌||◌}
use mathlib.Core.Logic.{◌⊎◌, ⊎_elim}
use mathlib.Core.List.{List, [], ◌∷◌, ◌++◌, map}
use borrow.Author.Tests.{eqb-true, eq-eqb}
use lib.Dec.{eqb, leb}
use lib.ListN.{length, get_or, set, take, replicate, length-set, length-replicate, get_or-replicate}
use lib.Seq.{take-suc, take-suc-set, get_or-set_same, get_or-set_other}
use Rattle.base_sequences.proofs.Booleans.{both}
use Rattle.base_readers.specs.Texts.{bytes, same}
use Rattle.base_readers.specs.Places.{end_at}
use Rattle.tag.specs.declared.Tag as tagged
use Rattle.std.specs.Prelude.{Some, None, Result}
use Rattle.tag_content.specs.declared.Sound.{Sound}
use Rattle.tag_content.specs.declared.Unread.{Unread}
use Rattle.tag_list.specs.declared.linked.Sought.{Sought}
use Rattle.tag_list.specs.declared.linked.Sought.TheVariants as sought
use Rattle.lexis_rules.specs.Limits.{byte_limit}
use Rattle.tag_rules.specs.Tags.{tag}
use Rattle.tag_rules.specs.Needed.{sound}
use Rattle.tag.specs.Tags.{TagFound}
use Rattle.base_sequences.specs.Spans.{span}
use Rattle.tag_names.specs.Names.{name_at, Named, same_at, holds, bucket_of}
use Rattle.tag_names.proofs.Ordering.{same-is}
use Rattle.tag_names.proofs.Needed.{same-named}
use Rattle.tag_names.proofs.Buckets.{bucket-small}
use Rattle.tag_content.specs.Lists.{tags_at}
use Rattle.tag_content.specs.Tests.{kept, is_held, cv_after, ended_at, CollectedIf}
use Rattle.tag_list.specs.Internal.{bucket_at, Ends, Last, Links, Linked, SoughtAs}
use Rattle.tag_content.proofs.TagLists.{is-i}
use Rattle.tag_content.proofs.TagsRead.{ReadSoFar, found_name, found-named, read_none, read_twice, read-on, read-end}

-- ==== one entry more

map_last : {A B : Type 0} (f : A → B) (l : List A) (x : A) → map f (l ++ (x ∷ [])) ≡ map f l ++ (f x ∷ [])
map_last f [] x = refl
map_last {B} f (y ∷ l) x = ap (λ (k : List B). f y ∷ k) (map_last f l x)

holds-last : (ks : List (List ℕ)) (k n : List ℕ) → holds (ks ++ (k ∷ [])) n ≡ (same k n || holds ks n)
unfolding holds
holds-last [] k n = refl
holds-last (h ∷ ks) k n = rw (holds-last ks k n) (swap (same h n) (same k n) (holds ks n))
  where
    swap : (a b d : Bool) → (a || (b || d)) ≡ (b || (a || d))
    swap true true d = refl
    swap true false d = refl
    swap false b d = refl

-- the names of the first k + 1 entries
kept-last : (s t : List ℕ) (k : ℕ) (n : List ℕ) → k < length t → holds (kept s t (suc k)) n ≡ (same (name_at s (get_or t k 0)) n || holds (kept s t k) n)
kept-last s t k n h =
    ap (λ (l : List ℕ). holds (map (name_at s) l) n) (take-suc t k 0 h)
    ∙ (ap (λ (l : List (List ℕ)). holds l n) (map_last (name_at s) (take k t) (get_or t k 0)) ∙ holds-last (kept s t k) (name_at s (get_or t k 0)) n)

module _ (s t n : List ℕ) where
  -- a name of another bucket is not this one
  bucket-other : (k : ℕ) → (bucket_at s t k ≡ bucket_of n → ⊥) → same (name_at s (get_or t k 0)) n ≡ false
  bucket-other k ne = go (same (name_at s (get_or t k 0)) n) refl
    where
      go : (b : Bool) → same (name_at s (get_or t k 0)) n ≡ b → b ≡ false
      go true q = absurd (ne (ap bucket_of (same-is (name_at s (get_or t k 0)) n q)))
      go false q = refl

  -- names of other buckets are passed
  passed : (c d : ℕ) → c + d ≤ length t → ((k : ℕ) → c ≤ k → k < c + d → bucket_at s t k ≡ bucket_of n → ⊥) → holds (kept s t (c + d)) n ≡ holds (kept s t c) n
  passed c zero h skips = let e : c + 0 ≡ c = omega arith in ap (λ (m : ℕ). holds (kept s t m) n) e
  passed c (suc d) h skips =
      let e : c + suc d ≡ suc (c + d) = omega arith in
      let l : c + d < length t = omega arith in
      ap (λ (m : ℕ). holds (kept s t m) n) e
      ∙ (kept-last s t (c + d) n l
      ∙ (ap (λ (b : Bool). b || holds (kept s t (c + d)) n) (bucket-other (c + d) (skips (c + d) (omega arith) (omega arith)))
      ∙ passed c d (omega arith) (λ k i j. skips k i (omega arith))))

  last-held : (b c m : ℕ) → b ≡ bucket_of n → m ≤ length t → Last s t b c m → holds (kept s t m) n ≡ holds (kept s t c) n
  last-held b c m e h w =
      let r : c + (m - c) ≡ m = omega (arith, w.within) in
      ap (λ (k : ℕ). holds (kept s t k) n) (sym r)
      ∙ passed c (m - c) (omega arith) (λ k i j q. w.skips k i (omega arith) (q ∙ sym e))

-- ==== the walk along the links of a bucket

-- the name is held where it is among the first c entries, and c is a link of its bucket
pub record Seeking (s t next : List ℕ) (last : ℕ) (n : List ℕ) (c : ℕ) : Type 0 where
  pub links : Links s t next c
  pub ends : Ends s t (bucket_of n) c
  pub named : Named n
  pub held : holds (kept s t last) n ≡ holds (kept s t c) n

module _ (s t next : List ℕ) (last : ℕ) (n : List ℕ) where
  pub seeking-start : Links s t next last × Ends s t (bucket_of n) last × Named n → Seeking s t next last n last
  seeking-start v = record { links = v.0; ends = v.1; named = v.2; held = refl }

  module _ (c : ℕ) (w : Seeking s t next last n c) where
    pub seeking-inside : 0 < c → c - 1 < length t
    seeking-inside h = omega (arith, w.links.fits)

    pub seeking-linked : 0 < c → c - 1 < length next
    seeking-linked h = omega (arith, w.links.room)

    -- the bucket has no more names
    pub seeking-end : c ≤ 0 → SoughtAs (holds (kept s t last) n) sought.Free
    unfolding holds
    seeking-end h = let e : c ≡ 0 = omega arith in w.held ∙ ap (λ (m : ℕ). holds (kept s t m) n) e

    module _ (h : 0 < c) (p : ℕ) (q : p ≡ get_or t (c - 1) 0) (r : Bool) (u : r ≡ same_at s p n) where
      this : same (name_at s (get_or t (c - 1) 0)) n ≡ r
      this = sym (same-named s (get_or t (c - 1) 0) n w.named) ∙ (ap (λ (k : ℕ). same_at s k n) (sym q) ∙ sym u)

      split : holds (kept s t last) n ≡ (r || holds (kept s t (c - 1)) n)
      split =
          let e : c ≡ suc (c - 1) = omega arith in
          w.held
          ∙ (ap (λ (m : ℕ). holds (kept s t m) n) e
          ∙ (kept-last s t (c - 1) n (omega (arith, w.links.fits)) ∙ ap (λ (b : Bool). b || holds (kept s t (c - 1)) n) this))

      pub seeking-found : r ≡ true → SoughtAs (holds (kept s t last) n) sought.Taken
      seeking-found z = split ∙ rw z

      pub seeking-on : r ≡ false → (d : ℕ) → d ≡ get_or next (c - 1) 0 → Seeking s t next last n d
      seeking-on z d v =
          let k = c - 1 in
          let l = w.links.before k (omega arith) in
          let b : bucket_at s t k ≡ bucket_of n = w.ends k (omega arith) in
          let m = w.links.fits in
          let i = l.within in
          rw v
          (record {
            links = record { fits = omega (arith, i, m); room = omega (arith, i, w.links.room); before = λ j a. w.links.before j (omega (arith, i, a)) };
            ends = λ j e. l.ends j e ∙ b;
            named = w.named;
            held = split ∙ (ap (λ (x : Bool). x || holds (kept s t k) n) z ∙ last-held s t n (bucket_at s t k) (get_or next k 0) k b (omega (arith, m)) l);
          })

-- ==== i is taken

module _ (n : List ℕ) (g : Named n) (r : Bool) (e : r ≡ same_at n 0 (bytes "i")) where
  pub sought-i : (ks : List (List ℕ)) → r ≡ true → is_held ks n ≡ true
  sought-i ks q = let t : same n (bytes "i") ≡ true = sym (is-i n g r e) ∙ q in rw t

  pub sought-not-i : (ks : List (List ℕ)) (x : Sought) → r ≡ false → SoughtAs (holds ks n) x → SoughtAs (is_held ks n) x
  sought-not-i ks x q f = let t : same n (bytes "i") ≡ false = sym (is-i n g r e) ∙ q in rw t f

-- ==== an entry that is put in

module _ (s t next heads : List ℕ) (n : ℕ) (w : Linked s t next heads n) (p b : ℕ) (e : b ≡ bucket_of (name_at s p)) (l : n < length t) (m : n < length next) where
  bucket-before : (k : ℕ) → k < n → bucket_at s (set t n p) k ≡ bucket_at s t k
  bucket-before k h = ap (λ (x : ℕ). bucket_of (name_at s x)) (get_or-set_other t n k p 0 (λ q. omega arith))

  bucket-new : bucket_at s (set t n p) n ≡ b
  bucket-new = ap (λ (x : ℕ). bucket_of (name_at s x)) (get_or-set_same t n p 0 l) ∙ sym e

  last-before : (d c k : ℕ) → k ≤ n → Last s t d c k → Last s (set t n p) d c k
  last-before d c k i v =
      record {
        within = v.within;
        skips = λ j g h q. v.skips j g h (sym (bucket-before j (omega arith)) ∙ q);
        ends = λ j q. bucket-before j (omega (arith, v.within, q)) ∙ v.ends j q;
      }

  small : b < length heads
  small = rw (w.buckets, e) (bucket-small (name_at s p))

  -- each entry is linked to the one before it of its bucket
  link-before : (k : ℕ) → (k ≡ n) ⊎ (k < n) → Last s (set t n p) (bucket_at s (set t n p) k) (get_or (set next n (get_or heads b 0)) k 0) k
  link-before k =
      ⊎_elim
      (λ q. rw (q, bucket-new, get_or-set_same next n (get_or heads b 0) 0 m) (last-before b (get_or heads b 0) n (omega arith) (w.last b (rw w.buckets at small))))
      (λ h. rw (bucket-before k h, get_or-set_other next n k (get_or heads b 0) 0 (λ q. omega arith)) (last-before (bucket_at s t k) (get_or next k 0) k (omega arith) (w.links.before k h)))

  -- each bucket to its last
  link-last : (d : ℕ) → d < 32768 → (x : Bool) → eqb d b ≡ x → Last s (set t n p) d (get_or (set heads b (n + 1)) d 0) (n + 1)
  link-last d h true q =
      rw (eqb-true d b q, get_or-set_same heads b (n + 1) 0 small)
      (record {
        within = omega arith;
        skips = λ k i j u. omega arith;
        ends = λ k u. let z : k ≡ n = omega arith in ap (bucket_at s (set t n p)) z ∙ bucket-new;
      })
  link-last d h false q =
      let ne : d ≡ b → ⊥ = λ u. both (eqb d b) q (eq-eqb d b u) in
      let v = last-before d (get_or heads d 0) n (omega arith) (w.last d h) in
      rw (get_or-set_other heads b d (n + 1) 0 ne)
      (record {
        within = omega (arith, v.within);
        skips = λ k i j u. ⊎_elim (λ z. ne (sym u ∙ (ap (bucket_at s (set t n p)) z ∙ bucket-new))) (λ z. v.skips k i z u) (eq-or-lt_of_le (le_of_suc-le-suc (rw add-one at j)));
        ends = v.ends;
      })

  linked_on : Linked s (set t n p) (set next n (get_or heads b 0)) (set heads b (n + 1)) (n + 1)
  linked_on =
      record {
        links =
            record {
              fits = rw (length-set t n p) (omega arith);
              room = rw (length-set next n (get_or heads b 0)) (omega arith);
              before = λ k h. link-before k (eq-or-lt_of_le (le_of_suc-le-suc (rw add-one at h)));
            };
        buckets = length-set heads b (n + 1) ∙ w.buckets;
        last = λ d h. link-last d h (eqb d b) refl;
      }

  -- a name is kept if it was or is the new one
  linked-holds : (k : List ℕ) → holds (kept s (set t n p) (n + 1)) k ≡ (same (name_at s p) k || holds (kept s t n) k)
  linked-holds k =
      rw (add-one n, take-suc-set t n p l)
      (ap (λ (ks : List (List ℕ)). holds ks k) (map_last (name_at s) (take n t) p) ∙ holds-last (kept s t n) (name_at s p) k)

-- a link behind fewer than 65,536 fits an entry
pub entry_next : (n r : ℕ) → n + 1 < 65536 → r ≡ (n + 1) % 65536 → r ≡ n + 1
entry_next n r h e = omega arith

-- ==== the loop

-- the tags read so far have their names in the table, linked
pub record Linking (s : List ℕ) (at : ℕ) (t₀ n₀ h₀ t next heads : List ℕ) (i count cv : ℕ) : Type 0 where
  pub read : ReadSoFar s at (kept s t count) i count cv
  pub linked : Linked s t next heads count
  pub fits : length next ≤ length t
  pub narrow : length next < 65536
  pub long-table : length t ≡ length t₀
  pub long-next : length next ≡ length n₀
  pub long-heads : length heads ≡ length h₀

no-heads : (m : ℕ) (heads : List ℕ) → heads ≡ replicate m 0 → (b : ℕ) → b < m → get_or heads b 0 ≡ 0
no-heads m heads e b h = rw e (get_or-replicate m b 0 0 h)

no-links : (s t : List ℕ) (b c : ℕ) → c ≡ 0 → Last s t b c 0
no-links s t b c e = record { within = omega arith; skips = λ k i j u. omega arith; ends = λ k u. absurd (omega arith) }

pub linking-start : (s : List ℕ) (at : ℕ) (t next heads : List ℕ)
    → (length s ≤ byte_limit) × (length next ≤ length t) × (length next < 65536) × (heads ≡ replicate 32768 0) → Linking s at t next heads t next heads at 0 0
linking-start s at t next heads v =
    record {
      read = read_none s at;
      linked =
          record {
            links = record { fits = zero-le; room = zero-le; before = λ k h. absurd (not-suc-le-zero h) };
            buckets = ap length v.3 ∙ length-replicate {A = ℕ} 32768 0;
            last = λ b h. no-links s t b (get_or heads b 0) (no-heads 32768 heads v.3 b h);
          };
      fits = v.1;
      narrow = v.2;
      long-table = refl;
      long-next = refl;
      long-heads = refl;
    }

module _ (s : List ℕ) (at : ℕ) (t₀ n₀ h₀ t next heads : List ℕ) (i count cv : ℕ) (c : Linking s at t₀ n₀ h₀ t next heads i count cv) where
  module _ (g : tagged.Tag) (f : TagFound s i (Some g)) (b : ℕ) (p : b ≡ bucket_of (span s g.start g.name_end)) where
    below : b < 32768
    below = rw p (bucket-small (span s g.start g.name_end))

    pub linking-bucket : b < length heads
    linking-bucket = rw c.linked.buckets below

    module _ (d : ℕ) (q : d ≡ get_or heads b 0) where
      first : Last s t b d count
      first = rw q (c.linked.last b below)

      -- what is asked for to look for its name
      pub linking-seeks : Links s t next d × Ends s t (bucket_of (span s g.start g.name_end)) d × Named (span s g.start g.name_end)
      linking-seeks =
          let k = c.linked.links in
          let y = first.within in (
            record { fits = omega (arith, y, k.fits); room = omega (arith, y, k.room); before = λ j h. k.before j (omega (arith, y, h)) },
            (λ j h. first.ends j h ∙ p),
            found-named s i g f,
          )

      module _ (o : Sought) (u : SoughtAs (is_held (kept s t d) (span s g.start g.name_end)) o) where
        told : (y : Bool) → is_held (kept s t d) (span s g.start g.name_end) ≡ y → is_held (kept s t count) (span s g.start g.name_end) ≡ y
        told y r = ap (λ (z : Bool). same (span s g.start g.name_end) (bytes "i") || z) (last-held s t (span s g.start g.name_end) b d count p c.linked.links.fits first) ∙ r

        -- its name is taken: the list is not sound
        pub linking-twice : o ≡ sought.Taken → (sound (tags_at s at) && leb (length s) (end_at tag s at)) ≡ false
        linking-twice r = read_twice s at (kept s t count) i count cv c.read g f (told true (rw r at u))

        pub linking-on : o ≡ sought.Free → (y : ℕ) (t' next' heads' : List ℕ) (cv' : ℕ) → length s ≤ byte_limit → count < length next → y ≡ g.start % 65536 → t' ≡ set t count y
            → next' ≡ set next count (get_or heads b 0) → heads' ≡ set heads b (count + 1) → cv' ≡ cv_after cv (span s g.start g.name_end) (span s g.value_start g.value_end)
            → Linking s at t₀ n₀ h₀ t' next' heads' g.end (count + 1) cv'
        linking-on r y t' next' heads' cv' z h j k l m q' = rw (k, l, m, j, entry) on
          where
            entry : g.start % 65536 ≡ g.start
            entry = omega (arith, f.stands)

            room : count < length t
            room = omega (arith, c.fits)

            bucket-is : b ≡ bucket_of (name_at s g.start)
            bucket-is = p ∙ ap bucket_of (found_name s i g f)

            on : Linking s at t₀ n₀ h₀ (set t count g.start) (set next count (get_or heads b 0)) (set heads b (count + 1)) g.end (count + 1) cv'
            on =
                record {
                  read =
                      read-on s at (kept s t count) i count cv c.read g f (told false (rw r at u))
                      (kept s (set t count g.start) (count + 1))
                      (linked-holds s t next heads count c.linked g.start b bucket-is room h)
                      cv'
                      q';
                  linked = linked_on s t next heads count c.linked g.start b bucket-is room h;
                  fits = rw (length-set t count g.start, length-set next count (get_or heads b 0)) c.fits;
                  narrow = rw (length-set next count (get_or heads b 0)) c.narrow;
                  long-table = length-set t count g.start ∙ c.long-table;
                  long-next = length-set next count (get_or heads b 0) ∙ c.long-next;
                  long-heads = length-set heads b (count + 1) ∙ c.long-heads;
                }

  -- no tag is left
  pub linking-end : (F : Type 0) (r : Result Sound Unread) → TagFound s i None → r ≡ ended_at s i count cv → CollectedIf F s at t r
  linking-end F r f q = read-end s at (kept s t count) i count cv c.read F t c.linked.links.fits refl r f q
