-- A table of names in order: the loop that finds a name by halving, the loop that puts a place in, and what an inserted place does
-- to the names kept. Names before `lo` are before the name sought and those from `hi` on are after it, so the slot stands between.
use Prim.Native.Nat.{ℕ, zero, suc, ◌+◌, ◌-◌, ◌/◌, ◌≤◌, ◌<◌, zero-le, suc-le-suc}
use native.Mathlib.Nat.{eq-or-lt_of_le, add-zero, zero-add, le_of_suc-le-suc, not-suc-le-zero}
use native.Mathlib.Numerals.{add-one}
use native.Mathlib.Omega.{arith}
use mathlib.Core.Path.{◌≡◌, refl, sym, ap, ◌∙◌}
use mathlib.Core.Bool.{Bool, true, false, ◌||◌}
use mathlib.Core.Logic.{⊎_elim}
use mathlib.Core.List.{List, [], ◌∷◌, ◌++◌, map, append_assoc}
use lib.ListN.{length, get_or, set, take, drop, length-append, length-drop, length-set, length-map, drop_of_length-le, take-append-drop}
use lib.Seq.{take-take, take_at, length-take-le, get_or-take, drop-cons, drop-set-lt}
use Rattle.std.proofs.lemmas.Grind.{take-set_at}
use Rattle.base_sequences.proofs.Booleans.{and_left, and_right}
use Rattle.base_sequences.proofs.Lists.{drop-take}
use Rattle.base_readers.specs.Texts.{same}
use Rattle.std.specs.declared.cmp.Ordering.{Ordering}
use Rattle.std.specs.declared.cmp.Ordering.TheVariants.{Less, Equal, Greater}
use Rattle.std.specs.Ordering.{is_lt, ordering_reverse}
use Rattle.std.specs.Prelude.{Some, None}
use Rattle.tag_names.specs.Names.{name_at, Named, compared, compared_at, holds}
use Rattle.tag_names.proofs.Ordering.{compared-flip, compared_same, compared-trans}
use Rattle.tag_names.proofs.Fronts.{compared-front}
use Rattle.tag_content.specs.Tests.{kept}
use Rattle.tag_list_ordered.specs.Internal.{before_all, ordered, Kept, slot_for, inserted_at}
use Rattle.tag_list_ordered.proofs.Slots.{before-is, before_more, no-free, free-is, free-within}

-- ==== names by their number

get_or-mapped : {A B : Type 0} (f : A → B) (l : List A) (k : ℕ) (d : A) (e : B) → k < length l → get_or (map f l) k e ≡ f (get_or l k d)
get_or-mapped f [] k d e h = absurd (not-suc-le-zero h)
get_or-mapped f (x ∷ l) zero d e h = refl
get_or-mapped f (x ∷ l) (suc k) d e h = get_or-mapped f l k d e (le_of_suc-le-suc h)

pub kept-length : (s t : List ℕ) (n : ℕ) → n ≤ length t → length (kept s t n) ≡ n
kept-length s t n h = length-map (take n t) (name_at s) ∙ length-take-le n t h

kept_at : (s t : List ℕ) (n k : ℕ) → n ≤ length t → k < n → get_or (kept s t n) k [] ≡ name_at s (get_or t k 0)
kept_at s t n k h l =
    let m : k < length (take n t) = rw (length-take-le n t h) l in
    get_or-mapped (name_at s) (take n t) k 0 [] m ∙ ap (name_at s) (get_or-take n t k 0 l)

before_at : (n : List ℕ) (ks : List (List ℕ)) (k : ℕ) → before_all n ks ≡ true → k < length ks → compared n (get_or ks k []) ≡ Less
unfolding before_all
before_at n [] k e h = absurd (not-suc-le-zero h)
before_at n (x ∷ ks) zero e h = before-is (compared n x) (and_left (is_lt (compared n x)) (before_all n ks) e)
before_at n (x ∷ ks) (suc k) e h = before_at n ks k (and_right (is_lt (compared n x)) (before_all n ks) e) (le_of_suc-le-suc h)

ordered_at : (ks : List (List ℕ)) (i k : ℕ) → ordered ks ≡ true → i < k → k < length ks → compared (get_or ks i []) (get_or ks k []) ≡ Less
unfolding ordered
ordered_at [] i k e l h = absurd (not-suc-le-zero h)
ordered_at (x ∷ ks) i zero e l h = absurd (not-suc-le-zero l)
ordered_at (x ∷ ks) zero (suc k) e l h = before_at x ks k (and_left (before_all x ks) (ordered ks) e) (le_of_suc-le-suc h)
ordered_at (x ∷ ks) (suc i) (suc k) e l h =
    ordered_at ks i k (and_right (before_all x ks) (ordered ks) e) (le_of_suc-le-suc l) (le_of_suc-le-suc h)

-- past names that are before the one sought
slot-past : (i : ℕ) (ks : List (List ℕ)) (n : List ℕ) (m : ℕ) → m ≤ length ks → ((k : ℕ) → k < m → compared (get_or ks k []) n ≡ Less)
    → slot_for i ks n ≡ slot_for (i + m) (drop m ks) n
unfolding slot_for
slot-past i ks n zero h b = rw add-zero
slot-past i [] n (suc m) h b = absurd (not-suc-le-zero h)
slot-past i (k ∷ ks) n (suc m) h b =
    let e : suc i + m ≡ i + suc m = omega arith in
    rw (slot_for, b 0 (suc-le-suc zero-le), ← e) (slot-past (suc i) ks n m (le_of_suc-le-suc h) (λ j l. b (suc j) (suc-le-suc l)))

-- ==== the loop that finds a name

-- names before `lo` are before the name sought, and those from `hi` on are after it
pub record Halved (s t : List ℕ) (count : ℕ) (n : List ℕ) (lo hi : ℕ) : Type 0 where
  pub within : lo ≤ hi
  pub fits : hi ≤ count
  pub room : count ≤ length t
  pub below : (k : ℕ) → k < lo → compared (get_or (kept s t count) k []) n ≡ Less
  pub above : (k : ℕ) → hi ≤ k → k < count → compared (get_or (kept s t count) k []) n ≡ Greater

module _ (s t : List ℕ) (count : ℕ) (n : List ℕ) where
  halved-start : Kept s t count → Halved s t count n 0 count
  halved-start w =
      record {
        within = zero-le;
        fits = omega arith;
        room = w.fits;
        below = λ k h. absurd (not-suc-le-zero h);
        above = λ k h l. absurd (omega arith);
      }

  module _ (lo hi : ℕ) (v : Kept s t count) (w : Halved s t count n lo hi) where
    module _ (m : ℕ) (l : lo ≤ m) (h : m < hi) where
      -- the name in the middle
      middle-name : (p : ℕ) → p ≡ get_or t m 0 → name_at s p ≡ get_or (kept s t count) m []
      middle-name p q = ap (name_at s) q ∙ sym (kept_at s t count m w.room (omega (arith, w.fits)))

      module _ (o : Ordering) (q : o ≡ compared (get_or (kept s t count) m []) n) where
        before-middle : (k : ℕ) → k < m → compared (get_or (kept s t count) k []) (get_or (kept s t count) m []) ≡ Less
        before-middle k i = ordered_at (kept s t count) k m v.order i (rw (kept-length s t count w.room) (omega (arith, w.fits)))

        halved-up : o ≡ Less → Halved s t count n (m + 1) hi
        halved-up e =
            record {
              within = omega arith;
              fits = w.fits;
              room = w.room;
              below = λ k i. ⊎_elim (at k) (λ j. compared-trans _ _ n (before-middle k j) (sym q ∙ e)) (eq-or-lt_of_le (le_of_suc-le-suc (rw add-one at i)));
              above = w.above;
            }
          where
            at : (k : ℕ) → k ≡ m → compared (get_or (kept s t count) k []) n ≡ Less
            at k i = ap (λ (j : ℕ). compared (get_or (kept s t count) j []) n) i ∙ (sym q ∙ e)

        halved-down : o ≡ Greater → Halved s t count n lo m
        halved-down e =
            record {
              within = l;
              fits = omega (arith, w.fits);
              room = w.room;
              below = w.below;
              above = λ k i j. ⊎_elim (at k) (past k j) (eq-or-lt_of_le i);
            }
          where
            at : (k : ℕ) → m ≡ k → compared (get_or (kept s t count) k []) n ≡ Greater
            at k i = ap (λ (j : ℕ). compared (get_or (kept s t count) j []) n) (sym i) ∙ (sym q ∙ e)

            past : (k : ℕ) → k < count → m < k → compared (get_or (kept s t count) k []) n ≡ Greater
            past k j i =
                let a = get_or (kept s t count) m [] in
                let b = get_or (kept s t count) k [] in
                let x : compared n a ≡ Less = compared-flip a n ∙ ap ordering_reverse (sym q ∙ e) in
                let y : compared a b ≡ Less = ordered_at (kept s t count) m k v.order i (rw (kept-length s t count w.room) j) in
                compared-flip n b ∙ ap ordering_reverse (compared-trans n a b x y)

        halved-same : o ≡ Equal → None ≡ slot_for 0 (kept s t count) n
        unfolding slot_for
        halved-same e =
            let ks = kept s t count in
            let z : m < length ks = rw (kept-length s t count w.room) (omega (arith, w.fits)) in
            let x : get_or ks m [] ≡ n = compared_same (get_or ks m []) n (sym q ∙ e) in
            let y : slot_for 0 ks n ≡ slot_for (0 + m) (drop m ks) n = slot-past 0 ks n m (omega arith) (λ k i. rw x at (before-middle k i)) in
            sym (y ∙ rw (drop-cons ks m [] z, slot_for, sym q ∙ e))

    halved-free : hi ≤ lo → Some lo ≡ slot_for 0 (kept s t count) n
    unfolding slot_for
    halved-free h =
        let ks = kept s t count in
        let a : lo ≤ count = omega (arith, w.within, w.fits) in
        let y : slot_for 0 ks n ≡ slot_for (0 + lo) (drop lo ks) n = slot-past 0 ks n lo (rw (kept-length s t count w.room) a) w.below in
        ⊎_elim (at y) (past y) (eq-or-lt_of_le a)
      where
        at : slot_for 0 (kept s t count) n ≡ slot_for (0 + lo) (drop lo (kept s t count)) n → lo ≡ count → Some lo ≡ slot_for 0 (kept s t count) n
        at y e =
            let z : length (kept s t count) ≤ lo = rw (kept-length s t count w.room) (omega arith) in
            sym (y ∙ rw (drop_of_length-le (kept s t count) z, zero-add))

        past : slot_for 0 (kept s t count) n ≡ slot_for (0 + lo) (drop lo (kept s t count)) n → lo < count → Some lo ≡ slot_for 0 (kept s t count) n
        past y i =
            let z : lo < length (kept s t count) = rw (kept-length s t count w.room) i in
            sym (y ∙ rw (drop-cons (kept s t count) lo [] z, slot_for, w.above lo h i, zero-add))

-- what one turn of it says
module _ (s t : List ℕ) (count : ℕ) (n : List ℕ) (lo hi : ℕ) (v : Kept s t count × Named n) (w : Halved s t count n lo hi) (g : lo < hi) where
  module _ (p : ℕ) (q : p ≡ get_or t (lo + (hi - lo) / 2) 0) (o : Ordering) (f : o ≡ compared_at (drop p s) n) where
    told : o ≡ compared (get_or (kept s t count) (lo + (hi - lo) / 2) []) n
    told =
        f
        ∙ (compared-front (drop p s) n v.1
        ∙ ap (λ (k : List ℕ). compared k n) (middle-name s t count n lo hi v.0 w (lo + (hi - lo) / 2) (omega arith) (omega arith) p q))

    pub turn_up : o ≡ Less → Halved s t count n (lo + (hi - lo) / 2 + 1) hi
    turn_up = halved-up s t count n lo hi v.0 w (lo + (hi - lo) / 2) (omega arith) (omega arith) o told

    pub turn-down : o ≡ Greater → Halved s t count n lo (lo + (hi - lo) / 2)
    turn-down = halved-down s t count n lo hi v.0 w (lo + (hi - lo) / 2) (omega arith) (omega arith) o told

    pub turn-same : o ≡ Equal → None ≡ slot_for 0 (kept s t count) n
    turn-same = halved-same s t count n lo hi v.0 w (lo + (hi - lo) / 2) (omega arith) (omega arith) o told

pub search-start : (s t : List ℕ) (count : ℕ) (n : List ℕ) → Kept s t count × Named n → Halved s t count n 0 count
search-start s t count n v = halved-start s t count n v.0

pub search-free : (s t : List ℕ) (count : ℕ) (n : List ℕ) (lo hi : ℕ) → Kept s t count × Named n → Halved s t count n lo hi → hi ≤ lo
    → Some lo ≡ slot_for 0 (kept s t count) n
search-free s t count n lo hi v w h = halved-free s t count n lo hi v.0 w h

-- ==== the loop that puts a place in

-- a table with the carried entry put in at j, of the first n: past them it is the table itself
abbrev pub carried_at : ℕ → ℕ → ℕ → List ℕ → List ℕ
carried_at j n p t = take j t ++ (take (n + 1 - j) (p ∷ drop j t) ++ drop (n + 1) t)

-- putting the carried entry in from here on leaves what putting the place in at the start would have left
pub record Carrying (t₀ : List ℕ) (n at place : ℕ) (t : List ℕ) (carried j : ℕ) : Type 0 where
  pub within : j ≤ n + 1
  pub room : n < length t
  pub long : length t ≡ length t₀
  pub same : carried_at j n carried t ≡ inserted_at at n place t₀

pub carrying-start : (t : List ℕ) (n at place : ℕ) → (at ≤ n) × (n < length t) → Carrying t n at place t place at
carrying-start t n at place h =
    let e : n + 1 - at ≡ suc (n - at) = omega (arith, h.0) in
    record { within = omega (arith, h.0); room = h.1; long = refl; same = rw e }

-- the carried entry is put down, and the one that stood there is carried on
carried-on : (t : List ℕ) (n p j : ℕ) → j < n + 1 → n < length t → carried_at (j + 1) n (get_or t j 0) (set t j p) ≡ carried_at j n p t
carried-on t n p j l h =
    let r : j < length t = omega arith in
    let a : take (j + 1) (set t j p) ≡ take j t ++ (p ∷ []) = take-set_at t j (j + 1) p refl r in
    let b : drop (j + 1) (set t j p) ≡ drop (j + 1) t = drop-set-lt (j + 1) t j p (omega arith) in
    let d : drop (n + 1) (set t j p) ≡ drop (n + 1) t = drop-set-lt (n + 1) t j p l in
    let e : get_or t j 0 ∷ drop (j + 1) t ≡ drop j t = rw add-one (sym (drop-cons t j 0 r)) in
    let f : n + 1 - (j + 1) ≡ n - j = omega arith in
    let g : n + 1 - j ≡ suc (n - j) = omega arith in
    rw (a, b, d, e, f, g) (append_assoc (take j t) (p ∷ []) (take (n - j) (drop j t) ++ drop (n + 1) t))

module _ (t₀ : List ℕ) (n at place : ℕ) (t : List ℕ) (carried j : ℕ) (w : Carrying t₀ n at place t carried j) where
  pub carrying-on : j < n + 1 → Carrying t₀ n at place (set t j carried) (get_or t j 0) (j + 1)
  carrying-on l =
      record {
        within = omega arith;
        room = rw (length-set t j carried) w.room;
        long = length-set t j carried ∙ w.long;
        same = carried-on t n carried j l w.room ∙ w.same;
      }

  pub carrying-end : n + 1 ≤ j → t ≡ inserted_at at n place t₀
  carrying-end l =
      let e : j ≡ n + 1 = omega (arith, w.within) in
      let z : n + 1 - (n + 1) ≡ 0 = omega arith in
      let q : carried_at (n + 1) n carried t ≡ inserted_at at n place t₀ = rw e at w.same in
      sym (take-append-drop (n + 1) t) ∙ (rw z at q)

-- ==== what a place that is put in does to the names

-- an element put before another
abbrev between : {A : Type 0} → ℕ → A → List A → List A
between i x l = take i l ++ (x ∷ drop i l)

map-between : {A B : Type 0} (f : A → B) (i : ℕ) (x : A) (l : List A) → map f (between i x l) ≡ between i (f x) (map f l)
map-between f zero x l = refl
map-between f (suc i) x [] = refl
map-between {B} f (suc i) x (y ∷ l) = ap (λ (k : List B). f y ∷ k) (map-between f i x l)

before-between : (k : List ℕ) (i : ℕ) (n : List ℕ) (ks : List (List ℕ)) → compared k n ≡ Less → before_all k ks ≡ true → before_all k (between i n ks) ≡ true
unfolding before_all
before-between k zero n ks h e = rw h e
before-between k (suc i) n [] h e = rw h
before-between k (suc i) n (x ∷ ks) h e =
    rw (and_left (is_lt (compared k x)) (before_all k ks) e) (before-between k i n ks h (and_right (is_lt (compared k x)) (before_all k ks) e))

-- a name put in at its slot stands in order
ordered-between : (i j : ℕ) (ks : List (List ℕ)) (n : List ℕ) → ordered ks ≡ true → slot_for i ks n ≡ Some (i + j) → ordered (between j n ks) ≡ true
unfolding ordered slot_for before_all
ordered-between i zero [] n o e = refl
ordered-between i (suc j) [] n o e = refl
ordered-between i j (k ∷ ks) n o e = go (compared k n) refl j e (λ j. ordered-between (suc i) j ks n)
  where
    rest : ordered ks ≡ true
    rest = and_right (before_all k ks) (ordered ks) o

    first : before_all k ks ≡ true
    first = and_left (before_all k ks) (ordered ks) o

    go : (x : Ordering) → compared k n ≡ x → (j : ℕ) → slot_for i (k ∷ ks) n ≡ Some (i + j)
        → ((j : ℕ) → ordered ks ≡ true → slot_for (suc i) ks n ≡ Some (suc i + j) → ordered (between j n ks) ≡ true) → ordered (between j n (k ∷ ks)) ≡ true
    go Less q zero e ih =
        let w = free-within (suc i) ks n (i + 0) (rw (slot_for, q) at e) in
        absurd (omega (arith, w))
    go Less q (suc j) e ih =
        let z : i + suc j ≡ suc i + j = omega arith in
        rw (before-between k j n ks q first) (ih j rest (rw (slot_for, q, z) at e))
    go Equal q j e ih = let w : None ≡ Some (i + j) = rw (slot_for, q) at e in absurd (no-free (sym w))
    go Greater q zero e ih =
        let b : compared n k ≡ Less = compared-flip k n ∙ ap ordering_reverse q in
        rw (b, before_more n k ks b first) o
    go Greater q (suc j) e ih = let w : i ≡ i + suc j = free-is i (i + suc j) (rw (slot_for, q) at e) in absurd (omega arith)

or_swap : (a b c : Bool) → (a || (b || c)) ≡ (b || (a || c))
or_swap true true c = refl
or_swap true false c = refl
or_swap false b c = refl

holds-between : (i : ℕ) (n : List ℕ) (ks : List (List ℕ)) (m : List ℕ) → holds (between i n ks) m ≡ (same n m || holds ks m)
unfolding holds
holds-between zero n ks m = refl
holds-between (suc i) n [] m = refl
holds-between (suc i) n (k ∷ ks) m = rw (holds-between i n ks m) (or_swap (same k m) (same n m) (holds ks m))

-- the entries in use, and those behind them
inserted-is : (i n p : ℕ) (t : List ℕ) → i ≤ n → n < length t → inserted_at i n p t ≡ between i p (take n t) ++ drop (n + 1) t
inserted-is i n p t l h =
    let a : take i t ≡ take i (take n t) = sym (take-take i n t l) in
    let b : take (n - i) (drop i t) ≡ drop i (take n t) = sym (drop-take i n t) in
    rw (a, b) (sym (append_assoc (take i (take n t)) (p ∷ drop i (take n t)) (drop (n + 1) t)))

length-between : (i n p : ℕ) (t : List ℕ) → i ≤ n → n < length t → length (between i p (take n t)) ≡ n + 1
length-between i n p t l h =
    let a : length (take n t) ≡ n = length-take-le n t (omega arith) in
    let b : length (take i (take n t)) ≡ i = length-take-le i (take n t) (omega arith) in
    let d : length (drop i (take n t)) ≡ length (take n t) - i = length-drop i (take n t) in
    length-append (take i (take n t)) (p ∷ drop i (take n t)) ∙ omega arith

in_use : (i n p : ℕ) (t : List ℕ) → i ≤ n → n < length t → take (n + 1) (inserted_at i n p t) ≡ between i p (take n t)
in_use i n p t l h = rw (inserted-is i n p t l h) (take_at (between i p (take n t)) (drop (n + 1) t) (n + 1) (length-between i n p t l h))

module _ (s t : List ℕ) (n i p : ℕ) (l : i ≤ n) (h : n < length t) where
  kept-between : kept s (inserted_at i n p t) (n + 1) ≡ between i (name_at s p) (kept s t n)
  kept-between = rw (in_use i n p t l h) (map-between (name_at s) i p (take n t))

  -- a name is kept if it was or is the new one
  pub kept-holds : (m : List ℕ) → holds (kept s (inserted_at i n p t) (n + 1)) m ≡ (same (name_at s p) m || holds (kept s t n) m)
  kept-holds m = rw kept-between (holds-between i (name_at s p) (kept s t n) m)

  pub kept_more : Kept s t n → slot_for 0 (kept s t n) (name_at s p) ≡ Some i → Kept s (inserted_at i n p t) (n + 1)
  kept_more w e =
      let z : i ≡ 0 + i = omega arith in
      record {
        fits = rw (inserted-is i n p t l h) (omega (arith, length-append (between i p (take n t)) (drop (n + 1) t), length-between i n p t l h));
        order = rw kept-between (ordered-between 0 i (kept s t n) (name_at s p) w.order (rw z at e));
      }

  pub inserted-long : length (inserted_at i n p t) ≡ length t
  inserted-long =
      rw (inserted-is i n p t l h)
      (omega (arith, length-append (between i p (take n t)) (drop (n + 1) t), length-between i n p t l h, length-drop (n + 1) t))
