-- 01, Answer numbers: stripping 1, 5, then 2 to 4, then 6. A call that is handed a block and our own list goes in one of four courses, and so each number
-- is given exactly when its rule says so, whatever the call's answers are. Each law is shown by the courses.
use Prim.Native.Nat.{ℕ, zero, suc, ◌≤◌, ◌<◌}
use native.Mathlib.Omega.{arith}
use mathlib.Core.Path.{◌≡◌, refl, sym, ap, ◌∙◌}
use mathlib.Core.Bool.{Bool, true, false}
use mathlib.Core.List.{List}
use borrow.Author.Tests.{ltb-true, ltb-false}
use lib.Dec.{ltb}
use lib.ListN.{length}
use Rattle.lexis_rules.specs.Limits.{byte_limit}
use Rattle.block_rules.specs.Fields.{Field, fields}
use Rattle.block_laws.proofs.Fields.{fields-numbers}
use Rattle.ownlist_rules.specs.OwnList.{own_list}
use Rattle.ownlist_rules.specs.Calls.{by_list, by_fields, or_short, Known}
use Rattle.ownlist_laws.proofs.Entries.{list-five}
use Rattle.ownlist_laws.proofs.CallCases.{by-list-long, by-list-bad, by-list-good, by-fields-cut, by-fields-whole, or-short-short, or-short-fits}

-- ==== the four courses

-- a call answers `a`: it is refused by the block's length, by the list, by the walk over the fields, or it goes through to the rest
pub data Course {A : Type 0} (refuse : ℕ → ℕ → A) (s list : List ℕ) (rest a : A) : Type 0 where
  long : byte_limit < length s → a ≡ refuse 1 0 → Course refuse s list rest a
  bad : length s ≤ byte_limit → (own_list list).number ≡ 5 → a ≡ refuse 5 (own_list list).place → Course refuse s list rest a
  cut : length s ≤ byte_limit → (own_list list).number ≡ 0 → (n : ℕ) → (fields s).number ≡ n → 2 ≤ n → n ≤ 4 → a ≡ refuse n (fields s).place
      → Course refuse s list rest a
  through : Known s list → a ≡ rest → Course refuse s list rest a

-- each call goes in one of them
pub course : {A : Type 0} (refuse : ℕ → ℕ → A) (s list : List ℕ) (rest : List (List ℕ) → List Field → A)
    → Course refuse s list (rest (own_list list).items (fields s).items) (by_list refuse s list (λ own. by_fields refuse s (rest own)))
course {A} refuse s list rest = big (ltb byte_limit (length s)) refl
  where
    by : List (List ℕ) → A
    by own = by_fields refuse s (rest own)

    walk : length s ≤ byte_limit → (own_list list).number ≡ 0 → (n : ℕ) → (fields s).number ≡ n
        → Course refuse s list (rest (own_list list).items (fields s).items) (by_list refuse s list by)
    walk a b zero c = through (a, (b, c)) (by-list-good refuse s list by a b ∙ by-fields-whole refuse s (rest (own_list list).items) c)
    walk a b (suc n) c =
        let k = fields-numbers s n c in
        cut a b (suc n) c k.0 k.1 (by-list-good refuse s list by a b ∙ by-fields-cut refuse s (rest (own_list list).items) n c)

    own : length s ≤ byte_limit → (n : ℕ) → (own_list list).number ≡ n
        → Course refuse s list (rest (own_list list).items (fields s).items) (by_list refuse s list by)
    own a zero b = walk a b (fields s).number refl
    own a (suc n) b = let f = b ∙ list-five list n b in bad a f (by-list-bad refuse s list by a f)

    big : (t : Bool) → ltb byte_limit (length s) ≡ t → Course refuse s list (rest (own_list list).items (fields s).items) (by_list refuse s list by)
    big true l = let h = ltb-true byte_limit (length s) l in long h (by-list-long refuse s list by h)
    big false l = own (ltb-false byte_limit (length s) l) (own_list list).number refl

-- ==== when each number is given

-- what is told of a call whose answer is `a`, and of which `rest` is what it answers where nothing is refused before
pub record InOrder {A : Type 0} (number : A → ℕ) (refuse : ℕ → ℕ → A) (s list : List ℕ) (rest a : A) : Type 0 where
  pub one-when : number a ≡ 1 → byte_limit < length s
  pub when-one : byte_limit < length s → a ≡ refuse 1 0
  pub five-when : number a ≡ 5 → (length s ≤ byte_limit) × ((own_list list).number ≡ 5)
  pub when-five : length s ≤ byte_limit → (own_list list).number ≡ 5 → a ≡ refuse 5 (own_list list).place
  pub walk-when : (n : ℕ) → 2 ≤ n → n ≤ 4 → number a ≡ n → (length s ≤ byte_limit) × (((own_list list).number ≡ 0) × ((fields s).number ≡ n))
  pub when-walk : (n : ℕ) → 2 ≤ n → n ≤ 4 → length s ≤ byte_limit → (own_list list).number ≡ 0 → (fields s).number ≡ n → a ≡ refuse n (fields s).place
  pub through-when : (1 ≤ number a → number a ≤ 5 → ⊥) → Known s list × (a ≡ rest)
  pub when-through : Known s list → a ≡ rest

-- the number of a refusal is the one that it is made from, and the rest has none from 1 to 5
module _ {A : Type 0} (number : A → ℕ) (refuse : ℕ → ℕ → A) (told : (n p : ℕ) → number (refuse n p) ≡ n) where
  module _ (s list : List ℕ) (rest a : A) (later : 1 ≤ number rest → number rest ≤ 5 → ⊥) where
    pub in_order : Course refuse s list rest a → InOrder number refuse s list rest a
    in_order (long l q) =
        let z : number a ≡ 1 = ap number q ∙ told 1 0 in
        record {
          one-when = λ e. l;
          when-one = λ h. q;
          five-when = λ e. absurd (omega arith);
          when-five = λ h k. absurd (omega arith);
          walk-when = λ n i j e. absurd (omega arith);
          when-walk = λ n i j h k w. absurd (omega arith);
          through-when = λ e. absurd (e (omega arith) (omega arith));
          when-through = λ k. absurd (omega (arith, k.0));
        }
    in_order (bad l o q) =
        let z : number a ≡ 5 = ap number q ∙ told 5 (own_list list).place in
        record {
          one-when = λ e. absurd (omega arith);
          when-one = λ h. absurd (omega arith);
          five-when = λ e. (l, o);
          when-five = λ h k. q;
          walk-when = λ n i j e. absurd (omega arith);
          when-walk = λ n i j h k w. absurd (omega arith);
          through-when = λ e. absurd (e (omega arith) (omega arith));
          when-through = λ k. absurd (omega (arith, k.1.0));
        }
    in_order (cut l o m f i j q) =
        let z : number a ≡ m = ap number q ∙ told m (fields s).place in
        record {
          one-when = λ e. absurd (omega arith);
          when-one = λ h. absurd (omega arith);
          five-when = λ e. absurd (omega arith);
          when-five = λ h k. absurd (omega arith);
          walk-when = λ n x y e. (l, (o, f ∙ (sym z ∙ e)));
          when-walk = λ n x y h k w. q ∙ ap (λ (t : ℕ). refuse t (fields s).place) (sym f ∙ w);
          through-when = λ e. absurd (e (omega arith) (omega arith));
          when-through = λ k. absurd (omega (arith, k.1.1));
        }
    in_order (through k q) =
        let z : number a ≡ number rest = ap number q in
        record {
          one-when = λ e. absurd (later (omega arith) (omega arith));
          when-one = λ h. absurd (omega (arith, k.0));
          five-when = λ e. absurd (later (omega arith) (omega arith));
          when-five = λ h o. absurd (omega (arith, k.1.0));
          walk-when = λ n i j e. absurd (later (omega arith) (omega arith));
          when-walk = λ n i j h o w. absurd (omega (arith, k.1.1));
          through-when = λ e. (k, q);
          when-through = λ h. q;
        }

-- ==== calls whose rest is 6, or done

-- what is told of a call that needs `size` bytes of the lent output and answers `done` where they are there
pub record InOrderToSix {A : Type 0} (number place : A → ℕ) (refuse : ℕ → ℕ → A) (s list : List ℕ) (room size : ℕ) (done a : A) : Type 0 where
  pub first : InOrder number refuse s list (or_short refuse room size done) a
  pub six-when : number a ≡ 6 → Known s list × (room < size)
  pub when-six : Known s list → room < size → a ≡ refuse 6 size
  pub zero-when : number a ≡ 0 → Known s list × (size ≤ room)
  pub when-zero : Known s list → size ≤ room → a ≡ done
  -- there is no other number than 0 to 6
  pub numbers : number a ≤ 6
  -- a refusal, whatever its number, is what is made from its number and its place
  pub refused : (number a ≡ 0 → ⊥) → a ≡ refuse (number a) (place a)

module _ {A : Type 0} (number place : A → ℕ) (refuse : ℕ → ℕ → A) (told : (n p : ℕ) → number (refuse n p) ≡ n) (placed : (n p : ℕ) → place (refuse n p) ≡ p) where
  module _ (room size : ℕ) (done : A) where
    -- 6 is given where there is too little room, or where what is answered else has it
    pub short-when : (number done ≡ 6 → ⊥) → number (or_short refuse room size done) ≡ 6 → room < size
    short-when ne e = go (ltb room size) refl
      where
        go : (t : Bool) → ltb room size ≡ t → room < size
        go true l = ltb-true room size l
        go false l = absurd (ne (sym (ap number (or-short-fits refuse room size done (ltb-false room size l))) ∙ e))

    pub fits-when : number (or_short refuse room size done) ≡ 0 → size ≤ room
    fits-when e = go (ltb room size) refl
      where
        go : (t : Bool) → ltb room size ≡ t → size ≤ room
        go true l = absurd (let z : 0 ≡ 6 = sym e ∙ (ap number (or-short-short refuse room size done (ltb-true room size l)) ∙ told 6 size) in omega arith)
        go false l = ltb-false room size l

    -- where what is answered else has none of 1 to 5, the whole has none
    pub short-later : (1 ≤ number done → number done ≤ 5 → ⊥) → 1 ≤ number (or_short refuse room size done) → number (or_short refuse room size done) ≤ 5 → ⊥
    short-later later i j = go (ltb room size) refl
      where
        go : (t : Bool) → ltb room size ≡ t → ⊥
        go true l = let z : number (or_short refuse room size done) ≡ 6 = ap number (or-short-short refuse room size done (ltb-true room size l)) ∙ told 6 size in omega arith
        go false l = let z = ap number (or-short-fits refuse room size done (ltb-false room size l)) in later (omega arith) (omega arith)

  module _ (s list : List ℕ) (room size : ℕ) (done a : A) (zeroed : number done ≡ 0) where
    pub in-order-to-six : Course refuse s list (or_short refuse room size done) a → InOrderToSix number place refuse s list room size done a
    in-order-to-six c =
        let o = in_order number refuse told s list (or_short refuse room size done) a (short-later room size done (λ i j. omega arith)) c in
        record {
          first = o;
          six-when = λ e. (let w = o.through-when (λ i j. omega arith) in (w.0, short-when room size done (λ z. omega arith) (sym (ap number w.1) ∙ e)));
          when-six = λ k h. o.when-through k ∙ or-short-short refuse room size done h;
          zero-when = λ e. (let w = o.through-when (λ i j. omega arith) in (w.0, fits-when room size done (sym (ap number w.1) ∙ e)));
          when-zero = λ k h. o.when-through k ∙ or-short-fits refuse room size done h;
          numbers = most c;
          refused = silent c;
        }
      where
        given : (n p : ℕ) → a ≡ refuse n p → a ≡ refuse (number a) (place a)
        given n p q = let i = ap number q ∙ told n p in let j = ap place q ∙ placed n p in q ∙ sym (ap (λ (x : ℕ). refuse x (place a)) i ∙ ap (refuse n) j)

        silent : Course refuse s list (or_short refuse room size done) a → (number a ≡ 0 → ⊥) → a ≡ refuse (number a) (place a)
        silent (long l q) ne = given 1 0 q
        silent (bad l o q) ne = given 5 (own_list list).place q
        silent (cut l o n f i j q) ne = given n (fields s).place q
        silent (through k q) ne = go (ltb room size) refl
          where
            go : (t : Bool) → ltb room size ≡ t → a ≡ refuse (number a) (place a)
            go true l = given 6 size (q ∙ or-short-short refuse room size done (ltb-true room size l))
            go false l = absurd (ne (ap number (q ∙ or-short-fits refuse room size done (ltb-false room size l)) ∙ zeroed))

        most : Course refuse s list (or_short refuse room size done) a → number a ≤ 6
        most (long l q) = omega (arith, ap number q, told 1 0)
        most (bad l o q) = omega (arith, ap number q, told 5 (own_list list).place)
        most (cut l o n f i j q) = omega (arith, ap number q, told n (fields s).place)
        most (through k q) = go (ltb room size) refl
          where
            go : (t : Bool) → ltb room size ≡ t → number a ≤ 6
            go true l = omega (arith, ap number (q ∙ or-short-short refuse room size done (ltb-true room size l)), told 6 size)
            go false l = omega (arith, ap number (q ∙ or-short-fits refuse room size done (ltb-false room size l)), zeroed)
