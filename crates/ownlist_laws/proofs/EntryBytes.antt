-- The bytes of an entry: visible ones and those from 128 up.
use Prim.Native.Nat.{ℕ, zero, suc, ◌≤◌, ◌<◌, zero-le, suc-le-suc}
use native.Mathlib.Omega.{arith}
use mathlib.Core.Path.{◌≡◌, refl}
use mathlib.Core.Bool.{Bool, true, false, ◌&&◌, ◌||◌}
use mathlib.Core.List.{List, [], ◌∷◌}
use lib.Dec.{leb, eqb}
use lib.ListN.{get_or, take}
use borrow.Author.Tests.{leb-true, lt-leb}
use Rattle.base_sequences.proofs.Booleans.{and_left, and_right}
use Rattle.base_readers.specs.Texts.{within}
use Rattle.base_readers.specs.Readers.{Reader, many}
use Rattle.base_readers.proofs.Texts.{all}
use Rattle.lexis_rules.specs.declared.Class.TheVariants.{Visible}
use Rattle.lexis_rules.specs.Bytes.{in_class}
use Rattle.ownlist_rules.specs.Utf8.{lead, second, further, sequence}
use Rattle.ownlist_rules.specs.OwnList.{entry_item, entry_text}
use Rattle.ownlist_laws.proofs.Entries.{lead-most}

module _ (p : ℕ → Bool) where
  all_more : (x : ℕ) (xs : List ℕ) → p x ≡ true → all p xs ≡ true → all p (x ∷ xs) ≡ true
  all_more x xs h t = rw (h, t)

  -- the first n bytes, asked for one by one
  all-front : (n : ℕ) (xs : List ℕ) → ((k : ℕ) → k < n → p (get_or xs k 0) ≡ true) → all p (take n xs) ≡ true
  all-front zero [] h = refl
  all-front zero (x ∷ xs) h = refl
  all-front (suc n) [] h = refl
  all-front (suc n) (x ∷ xs) h = all_more x (take n xs) (h 0 (suc-le-suc zero-le)) (all-front n xs (λ k l. h (suc k) (suc-le-suc l)))

  -- what a repetition takes, where each thing that it repeats is of such bytes
  all-many : (f : Reader) → ((xs : List ℕ) → all p (take (f xs) xs) ≡ true) → (k : ℕ) (xs : List ℕ) → all p (take k xs) ≡ true
      → all p (take (many f k xs) xs) ≡ true
  unfolding many
  all-many f h k [] a = a
  all-many f h (suc k) (x ∷ xs) a = all_more x (take (many f k xs) xs) (and_left (p x) (all p (take k xs)) a) (all-many f h k xs (and_right (p x) (all p (take k xs)) a))
  all-many f h zero (x ∷ xs) a = go (λ k. all-many f h k xs) (f (x ∷ xs)) refl
    where
      go : ((k : ℕ) → all p (take k xs) ≡ true → all p (take (many f k xs) xs) ≡ true) → (n : ℕ) → f (x ∷ xs) ≡ n → all p (take (many f zero (x ∷ xs)) (x ∷ xs)) ≡ true
      go ih zero e = rw (many, e)
      go ih (suc n) e =
          let b : all p (take (suc n) (x ∷ xs)) ≡ true = rw e at (h (x ∷ xs)) in
          rw (many, e) (all_more x (take (many f n xs) xs) (and_left (p x) (all p (take n xs)) b) (ih n (and_right (p x) (all p (take n xs)) b)))

  -- ==== an entry

  module _ (visible : (b : ℕ) → in_class Visible b ≡ true → p b ≡ true) (high : (b : ℕ) → 128 ≤ b → p b ≡ true) where
    from-high : (a b x : ℕ) → 128 ≤ a → within a b x ≡ true → p x ≡ true
    unfolding within
    from-high a b x h e = high x (omega (arith, leb-true a x (and_left (leb a x) (leb x b) e)))

    first-high : (a : ℕ) → (lead a ≡ 0 → ⊥) → p a ≡ true
    unfolding lead
    first-high a n = two (within 0xC2 0xDF a) refl
      where
        four : within 0xC2 0xDF a ≡ false → within 0xE0 0xEF a ≡ false → (t : Bool) → within 0xF0 0xF4 a ≡ t → p a ≡ true
        four u v true w = from-high 0xF0 0xF4 a (omega arith) w
        four u v false w = absurd (n (rw (lead, u, v, w)))

        three : within 0xC2 0xDF a ≡ false → (t : Bool) → within 0xE0 0xEF a ≡ t → p a ≡ true
        three u true v = from-high 0xE0 0xEF a (omega arith) v
        three u false v = four u v (within 0xF0 0xF4 a) refl

        two : (t : Bool) → within 0xC2 0xDF a ≡ t → p a ≡ true
        two true u = from-high 0xC2 0xDF a (omega arith) u
        two false u = three u (within 0xE0 0xEF a) refl

    second-high : (a b : ℕ) → second a b ≡ true → p b ≡ true
    unfolding second
    second-high a b = one (eqb a 0xE0) (eqb a 0xED) (eqb a 0xF0) (eqb a 0xF4)
      where
        one : (q r s t : Bool)
            → elim q [
              | true ↦ within 0xA0 0xBF b
              | false ↦ (elim r [
                | true ↦ within 0x80 0x9F b
                | false ↦ (elim s [ true ↦ within 0x90 0xBF b | false ↦ (elim t [ true ↦ within 0x80 0x8F b | false ↦ within 0x80 0xBF b ]) ])
              ])
            ]
            ≡ true
            → p b ≡ true
        one true r s t e = from-high 0xA0 0xBF b (omega arith) e
        one false true s t e = from-high 0x80 0x9F b (omega arith) e
        one false false true t e = from-high 0x90 0xBF b (omega arith) e
        one false false false true e = from-high 0x80 0x8F b (omega arith) e
        one false false false false e = from-high 0x80 0xBF b (omega arith) e

    tail-high : (n k x : ℕ) → k < n → (leb n k || within 0x80 0xBF x) ≡ true → p x ≡ true
    tail-high n k x h e = let t : within 0x80 0xBF x ≡ true = rw (lt-leb n k h) at e in from-high 0x80 0xBF x (omega arith) t

    sequence-all : (xs : List ℕ) → all p (take (sequence xs) xs) ≡ true
    unfolding sequence further
    sequence-all xs = go (second (get_or xs 0 0) (get_or xs 1 0) && further (lead (get_or xs 0 0)) xs) refl
      where
        byte : (n : ℕ) → lead (get_or xs 0 0) ≡ n → second (get_or xs 0 0) (get_or xs 1 0) ≡ true → (leb n 2 || within 0x80 0xBF (get_or xs 2 0)) ≡ true
            → (leb n 3 || within 0x80 0xBF (get_or xs 3 0)) ≡ true → n ≤ 4 → (k : ℕ) → k < n → p (get_or xs k 0) ≡ true
        byte n e s f g m zero h = first-high (get_or xs 0 0) (λ z. omega arith)
        byte n e s f g m (suc zero) h = second-high (get_or xs 0 0) (get_or xs 1 0) s
        byte n e s f g m (suc (suc zero)) h = tail-high n 2 (get_or xs 2 0) h f
        byte n e s f g m (suc (suc (suc zero))) h = tail-high n 3 (get_or xs 3 0) h g
        byte n e s f g m (suc (suc (suc (suc k)))) h = absurd (omega arith)

        go : (t : Bool) → (second (get_or xs 0 0) (get_or xs 1 0) && further (lead (get_or xs 0 0)) xs) ≡ t → all p (take (sequence xs) xs) ≡ true
        go false e = rw (sequence, e) (all-front 0 xs (λ k h. absurd (omega arith)))
        go true e =
            let s = and_left (second (get_or xs 0 0) (get_or xs 1 0)) (further (lead (get_or xs 0 0)) xs) e in
            let f : ((leb (lead (get_or xs 0 0)) 2 || within 0x80 0xBF (get_or xs 2 0)) && (leb (lead (get_or xs 0 0)) 3 || within 0x80 0xBF (get_or xs 3 0))) ≡ true =
            and_right (second (get_or xs 0 0) (get_or xs 1 0)) (further (lead (get_or xs 0 0)) xs) e in
            rw (sequence, e)
            (all-front (lead (get_or xs 0 0)) xs
            (byte (lead (get_or xs 0 0)) refl s
            (and_left (leb (lead (get_or xs 0 0)) 2 || within 0x80 0xBF (get_or xs 2 0)) (leb (lead (get_or xs 0 0)) 3 || within 0x80 0xBF (get_or xs 3 0)) f)
            (and_right (leb (lead (get_or xs 0 0)) 2 || within 0x80 0xBF (get_or xs 2 0)) (leb (lead (get_or xs 0 0)) 3 || within 0x80 0xBF (get_or xs 3 0)) f)
            (lead-most (get_or xs 0 0))))

    item-all : (xs : List ℕ) → all p (take (entry_item xs) xs) ≡ true
    unfolding entry_item
    item-all xs = go (in_class Visible (get_or xs 0 0)) refl
      where
        one : in_class Visible (get_or xs 0 0) ≡ true → (k : ℕ) → k < 1 → p (get_or xs k 0) ≡ true
        one e zero h = visible (get_or xs 0 0) e
        one e (suc k) h = absurd (omega arith)

        go : (t : Bool) → in_class Visible (get_or xs 0 0) ≡ t → all p (take (entry_item xs) xs) ≡ true
        go true e = rw (entry_item, e) (all-front 1 xs (one e))
        go false e = rw (entry_item, e) (sequence-all xs)

    -- each byte of an entry's text is visible or from 128 up
    pub text-all : (xs : List ℕ) → all p (take (entry_text xs) xs) ≡ true
    text-all xs = all-many entry_item item-all 0 xs (all-front 0 xs (λ k h. absurd (omega arith)))
