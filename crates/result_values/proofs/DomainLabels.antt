-- Local parts and domains, by the tests that the code makes in turn: classes of bytes, the loop over the dots of a local part, and the
-- loop over the labels of a domain.
use Prim.Native.Nat.{ℕ, suc, ◌+◌, ◌/◌, ◌%◌, ◌^◌, ◌≤◌, ◌<◌}
use native.Mathlib.Numerals.{add-one}
use native.Mathlib.Omega.{arith}
use mathlib.Core.Path.{◌≡◌, refl, sym, ap, ◌∙◌}
use mathlib.Core.Bool.{Bool, true, false, not, cond, ◌&&◌, ◌||◌}
use mathlib.Core.List.{List, [], ◌∷◌}
use lib.Dec.{eqb}
use lib.ListN.{length, get_or, take, drop, drop_of_length-le}
use lib.Seq.{drop-cons}
use borrow.Author.Tests.{eq-eqb, ne_eqb, eqb-true, eqb-false, lt-ltb, le-ltb}
use Rattle.base_sequences.proofs.Booleans.{no_true, and_none, or-none}
use Rattle.base_sequences.proofs.Tables.{agree}
use Rattle.base_readers.specs.Texts.{one_of}
use Rattle.base_readers.specs.Readers.{run}
use Rattle.base_readers.specs.Places.{Reaches}
use Rattle.base_readers.proofs.Readers.{run_more, passing-yes, passing-no}
use Rattle.base_readers.proofs.Loops.{reaches-start, run_on, run-off, run_out}
use Rattle.lexis_rules.specs.declared.Class.TheVariants.{Keyword}
use Rattle.lexis_rules.specs.Bytes.{in_class}
use Rattle.lexis_classes.specs.Internal.{bits_of}
use Rattle.result_rules.specs.Results.{alphanumeric, in_local_part, in_domain, single_dots, labels, is_domain, domain}
use Rattle.result_values.specs.Domains.{local_word, goes_on, closed_at}
use Rattle.result_rules.proofs.Unfolding.{opened}

-- ==== bytes of a local part

module _ (b : ℕ) where
  pub local-first : b < 64 → 11817424505729449984 ≡ local_word b
  unfolding opened bits_of
  local-first h = rw (lt-ltb b 64 h)

  module _ (l : 64 ≤ b) where
    pub local_second : b < 128 → 9223372035915251710 ≡ local_word b
    unfolding opened bits_of
    local_second h = rw (le-ltb b 64 l, lt-ltb b 128 h)

    pub local-none : 128 ≤ b → 0 ≡ local_word b
    local-none h = rw (le-ltb b 64 l, le-ltb b 128 h)

-- the binary digit of each byte says whether it may stand in a local part
pub local-bit : (b w : ℕ) → w ≡ local_word b → b < 256 → eqb (w / 2 ^ (b % 64) % 2) 1 ≡ in_local_part b
unfolding opened bits_of
local-bit b w e h = rw e (agree (λ b. eqb (local_word b / 2 ^ (b % 64) % 2) 1) in_local_part 256 b h tt)

-- ==== bytes of a domain

module _ (b : ℕ) where
  pub hyphen-alphanumeric : b ≡ 45 → false ≡ alphanumeric b
  unfolding opened
  hyphen-alphanumeric e = rw e

  module _ (r : Bool) (h : r ≡ in_class Keyword b) where
    pub other-alphanumeric : (b ≡ 45 → ⊥) → r ≡ alphanumeric b
    unfolding alphanumeric in_class
    other-alphanumeric ne = h ∙ rw (ne_eqb b 45 ne) (or-none _)

-- which byte may follow b
module _ (b x : ℕ) (r : Bool) (h : r ≡ alphanumeric x) where
  pub goes-alphanumeric : r ≡ true → true ≡ goes_on b x
  unfolding goes_on
  goes-alphanumeric t = rw (← h, t)

  module _ (f : r ≡ false) where
    no : alphanumeric x ≡ false
    no = sym h ∙ f

    pub goes-dot : x ≡ 46 → (q : Bool) → q ≡ alphanumeric b → q ≡ goes_on b x
    unfolding goes_on
    goes-dot e q k = k ∙ sym (rw (no, eq-eqb x 46 e, e) (or-none (alphanumeric b)))

    module _ (d : x ≡ 46 → ⊥) where
      pub goes-hyphen : x ≡ 45 → not (eqb b 46) ≡ goes_on b x
      unfolding goes_on
      goes-hyphen e = sym (rw (no, ne_eqb x 46 d, eq-eqb x 45 e))

      pub goes-not : (x ≡ 45 → ⊥) → false ≡ goes_on b x
      unfolding goes_on
      goes-not n = sym (rw (no, ne_eqb x 46 d, ne_eqb x 45 n))

-- ==== the dots of a local part

-- the invariant of the loop over a local part: it is as sound from i on, behind a dot or not, as it is from the front on
pub record Dots (l : List ℕ) (i : ℕ) (dot : Bool) : Type 0 where
  pub same : single_dots dot (drop i l) ≡ single_dots true l

pub dots-start : (l : List ℕ) → Dots l 0 true
dots-start l = record { same = refl }

module _ (l : List ℕ) (i : ℕ) (dot : Bool) (w : Dots l i dot) where
  module _ (h : i < length l) (r : Bool) (k : r ≡ (dot && eqb (get_or l i 0) 46)) where
    rest : List ℕ
    rest = drop (suc i) l

    first : single_dots dot (get_or l i 0 ∷ rest) ≡ single_dots true l
    unfolding rest
    first = rw (← drop-cons l i 0 h) w.same

    step : (dot : Bool) (t : Bool) → (dot && t) ≡ false → (x : ℕ) → eqb x 46 ≡ t → (ys : List ℕ) → single_dots t ys ≡ single_dots dot (x ∷ ys)
    unfolding single_dots
    step true true e x q ys = absurd (let o : ◌≡◌ {A = ℕ} 0 1 = sym (ap (λ (b : Bool). cond b 1 0) e) in omega arith)
    step true false e x q ys = rw (single_dots, q)
    step false true e x q ys = rw (single_dots, q)
    step false false e x q ys = rw (single_dots, q)

    stop : (dot : Bool) (t : Bool) → (dot && t) ≡ true → (x : ℕ) → eqb x 46 ≡ t → (ys : List ℕ) → false ≡ single_dots dot (x ∷ ys)
    unfolding single_dots
    stop true true e x q ys = rw (single_dots, q)
    stop true false e x q ys = absurd (let o : ◌≡◌ {A = ℕ} 0 1 = ap (λ (b : Bool). cond b 1 0) e in omega arith)
    stop false t e x q ys = absurd (let o : ◌≡◌ {A = ℕ} 0 1 = ap (λ (b : Bool). cond b 1 0) e in omega arith)

    pub dots-on : r ≡ false → Dots l (i + 1) (eqb (get_or l i 0) 46)
    unfolding rest
    dots-on f = record { same = rw add-one (step dot (eqb (get_or l i 0) 46) (sym k ∙ f) (get_or l i 0) refl rest ∙ first) }

    pub dots-off : r ≡ true → false ≡ single_dots true l
    dots-off t = stop dot (eqb (get_or l i 0) 46) (sym k ∙ t) (get_or l i 0) refl rest ∙ first

  pub dots-out : length l ≤ i → not dot ≡ single_dots true l
  unfolding single_dots
  dots-out h = sym (ap (single_dots dot) (drop_of_length-le l h)) ∙ w.same

-- ==== the labels of a domain

eqb-turned : (x y : ℕ) → eqb x y ≡ eqb y x
eqb-turned x y = go (eqb x y) refl
  where
    go : (t : Bool) → eqb x y ≡ t → eqb x y ≡ eqb y x
    go true e = e ∙ sym (eq-eqb y x (sym (eqb-true x y e)))
    go false e = e ∙ sym (ne_eqb y x (λ z. eqb-false x y e (sym z)))

or-moved : (p a b : Bool) → (p || a || b) ≡ (p || (a || b))
or-moved true a b = refl
or-moved false a b = refl

-- where a domain ends
module _ (parted : Bool) (last at e : ℕ) where
  pub closed-one : parted ≡ false → at ≡ closed_at parted last at e
  closed-one f = rw f

  module _ (t : parted ≡ true) (r : Bool) (h : r ≡ alphanumeric last) where
    pub closed-there : r ≡ true → e ≡ closed_at parted last at e
    closed-there u = rw (t, ← h, u)

    pub closed-other : r ≡ false → at ≡ closed_at parted last at e
    closed-other u = rw (t, ← h, u)

-- where no dot was passed it doesn't matter where
pub closed-same : (parted : Bool) (last at m n : ℕ) → (parted ≡ true → m ≡ n) → closed_at parted last at m ≡ closed_at parted last at n
closed-same true last at m n h = ap (closed_at true last at) (h refl)
closed-same false last at m n h = refl

-- the bytes of a domain by the tests of `goes_on`
in-domain-is : (x : ℕ) → in_domain x ≡ (alphanumeric x || eqb x 45 || eqb x 46)
unfolding in_domain alphanumeric in_class
in-domain-is x = refl

dot-ends-none : alphanumeric 46 ≡ false
unfolding opened
dot-ends-none = refl

-- what may follow a byte in labels may stand in a domain
goes_in : (b x : ℕ) → goes_on b x ≡ true → in_domain x ≡ true
unfolding goes_on
goes_in b x e = in-domain-is x ∙ go (alphanumeric x) (eqb x 46) (alphanumeric b) (eqb x 45) (not (eqb b 46)) e
  where
    go : (a d p h q : Bool) → (a || d && p || h && q) ≡ true → (a || h || d) ≡ true
    go true d p h q e = refl
    go false true p true q e = refl
    go false true p false q e = refl
    go false false p true q e = refl
    go false false p false q e = absurd (no_true e)

-- and where a byte of a domain may not follow another, that one ends no label
goes-unended : (b x : ℕ) → goes_on b x ≡ false → in_domain x ≡ true → alphanumeric b ≡ false
unfolding goes_on
goes-unended b x e n = go (alphanumeric b) refl (eqb b 46) refl
  where
    none : (a d h : Bool) → (a || d && true || h && true) ≡ false → (a || h || d) ≡ true → ⊥
    none true d h e n = no_true (sym e)
    none false true h e n = no_true (sym e)
    none false false true e n = no_true (sym e)
    none false false false e n = no_true n

    go : (p : Bool) → alphanumeric b ≡ p → (t : Bool) → eqb b 46 ≡ t → alphanumeric b ≡ false
    go false k t z = k
    go true k true z = ap alphanumeric (eqb-true b 46 z) ∙ dot-ends-none
    go true k false z = absurd (none (alphanumeric x) (eqb x 46) (eqb x 45) (rw (k, z) at e) (sym (in-domain-is x) ∙ n))

-- the bytes of a domain at the front of a list
abbrev front : List ℕ → List ℕ
front xs = take (run in_domain xs) xs

front-more : (x : ℕ) (xs : List ℕ) → in_domain x ≡ true → front (x ∷ xs) ≡ x ∷ front xs
front-more x xs e = rw (run_more in_domain x xs e)

-- the invariant of the loop over a domain: every byte up to i may stand in one; from i on, behind a byte, there are labels, and a dot was
-- passed or comes, just where the whole is two or more labels
pub record Labels (s : List ℕ) (at i before : ℕ) (parted : Bool) : Type 0 where
  pub reach : Reaches (run in_domain) s at i
  pub same : (labels before (front (drop i s)) && (parted || one_of (front (drop i s)) 46)) ≡ is_domain (front (drop at s))

pub labels-start : (s : List ℕ) (at : ℕ) → Labels s at at 46 false
unfolding is_domain
labels-start s at = record { reach = reaches-start; same = refl }

module _ (s : List ℕ) (at i before : ℕ) (parted : Bool) (w : Labels s at i before parted) where
  -- the run ends at i
  closed : i ≡ at + run in_domain (drop at s) → front (drop i s) ≡ [] → (e : ℕ) → e ≡ closed_at parted before at i → e ≡ at + domain (drop at s)
  unfolding labels one_of
  closed z n e q = go (parted && alphanumeric before) refl
    where
      moved : (a p : Bool) → (p && a) ≡ (a && (p || false))
      moved true true = refl
      moved true false = refl
      moved false true = refl
      moved false false = refl

      is : (parted && alphanumeric before) ≡ is_domain (front (drop at s))
      is = moved (alphanumeric before) parted ∙ (rw n at w.same)

      go : (t : Bool) → (parted && alphanumeric before) ≡ t → e ≡ at + domain (drop at s)
      go true t = let j : e ≡ i = rw t at q in omega (arith, passing-yes is_domain (run in_domain) (drop at s) (sym is ∙ t))
      go false t = let j : e ≡ at = rw t at q in omega (arith, passing-no is_domain (run in_domain) (drop at s) (sym is ∙ t))

  module _ (h : i < length s) where
    x : ℕ
    x = get_or s i 0

    ys : List ℕ
    ys = front (drop (suc i) s)

    module _ (n : in_domain (get_or s i 0) ≡ true) where
      ahead : (labels before (x ∷ ys) && (parted || one_of (x ∷ ys) 46)) ≡ is_domain (front (drop at s))
      unfolding x ys
      ahead = rw (drop-cons s i 0 h, front-more (get_or s i 0) (drop (suc i) s) n) at w.same

    module _ (r : Bool) (k : r ≡ goes_on before (get_or s i 0)) where
      labels_next : (t : Bool) → r ≡ t → labels before (x ∷ ys) ≡ (t && labels x ys)
      unfolding labels goes_on x ys
      labels_next t e = let g : goes_on before (get_or s i 0) ≡ t = sym k ∙ e in ap (λ (b : Bool). b && labels x ys) g

      pub labels-on : r ≡ true → (p : Bool) → p ≡ (parted || eqb (get_or s i 0) 46) → Labels s at (i + 1) (get_or s i 0) p
      unfolding x ys one_of
      labels-on t p q =
          let n : in_domain (get_or s i 0) ≡ true = goes_in before (get_or s i 0) (sym k ∙ t) in
          let o : (p || one_of ys 46) ≡ (parted || one_of (x ∷ ys) 46)
          = ap (λ (b : Bool). b || one_of ys 46) (q ∙ ap (λ (b : Bool). parted || b) (eqb-turned x 46)) ∙ or-moved parted (eqb 46 x) (one_of ys 46) in
          record { reach = run_on in_domain s at i true w.reach h (sym n) refl; same = rw (add-one, o, ← labels_next true t) (ahead n) }

      -- a byte that may not follow: the run ends here, or it is none of a domain's, and then nothing is closed
      pub labels-off : r ≡ false → (e : ℕ) → e ≡ closed_at parted before at i → e ≡ at + domain (drop at s)
      unfolding run
      labels-off f e q = go (in_domain (get_or s i 0)) refl
        where
          go : (t : Bool) → in_domain (get_or s i 0) ≡ t → e ≡ at + domain (drop at s)
          go true n =
              let d : is_domain (front (drop at s)) ≡ false
              = sym (ahead n) ∙ ap (λ (b : Bool). b && (parted || one_of (x ∷ ys) 46)) (labels_next false f) in
              let a : alphanumeric before ≡ false = goes-unended before (get_or s i 0) (sym k ∙ f) n in
              let j : e ≡ at = rw (a, and_none parted) at q in
              omega (arith, passing-no is_domain (run in_domain) (drop at s) d)
          go false n = closed (run-off in_domain s at i false w.reach h (sym n) refl) (rw (drop-cons s i 0 h, run, n)) e q

  pub labels-out : length s ≤ i → (e : ℕ) → e ≡ closed_at parted before at i → e ≡ at + domain (drop at s)
  unfolding run
  labels-out h e k = closed (run_out in_domain s at i w.reach h) (rw drop_of_length-le) e k
