-- Reasons (a) to (e) of a failed chain, each by itself, at worked examples: fields for which it applies, and their neighbours. Then the outcome of such
-- fields, which is that of the first reason that applies.
use Prim.Native.Nat.{ℕ, suc}
use native.Mathlib.Omega.{arith}
use mathlib.Core.Path.{◌≡◌, refl, sym, ap, ◌∙◌}
use mathlib.Core.Bool.{Bool, true, false, ◌&&◌}
use mathlib.Core.List.{List, [], ◌∷◌, ◌++◌, map}
use lib.Dec.{eqb}
use lib.ListN.{length, length-append}
use Rattle.base_sequences.proofs.Booleans.{no_true}
use Rattle.base_readers.specs.Texts.{bytes}
use Rattle.block_rules.specs.Fields.{Field}
use Rattle.arc_rules.specs.Chain.{none, failed, built, outcome}
use Rattle.arc_rules.specs.Accepted.{reads, stands_at}
use Rattle.arc_rules.specs.Reasons.{unread, repeats, first_where, first_unread, first_repeating, FirstAt, instance_of, highest_instance, lacks, any_instance, empty_place, seal_has, any_seal, last_fails, other_value}
use Rattle.arc_rules.proofs.Unfolding as chain
use Rattle.arc_rules.proofs.AcceptedExamples.{field, results, signature, seal, one}

unfoldable pub opened : Unit {0}
unfolding chain.opened reads stands_at repeats first_where highest_instance any_instance seal_has any_seal
opened = tt

-- ==== fields

-- of each kind, at an instance
abbrev r : List ℕ → Field
r i = results (bytes "i=" ++ (i ++ bytes ";"))

abbrev m : List ℕ → Field
m i = signature (bytes "i=" ++ (i ++ bytes ";a=;b=;bh=;d=;h=;s="))

abbrev s : List ℕ → List ℕ → Field
s i cv = seal (bytes "i=" ++ (i ++ (bytes ";a=;b=;d=;s=;cv=" ++ cv)))

-- a seal that doesn't read, and a field of another name
abbrev bad : Field
bad = seal (bytes "i=1;")

abbrev from : Field
from = field (bytes "From") (bytes "i=9;")

-- a set at an instance
abbrev set : List ℕ → List ℕ → List Field
set i cv = r i ∷ m i ∷ s i cv ∷ []

-- the first of some
abbrev front : List Field → Field
front [] = from
front (f ∷ fs) = f

-- ==== (a) an unreadable field

-- an ARC field that doesn't read, and no other
unreads : map unread (bad ∷ from ∷ r (bytes "0") ∷ r (bytes "1") ∷ r (bytes "50") ∷ r (bytes "51") ∷ one) ≡ true ∷ false ∷ true ∷ false ∷ false ∷ true ∷ false ∷ false ∷ false ∷ []
unfolding opened
unreads = refl

-- the first, by its number among all fields from 1
first-unreads : map first_unread ([] ∷ one ∷ (bad ∷ one) ∷ (from ∷ bad ∷ one) ∷ (one ++ (from ∷ bad ∷ bad ∷ [])) ∷ []) ≡ 0 ∷ 0 ∷ 1 ∷ 2 ∷ 5 ∷ []
unfolding opened
first-unreads = refl

-- the same, said of the field and those before and behind it
first-at : FirstAt (λ before f. unread f) (from ∷ bad ∷ bad ∷ []) 2
unfolding opened
first-at = record { before = from ∷ []; named = bad; after = bad ∷ []; split = refl; counted = refl; holds = refl; first = passed }
  where
    passed : (xs ys : List Field) (f : Field) → from ∷ [] ≡ xs ++ (f ∷ ys) → unread f ≡ false
    passed [] ys f q = let e : from ≡ f = ap front q in ap unread (sym e)
    passed (x ∷ xs) ys f q = absurd (omega (arith, ap length q, length-append xs (f ∷ ys)))

-- neither a later one nor one that reads
not-second : FirstAt (λ before f. unread f) (bad ∷ bad ∷ []) 2 → ⊥
unfolding opened
not-second w = go w.before w.named w.after w.split w.counted w.first
  where
    go : (before : List Field) (f : Field) (after : List Field) → bad ∷ bad ∷ [] ≡ before ++ (f ∷ after) → 2 ≡ suc (length before)
        → ((xs ys : List Field) (g : Field) → before ≡ xs ++ (g ∷ ys) → unread g ≡ false) → ⊥
    go [] f after e c h = omega (arith, c)
    go (b ∷ bs) f after e c h = no_true (sym (h [] bs b refl) ∙ ap unread (sym (ap front e)))

-- ==== (b) the first repeated kind, in block order, at one instance

-- behind one set: a field of each kind at its instance, and at another; one that doesn't read; one of another name
repeated :
    map (repeats one) (r (bytes "01") ∷ m (bytes "1") ∷ s (bytes "1") (bytes "fail") ∷ r (bytes "2") ∷ s (bytes "2") (bytes "none") ∷ bad ∷ from ∷ [])
    ≡ true ∷ true ∷ true ∷ false ∷ false ∷ false ∷ false ∷ []
unfolding opened
repeated = refl

-- another kind at the same instance is no repeated one, and nothing is before the first
repeated-kind : repeats (r (bytes "1") ∷ []) (m (bytes "1")) ∷ repeats [] (r (bytes "1")) ∷ repeats (bad ∷ []) bad ∷ [] ≡ false ∷ false ∷ false ∷ []
unfolding opened
repeated-kind = refl

first-repeatings :
    map first_repeating
    ([] ∷ one ∷ (one ++ one) ∷ (from ∷ r (bytes "1") ∷ r (bytes "2") ∷ from ∷ r (bytes "01") ∷ r (bytes "2") ∷ []) ∷ (bad ∷ from ∷ bad ∷ from ∷ []) ∷ [])
    ≡ 0 ∷ 0 ∷ 4 ∷ 5 ∷ 0 ∷ []
unfolding opened
first-repeatings = refl

-- ==== (c) with N the highest instance, an empty place in 1 to N

instances : map instance_of (r (bytes "1") ∷ m (bytes "02") ∷ s (bytes "50") (bytes "fail") ∷ bad ∷ from ∷ []) ≡ 1 ∷ 2 ∷ 50 ∷ 0 ∷ 0 ∷ []
unfolding opened
instances = refl

-- N, wherever it stands
highests :
    map highest_instance
    ([] ∷ one ∷ (r (bytes "50") ∷ r (bytes "2") ∷ []) ∷ (r (bytes "2") ∷ r (bytes "50") ∷ r (bytes "3") ∷ []) ∷ (r (bytes "3") ∷ bad ∷ from ∷ []) ∷ [])
    ≡ 0 ∷ 1 ∷ 50 ∷ 50 ∷ 3 ∷ []
unfolding opened
highests = refl

-- one of the three places of an instance
lacking :
    map (λ (fs : List Field). lacks fs 1)
    (one ∷ (m (bytes "1") ∷ s (bytes "1") (bytes "none") ∷ []) ∷ (r (bytes "1") ∷ s (bytes "1") (bytes "none") ∷ []) ∷ (r (bytes "1") ∷ m (bytes "1") ∷ [])
    ∷ (r (bytes "1") ∷ m (bytes "1") ∷ s (bytes "2") (bytes "pass") ∷ []) ∷ [])
    ≡ false ∷ true ∷ true ∷ true ∷ true ∷ []
unfolding opened
lacking = refl

-- the instances are 1 to n
ranges : map (λ (i : ℕ). map (any_instance (eqb i)) (0 ∷ 1 ∷ 2 ∷ 3 ∷ [])) (0 ∷ 1 ∷ 2 ∷ [])
    ≡ (false ∷ false ∷ false ∷ false ∷ []) ∷ (false ∷ true ∷ true ∷ true ∷ []) ∷ (false ∷ false ∷ true ∷ true ∷ []) ∷ []
unfolding opened
ranges = refl

empty-places :
    map empty_place
    ([] ∷ one ∷ (set (bytes "2") (bytes "pass") ++ one) ∷ set (bytes "2") (bytes "pass") ∷ (one ++ set (bytes "3") (bytes "pass")) ∷ (one ++ (r (bytes "2") ∷ [])) ∷ [])
    ≡ false ∷ false ∷ false ∷ true ∷ true ∷ true ∷ []
unfolding opened
empty-places = refl

-- ==== (d) the seal at N has cv fail

-- of a seal alone, which reads: its instance, and its chain value (none 1, pass 2, fail 3)
seals :
    map (seal_has (λ i c. eqb i 2 && eqb c 3))
    (s (bytes "2") (bytes "FAIL") ∷ s (bytes "2") (bytes "pass") ∷ s (bytes "1") (bytes "fail") ∷ m (bytes "2") ∷ bad ∷ [])
    ≡ true ∷ false ∷ false ∷ false ∷ false ∷ []
unfolding opened
seals = refl

-- of whatever else has no chain value, nor of a seal that doesn't read
seals-only : map (seal_has (λ i c. true)) (s (bytes "1") (bytes "none") ∷ r (bytes "1") ∷ m (bytes "1") ∷ bad ∷ from ∷ []) ≡ true ∷ false ∷ false ∷ false ∷ false ∷ []
unfolding opened
seals-only = refl

any-seals : map (any_seal (λ i c. eqb i 2)) ([] ∷ one ∷ (one ++ (s (bytes "2") (bytes "none") ∷ [])) ∷ (s (bytes "2") (bytes "none") ∷ one) ∷ []) ≡ false ∷ false ∷ true ∷ true ∷ []
unfolding opened
any-seals = refl

-- at N, not before it, also where another kind has N
last-fails :
    map last_fails
    (one ∷ (s (bytes "1") (bytes "fail") ∷ []) ∷ (s (bytes "2") (bytes "fail") ∷ one) ∷ (s (bytes "1") (bytes "fail") ∷ s (bytes "2") (bytes "pass") ∷ [])
    ∷ (s (bytes "1") (bytes "fail") ∷ r (bytes "2") ∷ []) ∷ [])
    ≡ false ∷ true ∷ true ∷ false ∷ false ∷ []
unfolding opened
last-fails = refl

-- ==== (e) the seal at 1 isn't none or a later one isn't pass

other-values :
    map (λ (i : List ℕ). map (λ (cv : List ℕ). other_value (s i cv ∷ [])) (bytes "none" ∷ bytes "pass" ∷ bytes "fail" ∷ [])) (bytes "1" ∷ bytes "2" ∷ bytes "50" ∷ [])
    ≡ (false ∷ true ∷ true ∷ []) ∷ (true ∷ false ∷ true ∷ []) ∷ (true ∷ false ∷ true ∷ []) ∷ []
unfolding opened
other-values = refl

-- ==== the first reason that applies

-- fields for which all five apply, all but (a), .. and at last none
abbrev samples : List (List Field)
samples =
    (s (bytes "2") (bytes "fail") ∷ s (bytes "2") (bytes "pass") ∷ bad ∷ [])
    ∷ (s (bytes "2") (bytes "fail") ∷ s (bytes "2") (bytes "pass") ∷ [])
    ∷ (s (bytes "2") (bytes "fail") ∷ [])
    ∷ set (bytes "1") (bytes "fail")
    ∷ set (bytes "1") (bytes "pass")
    ∷ one
    ∷ (from ∷ [])
    ∷ []

-- what is said by each reason alone
record Each : Type 0 where
  a : ℕ
  b : ℕ
  c : Bool
  d : Bool
  e : Bool

abbrev each : List Field → Each
each fs = record { a = first_unread fs; b = first_repeating fs; c = empty_place fs; d = last_fails fs; e = other_value fs }

reasons :
    map each samples
    ≡ record { a = 3; b = 2; c = true; d = true; e = true }
    ∷ record { a = 0; b = 2; c = true; d = true; e = true }
    ∷ record { a = 0; b = 0; c = true; d = true; e = true }
    ∷ record { a = 0; b = 0; c = false; d = true; e = true }
    ∷ record { a = 0; b = 0; c = false; d = false; e = true }
    ∷ record { a = 0; b = 0; c = false; d = false; e = false }
    ∷ record { a = 0; b = 0; c = false; d = false; e = false }
    ∷ []
unfolding opened
reasons = refl

outcomes : map outcome samples ≡ failed 1 3 ∷ failed 2 2 ∷ failed 3 0 ∷ failed 4 0 ∷ failed 5 0 ∷ built 1 ∷ none ∷ []
unfolding opened
outcomes = refl
