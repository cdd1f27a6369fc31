-- Document 01, "The chain": reasons (a) to (e) of a failed chain, each said by itself, of the fields and not of the table of places. A chain fails for
-- the first of them that applies.
use Rattle.std.specs.Prelude.{ℕ, zero, suc, ◌≡◌, Bool, true, false, cond, not, ◌&&◌, ◌||◌, List, [], ◌∷◌, ◌++◌, eqb, leb, ltb, length}
use Rattle.base_readers.specs.Parsers.{nothing, got}
use Rattle.block_rules.specs.Fields.{Field}
use Rattle.arc_rules.specs.declared.Kind.TheVariants.{Results, Signature, Seal}
use Rattle.arc_rules.specs.Accepted.{kind_of, is_arc, said_by, reads, same_kind, fields_at, cv_prescribed}

-- ==== (a) an unreadable field; (b) the first repeated kind, in block order, at one instance

-- an ARC field that doesn't read
abbrev pub unread : Field → Bool
unread f = is_arc (kind_of f) && not (reads f)

-- a field that reads, and whose kind one of those before it has at the same instance
unfoldable pub repeats : List Field → Field → Bool
repeats before f = elim (said_by f) [ nothing ↦ false | got x n ↦ leb 1 (fields_at (kind_of f) x.instance before) ]

-- Reasons a and b name the first such field by its number among all fields from 1: the first of these fields of which a test holds, given the fields
-- before it; 0 where it holds of none
unfoldable pub first_where : (List Field → Field → Bool) → List Field → List Field → ℕ
first_where test before [] = 0
first_where test before (f ∷ fs) = elim (test before f) [ true ↦ suc (length before) | false ↦ first_where test (before ++ (f ∷ [])) fs ]

-- (a)
abbrev pub first_unread : List Field → ℕ
first_unread fs = first_where (λ before f. unread f) [] fs

-- (b)
abbrev pub first_repeating : List Field → ℕ
first_repeating fs = first_where repeats [] fs

-- the same without a recursion: the field with this number is one of which a test holds, given the fields before it, and of no field before it does
pub record FirstAt (test : List Field → Field → Bool) (fs : List Field) (number : ℕ) : Type 0 where
  pub before : List Field
  pub named : Field
  pub after : List Field
  pub split : fs ≡ before ++ (named ∷ after)
  pub counted : number ≡ suc (length before)
  pub holds : test before named ≡ true
  pub first : (xs ys : List Field) (f : Field) → before ≡ xs ++ (f ∷ ys) → test xs f ≡ false

-- ==== (c) with N the highest instance, an empty place in 1 to N

-- the instance of an ARC field that reads; 0 for any other
abbrev pub instance_of : Field → ℕ
instance_of f = elim (said_by f) [ nothing ↦ 0 | got x n ↦ x.instance ]

-- N the highest instance
unfoldable pub highest_instance : List Field → ℕ
highest_instance [] = 0
highest_instance (f ∷ fs) = cond (ltb (instance_of f) (highest_instance fs)) (highest_instance fs) (instance_of f)

-- one of the three places of an instance is empty
abbrev pub lacks : List Field → ℕ → Bool
lacks fs i = eqb (fields_at Results i fs) 0 || (eqb (fields_at Signature i fs) 0 || eqb (fields_at Seal i fs) 0)

-- a test holds of an instance in 1 to n
unfoldable pub any_instance : (ℕ → Bool) → ℕ → Bool
any_instance test zero = false
any_instance test (suc n) = test (suc n) || any_instance test n

-- (c)
abbrev pub empty_place : List Field → Bool
empty_place fs = any_instance (lacks fs) (highest_instance fs)

-- ==== (d) the seal at N has cv fail; (e) the seal at 1 isn't none or a later one isn't pass

-- a seal that reads, and of whose instance and chain value a test holds
unfoldable pub seal_has : (ℕ → ℕ → Bool) → Field → Bool
seal_has test f = same_kind Seal (kind_of f) && (elim (said_by f) [ nothing ↦ false | got x n ↦ test x.instance x.cv ])

unfoldable pub any_seal : (ℕ → ℕ → Bool) → List Field → Bool
any_seal test [] = false
any_seal test (f ∷ fs) = seal_has test f || any_seal test fs

-- (d): fail is 3
abbrev pub last_fails : List Field → Bool
last_fails fs = any_seal (λ i c. eqb i (highest_instance fs) && eqb c 3) fs

-- (e): none at instance 1 and pass after it
abbrev pub other_value : List Field → Bool
other_value fs = any_seal (λ i c. not (eqb c (cv_prescribed i))) fs
