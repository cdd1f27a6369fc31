-- Entries of our own list at places of a slice, and a step of the code's walk as a step of the list's, by cases of the definitions.
use Prim.Native.Char.{code}
use Prim.Native.Nat.{ℕ, zero, suc, ◌+◌, ◌-◌, ◌≤◌, ◌<◌, zero-le, suc-le-suc}
use native.Mathlib.Numerals.{add-one}
use native.Mathlib.Omega.{arith}
use mathlib.Core.Path.{◌≡◌, refl, sym, ap, ◌∙◌}
use mathlib.Core.Bool.{Bool, true, false, cond}
use mathlib.Core.List.{List, [], ◌∷◌}
use borrow.Author.Tests.{le-leb, lt-leb, leb-false}
use lib.Dec.{eqb, leb}
use lib.ListN.{length, get_or, drop, take, length-drop, drop_of_length-le}
use lib.Seq.{drop-drop, length-take-le}
use Rattle.base_readers.specs.Walks.{item, refused, Walked, ended, before, walk}
use Rattle.base_readers.proofs.Walks.{walk-item, walk-stop, walk_end}
use Rattle.ownlist_check.specs.declared.Listed.{Listed}
use Rattle.ownlist_check.specs.declared.Listed.TheVariants.{Entry, End, Bad}
use Rattle.ownlist_check.specs.declared.Checked.TheVariants as checked
use Rattle.ownlist_rules.specs.OwnList.{entry_limit, longest, entry_text, entry, entry_at, own_list}
use Rattle.ownlist_check.specs.Steps.{listed_of, listed_from, checked_of}
use Rattle.base_readers.proofs.Places.{behind-first}
use Rattle.ownlist_laws.proofs.Entries.{entry-fits, entry-is}

-- ==== an entry

-- its text ends at e
module _ (s : List ℕ) (at e : ℕ) (q : e ≡ at + entry_text (drop at s)) where
  pub entry-empty : e ≡ at → at ≡ at + entry (drop at s)
  unfolding entry
  entry-empty z = let n : entry_text (drop at s) ≡ 0 = omega arith in rw (entry, n) (omega arith)

  module _ (ne : e ≡ at → ⊥) where
    one : leb 1 (entry_text (drop at s)) ≡ true
    one = le-leb 1 (entry_text (drop at s)) (omega arith)

    pub entry-long : longest < e - at → at ≡ at + entry (drop at s)
    unfolding entry
    entry-long h = let l : leb (entry_text (drop at s)) longest ≡ false = lt-leb (entry_text (drop at s)) longest (omega arith) in rw (entry, one, l) (omega arith)

    module _ (h : e - at ≤ longest) (r : Bool) (k : r ≡ eqb (get_or (drop e s) 0 0) (code "\n")) where
      entry-cond : entry (drop at s) ≡ cond r (e - at + 1) 0
      unfolding entry
      entry-cond =
          let n = entry_text (drop at s) in
          let l : leb n longest ≡ true = le-leb n longest (omega arith) in
          let d : n + 1 ≡ e - at + 1 = omega arith in
          rw (entry, one, l, ← behind-first s at n e q, ← k, d)

      pub entry-no : r ≡ false → at ≡ at + entry (drop at s)
      entry-no z = rw (entry-cond, z) (omega arith)

      pub entry-yes : r ≡ true → e + 1 ≡ at + entry (drop at s)
      entry-yes z = rw (entry-cond, z) (omega arith)

-- ==== what stands at the front, case by case

module _ (at count : ℕ) (xs : List ℕ) where
  at-bad : entry xs ≡ 0 → entry_at at count xs ≡ refused 5 at
  unfolding entry_at
  at-bad e = rw (entry_at, e)

  module _ (n : ℕ) (e : entry xs ≡ suc n) where
    at-many : leb entry_limit count ≡ true → entry_at at count xs ≡ refused 5 at
    unfolding entry_at
    at-many l = rw (entry_at, e, l)

    at-good : leb entry_limit count ≡ false → entry_at at count xs ≡ item (take n xs) (suc n)
    unfolding entry_at
    at-good l = rw (entry_at, e, l)

-- ==== one step

listed-is : (at count : ℕ) (xs : List ℕ) → 0 < length xs → listed_from at count xs ≡ listed_of at (entry_at at count xs)
unfolding listed_from
listed-is at count [] h = absurd (let z : 0 < 0 = h in omega arith)
listed-is at count (x ∷ xs) h = refl

module _ (s : List ℕ) (at count : ℕ) where
  pub listed-end : length s ≤ at → End ≡ listed_from at count (drop at s)
  unfolding listed_from
  listed-end h = rw (drop_of_length-le {A = ℕ} s h)

  module _ (h : at < length s) (e : ℕ) (q : e ≡ at + entry (drop at s)) where
    listed-there : listed_from at count (drop at s) ≡ listed_of at (entry_at at count (drop at s))
    listed-there = listed-is at count (drop at s) (rw length-drop (omega arith))

    pub listed-bad : e ≡ at → Bad at ≡ listed_from at count (drop at s)
    listed-bad z = rw (listed-there, at-bad at count (drop at s) (omega arith))

    module _ (ne : e ≡ at → ⊥) where
      some : entry (drop at s) ≡ suc (e - 1 - at)
      some = omega arith

      pub listed-many : entry_limit ≤ count → Bad at ≡ listed_from at count (drop at s)
      listed-many l = rw (listed-there, at-many at count (drop at s) (e - 1 - at) some (le-leb entry_limit count l))

      pub listed-entry : count < entry_limit → Entry at (e - 1) ≡ listed_from at count (drop at s)
      listed-entry l =
          let z : at + (suc (e - 1 - at) - 1) ≡ e - 1 = omega arith in
          rw (listed-there, at-good at count (drop at s) (e - 1 - at) some (lt-leb entry_limit count l), z)

-- ==== a step of the code is a step of the walk

-- what is left of the list at a place, after so many entries
abbrev pub rest_entries : List ℕ → ℕ → ℕ → Walked (List ℕ)
rest_entries s at count = walk entry_at at count 0 (drop at s)

-- an entry from a up to its LF at e, and what is left after it
pub record Taken (s : List ℕ) (at count a e : ℕ) : Type 0 where
  pub start : a ≡ at
  pub filled : a < e
  pub short : e ≤ a + longest
  pub inside : e < length s
  pub below : count < entry_limit
  pub more : rest_entries s at count ≡ before (take (e - a) (drop a s)) (rest_entries s (e + 1) (count + 1))

-- what each answer of the code tells
abbrev Tells : List ℕ → ℕ → ℕ → Listed → Type 0
Tells s at count (Entry a e) = Taken s at count a e
Tells s at count End = rest_entries s at count ≡ ended 0 0
Tells s at count (Bad p) = rest_entries s at count ≡ ended 5 p

tells-there : (s : List ℕ) (at count : ℕ) → 0 < length (drop at s) → Tells s at count (listed_from at count (drop at s))
tells-there s at count h = rw (listed-is at count (drop at s) h) (here (entry (drop at s)) refl)
  where
    bad : entry_at at count (drop at s) ≡ refused 5 at → Tells s at count (listed_of at (entry_at at count (drop at s)))
    bad e = rw e (walk-stop entry_at at count (drop at s) 5 at h e)

    limit : (n : ℕ) → entry (drop at s) ≡ suc n → (t : Bool) → leb entry_limit count ≡ t → Tells s at count (listed_of at (entry_at at count (drop at s)))
    limit n e true l = bad (at-many at count (drop at s) n e l)
    limit n e false l =
        let g = at-good at count (drop at s) n e l in
        let w = entry-is (drop at s) n e in
        let d : suc n - 1 ≡ n = omega arith in
        let i : at + n - at ≡ n = omega arith in
        let j : at + suc n ≡ at + n + 1 = omega arith in
        rw (g, d)
        (record {
          start = refl;
          filled = omega arith;
          short = omega arith;
          inside = omega (arith, entry-fits (drop at s), length-drop at s);
          below = leb-false entry_limit count l;
          more = rw i (walk-item entry_at at count (drop at s) (take n (drop at s)) (suc n) h (suc-le-suc zero-le) g ∙ rw (drop-drop, j, add-one count));
        })

    here : (n : ℕ) → entry (drop at s) ≡ n → Tells s at count (listed_of at (entry_at at count (drop at s)))
    here zero e = bad (at-bad at count (drop at s) e)
    here (suc n) e = limit n e (leb entry_limit count) refl

tells : (s : List ℕ) (at count : ℕ) → Tells s at count (listed_from at count (drop at s))
unfolding listed_from
tells s at count = go (drop at s) refl
  where
    go : (xs : List ℕ) → drop at s ≡ xs → Tells s at count (listed_from at count (drop at s))
    go [] q = let e : End ≡ listed_from at count (drop at s) = rw q in rw (← e, q) (walk_end entry_at at count)
    go (x ∷ xs) q = tells-there s at count (rw q (suc-le-suc zero-le))

module _ (s : List ℕ) (at count : ℕ) where
  pub entries-end : End ≡ listed_from at count (drop at s) → rest_entries s at count ≡ ended 0 0
  entries-end e = rw (← e) at (tells s at count)

  pub entries-bad : (p : ℕ) → Bad p ≡ listed_from at count (drop at s) → rest_entries s at count ≡ ended 5 p
  entries-bad p e = rw (← e) at (tells s at count)

  pub entries_next : (a e : ℕ) → Entry a e ≡ listed_from at count (drop at s) → Taken s at count a e
  entries_next a e q = rw (← q) at (tells s at count)

-- the text of an entry has as many bytes as its places are apart
pub taken-length : {s : List ℕ} {at count a e : ℕ} → Taken s at count a e → length (take (e - a) (drop a s)) ≡ e - a
taken-length {s} {a = a} {e = e} t = length-take-le (e - a) (drop a s) (rw length-drop (omega (arith, t.inside)))

-- ==== the loop that checks a list: what is left is answered as the whole

pub record Checking (s : List ℕ) (at count : ℕ) : Type 0 where
  pub same : checked_of (rest_entries s at count) ≡ checked_of (own_list s)

pub check-start : (s : List ℕ) → Checking s 0 0
check-start s = record { same = refl }

module _ (s : List ℕ) (at count : ℕ) (w : Checking s at count) where
  pub check-end : End ≡ listed_from at count (drop at s) → checked.Good ≡ checked_of (own_list s)
  check-end e = rw (entries-end s at count e) at w.same

  pub check-bad : (p : ℕ) → Bad p ≡ listed_from at count (drop at s) → checked.Bad p ≡ checked_of (own_list s)
  check-bad p e = rw (entries-bad s at count p e) at w.same

  pub check-more : (a e : ℕ) → Entry a e ≡ listed_from at count (drop at s) → Checking s (e + 1) (count + 1)
  check-more a e q = record { same = sym (ap checked_of (entries_next s at count a e q).more) ∙ w.same }
