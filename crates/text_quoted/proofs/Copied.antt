-- The text of a quoted string, as the loop of the code writes it: what the loop keeps, one turn, and the end. The premises are literally what a need is handed.
use Prim.Native.Nat.{ℕ, zero, suc, ◌+◌, ◌-◌, ◌≤◌, ◌<◌, ◌^◌, min}
use native.Mathlib.Omega.{arith}
use mathlib.Core.Path.{◌≡◌, refl, sym, ◌∙◌}
use mathlib.Core.Bool.{Bool, true, false, ◌||◌}
use mathlib.Core.List.{List, [], ◌∷◌}
use lib.Dec.{leb, ltb, eqb}
use lib.ListN.{length, get_or, take, drop, set, length-take, drop_of_length-le}
use lib.Seq.{sets, drop-drop}
use borrow.Author.Tests.{ltb-false, leb-true, leb-false, le-leb, eqb-false}
use mir.Syntax.{w64}
use mir.Val.{Fits}
use Rattle.base_sequences.specs.Stored.{Put, Clipped, cap}
use Rattle.base_sequences.proofs.Booleans.{both, and_none, or_right, neither_left, neither_right}
use Rattle.base_sequences.proofs.Splices.{sets-out, Left, left-zero, left_step, left-done, wrote-put, put-wrote}
use Rattle.base_readers.specs.Texts.{within, one_of}
use Rattle.base_readers.specs.Readers.{run, lasts}
use Rattle.base_readers.proofs.Readers.{there-at, run_more, run_fits, lasts-more, lasts-none}
use Rattle.base_readers.proofs.Loops.{room_at}
use Rattle.lexis_rules.specs.declared.Class.TheVariants.{Quoted}
use Rattle.lexis_rules.specs.Bytes.{in_class}
use Rattle.lexis_rules.specs.Pieces.{item}
use Rattle.lexis_rules.specs.Words.{quoted_text}
use Rattle.lexis_laws.proofs.Bytes.{class-zero}
use Rattle.lexis_laws.proofs.Pieces.{item-fits, quoted_text-run}

-- ==== texts that are written as they stand, or byte by byte in lower case

-- a place that would be past the largest number is past the end: nothing is there, as at the largest one
module _ (old : List ℕ) (l : length old < 2 ^ 64) (at j : ℕ) (e : j ≡ min at cap) where
  past : {A : Type 0} (f : ℕ → A) (z : A) → ((i : ℕ) → length old ≤ i → f i ≡ z) → f j ≡ f at
  past f z out = go (leb at cap) refl
    where
      go : (b : Bool) → leb at cap ≡ b → f j ≡ f at
      go true a = let q : j ≡ at = omega (arith, leb-true at cap a) in rw q
      go false a = out j (omega (arith, leb-false at cap a)) ∙ sym (out at (omega (arith, leb-false at cap a)))

  pub drop-past : drop j old ≡ drop at old
  drop-past = past (λ i. drop i old) [] (λ i h. drop_of_length-le old h)

  sets-past : (vs : List ℕ) → sets old j vs ≡ sets old at vs
  sets-past vs = past (λ i. sets old i vs) old (λ i. sets-out old i vs)

  pub stored_at : (b : ℕ) (new : List ℕ) (r : ℕ) → Clipped old j (b ∷ []) new r → new ≡ set old at b
  stored_at b new r w = w.bytes ∙ sets-past (b ∷ [])

  pub stored_run : (part new : List ℕ) (r : ℕ) → Put old j part new r → Put old at part new r
  stored_run part new r p = record { count = p.count; bytes = p.bytes ∙ sets-past part }

-- ==== the text of a quoted string

-- what is left of it at a place inside
abbrev pub text_at : List ℕ → ℕ → List ℕ
text_at s i = lasts (item Quoted) 0 (drop i s)

-- the text of the string is what is left after its opening quote
text-start : (s : List ℕ) (at i : ℕ) → drop i s ≡ drop 1 (drop at s) → text_at s i ≡ quoted_text (drop at s)
unfolding quoted_text
text-start s at i e = rw e

-- an item of k bytes comes next, or none
module _ (s : List ℕ) (i k : ℕ) (e : k ≡ item Quoted (drop i s)) where
  text-none : k ≡ 0 → text_at s i ≡ []
  text-none z = lasts-none (item Quoted) (drop i s) (sym e ∙ z)

  text-more : (k ≡ 0 → ⊥) → text_at s i ≡ get_or (drop i s) (k - 1) 0 ∷ text_at s (i + k)
  text-more ne = go k e ne
    where
      go : (k : ℕ) → k ≡ item Quoted (drop i s) → (k ≡ 0 → ⊥) → text_at s i ≡ get_or (drop i s) (k - 1) 0 ∷ text_at s (i + k)
      go zero e ne = absurd (ne refl)
      go (suc n) e ne =
          let z : suc n - 1 ≡ n = omega arith in
          lasts-more (item Quoted) (drop i s) n (sym e) (rw (← e) at (item-fits Quoted (drop i s))) ∙ rw (z, drop-drop)

-- ==== it is written: n bytes are stored, and the next item starts at i

pub record Copying (s whole old : List ℕ) (to : ℕ) (out : List ℕ) (i n : ℕ) : Type 0 where
  pub left : Left old to whole out (to + n) (text_at s i)
  pub bound : n ≤ i

pub copy_start : (s old : List ℕ) (at to i : ℕ) → drop i s ≡ drop 1 (drop at s) → Copying s (quoted_text (drop at s)) old to old i 0
copy_start s old at to i e = record { left = rw (text-start s at i e) (left-zero old to _); bound = omega arith }

module _ (s whole old : List ℕ) (to : ℕ) (out : List ℕ) (i n : ℕ) (w : Copying s whole old to out i n) where
  -- an item, or none
  module _ (k : ℕ) (e : k ≡ item Quoted (drop i s)) where
    pub copy_done : k ≡ 0 → Put old to whole out n
    copy_done z = wrote-put (left-done w.left (text-none s i k e z))

    module _ (ne : k ≡ 0 → ⊥) where
      pub copy_more : (b : ℕ) → b ≡ get_or (drop i s) (k - 1) 0 → (out' : List ℕ) → out' ≡ set out (to + n) b → Copying s whole old to out' (i + k) (n + 1)
      copy_more b q out' p =
          record {
            left = left_step {x = b ∷ []} w.left (text-more s i k e ne ∙ rw q) (record { place = omega arith; bytes = p });
            bound = omega (arith, w.bound);
          }

      pub copy-fits : length s < 2 ^ 64 → Fits w64 (n + 1)
      copy-fits l = omega (arith, w.bound, room_at (item Quoted) (item-fits Quoted) s i)

  -- a run of bytes that stand for themselves
  module _ (e : ℕ) (q : e ≡ i + run (in_class Quoted) (drop i s)) (out' : List ℕ) (m : ℕ) (p : Put out (to + n) (take (e - i) (drop i s)) out' m) where
    run-size : m ≤ e - i
    run-size = omega (arith, p.count, length-take (e - i) (drop i s))

    pub copy_run : Copying s whole old to out' e (n + m)
    copy_run =
        let z : to + n + m ≡ to + (n + m) = omega arith in
        record {
          left = rw (← z) (left_step w.left (quoted_text-run s i e (omega arith) (omega arith)) (put-wrote p));
          bound = omega (arith, w.bound, run-size);
        }

-- ==== bytes that stand for themselves

-- by the tests that the code makes
pub unstopped : (b : ℕ) → (((ltb b 32 || eqb b 34) || eqb b 92) || eqb b 127) ≡ false → in_class Quoted b ≡ true
unfolding in_class within one_of
unstopped b e =
    let d = neither_right ((ltb b 32 || eqb b 34) || eqb b 92) (eqb b 127) e in
    let f = neither_left ((ltb b 32 || eqb b 34) || eqb b 92) (eqb b 127) e in
    let g = neither_left (ltb b 32 || eqb b 34) (eqb b 92) f in
    go (leb b 126) refl (neither_left (ltb b 32) (eqb b 34) g) (neither_right (ltb b 32) (eqb b 34) g) (neither_right (ltb b 32 || eqb b 34) (eqb b 92) f) d
  where
    go : (t : Bool) → leb b 126 ≡ t → ltb b 32 ≡ false → eqb b 34 ≡ false → eqb b 92 ≡ false → eqb b 127 ≡ false → in_class Quoted b ≡ true
    go true t l q s d = rw (le-leb 32 b (ltb-false b 32 l), t, q, s)
    go false t l q s d =
        let h : 128 ≤ b = (let n : b ≡ 127 → ⊥ = eqb-false b 127 d in omega (arith, leb-false b 126 t)) in
        rw (t, and_none (leb 32 b), le-leb 128 b h) (or_right (eqb b 9) true refl)

-- a run whose first byte passed them ends behind that byte, and inside
pub run-passed : (s : List ℕ) (i b : ℕ) → b ≡ get_or (drop i s) 0 0 → (r : Bool) → (r ≡ false → in_class Quoted b ≡ true) → r ≡ false → (e : ℕ)
    → e ≡ i + run (in_class Quoted) (drop i s) → (i < e) × (e ≤ length s)
run-passed s i b q r f z e h = (some (drop i s) first h, omega (arith, room_at (run (in_class Quoted)) (run_fits (in_class Quoted)) s i, there-at (in_class Quoted) (class-zero Quoted) s i 0 first))
  where
    first : in_class Quoted (get_or (drop i s) 0 0) ≡ true
    first = rw q at (f z)

    some : (xs : List ℕ) → in_class Quoted (get_or xs 0 0) ≡ true → e ≡ i + run (in_class Quoted) xs → i < e
    some [] c h = absurd (both (in_class Quoted 0) (class-zero Quoted) c)
    some (x ∷ xs) c h = omega (arith, run_more (in_class Quoted) x xs c)
