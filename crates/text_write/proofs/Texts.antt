-- Texts as they stand and in lower case, as the loops of the code write them: what each loop keeps, one turn, and the end. The premises are literally
-- what a need is handed.
use Prim.Native.Nat.{ℕ, ◌+◌, ◌-◌, ◌≤◌, ◌<◌, min}
use native.Mathlib.Omega.{arith}
use mathlib.Core.Path.{◌≡◌, refl}
use mathlib.Core.Logic.{◌⊎◌, inl, inr}
use mathlib.Core.List.{List, map}
use lib.ListN.{length, get_or, drop, set, length-map, get_or-map}
use mathlib.Core.Bool.{Bool, true, false}
use lib.Dec.{leb}
use borrow.Author.Tests.{leb-true, leb-false}
use Rattle.base_sequences.specs.Stored.{Put}
use Rattle.base_sequences.proofs.Splices.{Left, left-put, left_end}
use Rattle.base_readers.specs.Texts.{within}
use Rattle.lexis_rules.specs.Bytes.{lower}

-- ==== texts that are written as they stand, or byte by byte in lower case

-- where as many bytes of a text are stored as there are and as there is room for, the whole text is written
pub stored-done : (text old out : List ℕ) (to j m : ℕ) → Left old to text out (to + j) (drop j text) → m ≡ length old - to
    → min (length text) m ≤ j → Put old to text out (length text)
stored-done text old out to j m l q h = record { count = refl; bytes = left_end l (go (leb (length text) j) refl) }
  where
    go : (b : Bool) → leb (length text) j ≡ b → (length text ≤ j) ⊎ (length old - to ≤ j)
    go true e = inl (leb-true (length text) j e)
    go false e = inr (omega (arith, leb-false (length text) j e))

pub stored_more : (text old out : List ℕ) (to j n : ℕ) → Left old to text out (to + j) (drop j text) → j < n → n ≤ length text
    → Left old to text (set out (to + j) (get_or text j 0)) (to + (j + 1)) (drop (j + 1) text)
stored_more text old out to j n l h f = left-put j l (omega arith)

lower-at : (part : List ℕ) (j : ℕ) → get_or (map lower part) j 0 ≡ lower (get_or part j 0)
unfolding lower within
lower-at part j = get_or-map lower part j 0

pub lower-more : (part old out : List ℕ) (to j n b : ℕ) → Left old to (map lower part) out (to + j) (drop j (map lower part)) → j < n
    → n ≤ length part → b ≡ lower (get_or part j 0) → Left old to (map lower part) (set out (to + j) b) (to + (j + 1)) (drop (j + 1) (map lower part))
lower-more part old out to j n b l h f e = rw (e, ← lower-at part j) (stored_more (map lower part) old out to j n l h (rw length-map f))

pub lower-done : (part old out : List ℕ) (to j m : ℕ) → Left old to (map lower part) out (to + j) (drop j (map lower part))
    → m ≡ length old - to → min (length part) m ≤ j → Put old to (map lower part) out (length part)
lower-done part old out to j m l q h = rw (← length-map part lower) (stored-done (map lower part) old out to j m l q (rw length-map h))
