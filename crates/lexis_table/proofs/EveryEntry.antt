-- 02, ticket [5]: the table of 256 entries agrees at every entry with 01's rules, that of a token among them: computed, 64 entries at a time.
use Prim.Native.Nat.{ℕ, zero, suc, ◌+◌, ◌*◌, ◌/◌, ◌%◌, ◌^◌, ◌<◌}
use native.Mathlib.Omega.{arith}
use native.Mathlib.Nat.{add-zero, add-suc, suc-add, le_of_suc-le-suc, not-suc-le-zero}
use mathlib.Core.Path.{◌≡◌, refl, sym, ap, ◌∙◌}
use mathlib.Core.List.{List, map}
use lib.Dec.{eqb}
use lib.ListN.{length, get_or, take, drop}
use lib.Seq.{get_or-drop, get_or-take}
use Rattle.base_readers.specs.Texts.{within, one_of}
use Rattle.lexis_rules.specs.declared.Class.{Class}
use Rattle.lexis_rules.specs.Bytes.{in_class, letter}
use Rattle.lexis_rules.proofs.ClassExamples.{counting}
use Rattle.lexis_classes.specs.Internal.{bits_of}
use Rattle.lexis_table.specs.Table.{entry_of, entries}
use Rattle.lexis_table.specs.Internal.{place_of}
use Rattle.lexis_table.proofs.Entries.{said}

entries-count : length entries ≡ 256
entries-count = refl

-- the entries of all bytes, 64 at a time
abbrev Quarter : ℕ → Type 0
Quarter q = map entry_of (counting 64 (64 * q)) ≡ take 64 (drop (64 * q) entries)

quarters : (q : ℕ) → q < 4 → Quarter q
unfolding in_class letter within one_of bits_of
quarters zero h = refl
quarters (suc zero) h = refl
quarters (suc (suc zero)) h = refl
quarters (suc (suc (suc zero))) h = refl
quarters (suc (suc (suc (suc q)))) h = absurd (omega arith)

-- what is told of the k-th of n numbers from a on
told_at : (f : ℕ → ℕ) (n a k : ℕ) → k < n → get_or (map f (counting n a)) k 0 ≡ f (a + k)
told_at f zero a k h = absurd (not-suc-le-zero h)
told_at f (suc n) a zero h = ap f (sym (add-zero a))
told_at f (suc n) a (suc k) h = told_at f n (suc a) k (le_of_suc-le-suc h) ∙ ap f (suc-add a k ∙ sym (add-suc a k))

-- each entry is that of its byte, as `lexis_table::table::entry` gives it
pub entries_at : (b : ℕ) → b < 256 → get_or entries b 0 ≡ entry_of b
entries_at b h = at (b / 64) (b % 64) (omega arith) (omega arith) (omega arith)
  where
    at : (q r : ℕ) → b ≡ 64 * q + r → q < 4 → r < 64 → get_or entries b 0 ≡ entry_of b
    at q r e hq hr =
        ap (λ (k : ℕ). get_or entries k 0) e
        ∙ (sym (get_or-drop (64 * q) entries r 0)
        ∙ (sym (get_or-take 64 (drop (64 * q) entries) r 0 hr)
        ∙ (ap (λ (l : List ℕ). get_or l r 0) (sym (quarters q hq)) ∙ (told_at entry_of 64 (64 * q) r hr ∙ ap entry_of (sym e)))))

-- and so it has the binary digit of a class exactly where its byte is of that class
pub entries-class : (c : Class) (b : ℕ) → b < 256 → eqb (get_or entries b 0 / 2 ^ place_of c % 2) 1 ≡ in_class c b
entries-class c b h = ap (λ (e : ℕ). eqb (e / 2 ^ place_of c % 2) 1) (entries_at b h) ∙ said c b
