-- The entries of the table: a binary digit of one says whether its byte is of a class, and so where a run ends.
use Prim.Native.Nat.{ℕ, zero, suc, ◌+◌, ◌-◌, ◌*◌, ◌/◌, ◌%◌, ◌^◌, ◌≤◌, ◌<◌}
use native.Mathlib.Nat.{zero-add, zero-mul, one-mul, pow-suc, mod-lt}
use native.Mathlib.Omega.{arith}
use mathlib.Core.Path.{◌≡◌, refl, sym, ap, ◌∙◌}
use mathlib.Core.Bool.{Bool, true, false, not}
use mathlib.Core.List.{List, [], ◌∷◌}
use lib.Bits.{bit_and, and_high}
use lib.Dec.{eqb}
use lib.ListN.{length, get_or, drop}
use lib.Pow.{pow_pos}
use borrow.Author.Tests.{ne_eqb}
use Rattle.base_readers.specs.Readers.{run}
use Rattle.base_readers.specs.Places.{Reaches}
use Rattle.base_readers.proofs.Loops.{run-off, run_out}
use Rattle.lexis_rules.specs.declared.Class.{Class}
use Rattle.lexis_rules.specs.declared.Class.TheVariants.{Blank, Opening, Zero, Digit, Keyword, Token, Quoted, Comment, Escaped, Name, Visible, Delimiter, Tag}
use Rattle.lexis_rules.specs.Bytes.{in_class}
use Rattle.lexis_classes.proofs.Bytes.{bit_at}
use Rattle.lexis_table.specs.Table.{order, entry_of}
use Rattle.lexis_table.specs.Internal.{place_of, digit_of, has_digit}

-- each class stands at its place
placed : (c : Class) → get_or order (place_of c) Tag ≡ c
placed Blank = refl
placed Opening = refl
placed Zero = refl
placed Digit = refl
placed Keyword = refl
placed Token = refl
placed Quoted = refl
placed Comment = refl
placed Escaped = refl
placed Name = refl
placed Visible = refl
placed Delimiter = refl
placed Tag = refl

placed_below : (c : Class) → place_of c < 13
placed_below Blank = omega arith
placed_below Opening = omega arith
placed_below Zero = omega arith
placed_below Digit = omega arith
placed_below Keyword = omega arith
placed_below Token = omega arith
placed_below Quoted = omega arith
placed_below Comment = omega arith
placed_below Escaped = omega arith
placed_below Name = omega arith
placed_below Visible = omega arith
placed_below Delimiter = omega arith
placed_below Tag = omega arith

-- its binary digit says whether a byte is of it
pub said : (c : Class) (b : ℕ) → eqb (entry_of b / 2 ^ place_of c % 2) 1 ≡ in_class c b
said c b =
    bit_at (λ (k : ℕ). in_class (get_or order k Tag) b) 13 0 (place_of c) (placed_below c)
    ∙ ap (λ (d : Class). in_class d b) (ap (λ (k : ℕ). get_or order k Tag) (zero-add (place_of c)) ∙ placed c)

-- a power of two leaves one binary digit
half : (k : ℕ) → 2 ^ (1 + k) - 2 ^ k ≡ 2 ^ k
half k = let e : 2 ^ (1 + k) ≡ 2 ^ k * 2 = ap (λ (n : ℕ). 2 ^ n) (omega arith) ∙ pow-suc 2 k in omega (arith, e)

left : (x k : ℕ) → bit_and x (2 ^ k) ≡ (x / 2 ^ k % 2) * 2 ^ k
left x k = ap (λ (n : ℕ). bit_and x n) (sym (half k)) ∙ and_high x 1 k

pub has-digit : (c : Class) (b : ℕ) → has_digit (digit_of c) b ≡ in_class c b
has-digit c b = rw (left (entry_of b) (place_of c)) (go (entry_of b / 2 ^ place_of c % 2) (mod-lt (entry_of b / 2 ^ place_of c) (omega arith)) (in_class c b) (said c b))
  where
    go : (x : ℕ) → x < 2 → (t : Bool) → eqb x 1 ≡ t → not (eqb (x * 2 ^ place_of c) 0) ≡ t
    go zero h t e = rw zero-mul e
    go (suc zero) h t e = let n : eqb (2 ^ place_of c) 0 ≡ false = ne_eqb (2 ^ place_of c) 0 (λ z. omega (arith, pow_pos (place_of c))) in rw (one-mul, n) e
    go (suc (suc x)) h t e = absurd (omega arith)

-- ==== what the functions ask

-- tests that say the same of each byte have the same runs
alike : (f g : ℕ → Bool) → ((b : ℕ) → f b ≡ g b) → (xs : List ℕ) → run f xs ≡ run g xs
unfolding run
alike f g h [] = refl
alike f g h (x ∷ xs) = rw (run, h x) (go (run f xs) (run g xs) (alike f g h xs) (g x))
  where
    go : (m n : ℕ) → m ≡ n → (t : Bool) → ◌≡◌ {A = ℕ} (elim t [ true ↦ suc m | false ↦ 0 ]) (elim t [ true ↦ suc n | false ↦ 0 ])
    go m n e true = ap suc e
    go m n e false = refl

-- the run of bytes of a class is that of the bytes whose entries have its binary digit
pub class-run : (c : Class) (s : List ℕ) (at d i : ℕ) → d ≡ digit_of c → i ≡ at + run (has_digit d) (drop at s) → i ≡ at + run (in_class c) (drop at s)
class-run c s at d i q e = e ∙ ap (λ (n : ℕ). at + n) (rw q (alike (has_digit (digit_of c)) (in_class c) (has-digit c) (drop at s)))
