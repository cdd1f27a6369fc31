-- What the lines of a report cost where `explain` says them: what their bytes weigh, and our own words for each (`explained-added`). Texts without LF, columns and
-- coded texts.
use Prim.Native.Nat.{ℕ, zero, suc, ◌+◌, ◌*◌, ◌-◌, ◌/◌, ◌%◌, ◌≤◌, ◌<◌}
use native.Mathlib.Omega.{arith}
use mathlib.Core.Path.{◌≡◌, refl, sym, ap, ◌∙◌, subst}
use mathlib.Core.Bool.{Bool, true, false, cond}
use mathlib.Core.List.{List, [], ◌∷◌, ◌++◌, append_assoc}
use lib.Dec.{eqb, leb}
use lib.ListN.{length, take, drop}
use borrow.Author.Tests.{ne_eqb, le-leb}
use Rattle.base_sequences.proofs.Booleans.{both}
use Rattle.base_readers.specs.Texts.{within}
use Rattle.base_readers.specs.Lines.{lines_of}
use Rattle.lexis_rules.specs.Bytes.{in_class}
use Rattle.explain_rules.specs.Explained.{kind_of_line}
use Rattle.explain_rules.specs.Promise.{weight, weighed, most, added}
use Rattle.explain_rules.proofs.Lengths.{weighed-most}
use Rattle.report_rules.specs.Report.{hex_digit, plain, escape, line}
use Rattle.command_laws.proofs.LastLines.{Digits, no_digit, digit_then}

-- ==== what lines cost

abbrev pub cost : List ℕ → ℕ
cost t = weighed t + added (lines_of t)

-- a text of whole lines costs no more than k, whatever follows
pub record Costs (t : List ℕ) (k : ℕ) : Type 0 where
  pub bound : (rest : List ℕ) → cost (t ++ rest) ≤ k + cost rest

pub nothing-costs : (k : ℕ) → Costs [] k
nothing-costs k = record { bound = λ rest. omega arith }

pub costs-more : {t : List ℕ} {j k : ℕ} → Costs t j → j ≤ k → Costs t k
costs-more c h = record { bound = λ rest. omega (arith, c.bound rest, h) }

pub both-cost : {a b : List ℕ} {j k : ℕ} → Costs a j → Costs b k → Costs (a ++ b) (j + k)
both-cost {a} {b} c d = record { bound = λ rest. rw (append_assoc a b rest) (omega (arith, c.bound (b ++ rest), d.bound rest)) }

-- ==== texts without LF

pub data Still : List ℕ → Type 0 where
  empty : Still []
  then : {x : ℕ} {xs : List ℕ} → eqb x 10 ≡ false → Still xs → Still (x ∷ xs)

still-then : {a b : List ℕ} → Still a → Still b → Still (a ++ b)
still-then empty t = t
still-then (then e s) t = then e (still-then s t)

pub still-take : {a : List ℕ} (k : ℕ) → Still a → Still (take k a)
still-take zero s = empty
still-take (suc k) empty = empty
still-take (suc k) (then e s) = then e (still-take k s)

pub still-drop : {a : List ℕ} (k : ℕ) → Still a → Still (drop k a)
still-drop zero s = s
still-drop (suc k) empty = empty
still-drop (suc k) (then e s) = still-drop k s

-- a byte of a class that LF is not in
pub class-still : (c : ℕ → Bool) → c 10 ≡ false → (x : ℕ) → c x ≡ true → eqb x 10 ≡ false
class-still c z x e = ne_eqb x 10 (λ q. both (c 10) z (sym (ap c q) ∙ e))

pub digits-still : {xs : List ℕ} → Digits xs → Still xs
unfolding within
digits-still no_digit = empty
digits-still (digit_then {x} d ds) = then (class-still (within 48 57) refl x d) (digits-still ds)

weighed-append : (a b : List ℕ) → weighed (a ++ b) ≡ weighed a + weighed b
unfolding weighed
weighed-append [] b = omega arith
weighed-append (x ∷ a) b = omega (arith, weighed-append a b)

still-lines : {l : List ℕ} → Still l → (rest : List ℕ) → lines_of (l ++ (10 ∷ rest)) ≡ l ∷ lines_of rest
unfolding lines_of
still-lines empty rest = refl
still-lines (then {x} {xs} e s) rest = rw (lines_of, e, still-lines s rest)

feed-weight : weight 10 ≡ 4
unfolding weight within
feed-weight = refl

line-costs : (l : List ℕ) (k : ℕ) → Still l → weighed l + 4 + most (kind_of_line l) ≤ k → Costs (l ++ (10 ∷ [])) k
unfolding weighed added
line-costs l k s h =
    record {
      bound = λ rest.
          rw (append_assoc l (10 ∷ []) rest, still-lines s rest)
          (omega (arith, weighed-append l (10 ∷ rest), feed-weight, h));
    }

-- ==== columns

abbrev pub row : List (List ℕ) → List ℕ
row [] = []
row (c ∷ []) = c
row (c ∷ d ∷ ds) = c ++ (9 ∷ row (d ∷ ds))

pub line_row : (c : List ℕ) (cs : List (List ℕ)) → line (c ∷ cs) ≡ row (c ∷ cs) ++ (10 ∷ [])
unfolding line
line_row c [] = refl
line_row c (d ∷ ds) = ap (λ (t : List ℕ). c ++ (9 ∷ t)) (line_row d ds) ∙ sym (append_assoc c (9 ∷ row (d ∷ ds)) (10 ∷ []))

pub row-costs : (c : List ℕ) (cs : List (List ℕ)) (k : ℕ) → Still (row (c ∷ cs)) → weighed (row (c ∷ cs)) + 4 + most (kind_of_line (row (c ∷ cs))) ≤ k → Costs (line (c ∷ cs)) k
row-costs c cs k s h = subst (λ (t : List ℕ). Costs t k) (sym (line_row c cs)) (line-costs (row (c ∷ cs)) k s h)

-- a column and those behind it
pub tab-still : {a b : List ℕ} → Still a → Still b → Still (a ++ (9 ∷ b))
tab-still s t = still-then s (then refl t)

pub tab-weight : (a b : List ℕ) → weighed (a ++ (9 ∷ b)) ≡ weighed a + (4 + weighed b)
unfolding weighed weight within
tab-weight a b = weighed-append a (9 ∷ b)

-- ==== coded texts: a byte is shown by one or three, none of which is LF

pub record Coded (t : List ℕ) (n : ℕ) : Type 0 where
  pub still : Still t
  pub light : weighed t ≤ 8 * n

hex-still : (n : ℕ) → eqb (hex_digit n) 10 ≡ false
hex-still n = go (leb n 9)
  where
    go : (t : Bool) → eqb (cond t (48 + n) (65 + (n - 10))) 10 ≡ false
    go true = ne_eqb (48 + n) 10 (λ e. omega (arith, e))
    go false = ne_eqb (65 + (n - 10)) 10 (λ e. omega (arith, e))

four-most : (x : ℕ) → weight x ≤ 4
unfolding weighed
four-most x = omega (arith, weighed-most (x ∷ []))

plain_still : (x : ℕ) → plain x ≡ true → eqb x 10 ≡ false
unfolding plain in_class within
plain_still x e = class-still plain refl x e

light-percent : weight 37 ≡ 2
unfolding weight within
light-percent = refl

pub light : (x : ℕ) → 32 ≤ x → x ≤ 126 → weight x ≡ 2
unfolding weight within
light x a b = rw (weight, within, le-leb 32 x a, le-leb x 126 b)

light-hex : (n : ℕ) → n < 16 → weight (hex_digit n) ≡ 2
light-hex n h = go (leb n 9)
  where
    go : (t : Bool) → weight (cond t (48 + n) (65 + (n - 10))) ≡ 2
    go true = light (48 + n) (omega arith) (omega (arith, h))
    go false = light (65 + (n - 10)) (omega arith) (omega (arith, h))

pub coded : (t : List ℕ) → Coded (escape t) (length t)
unfolding escape weighed
coded [] = record { still = empty; light = omega arith }
coded (x ∷ xs) = go (plain x) refl (coded xs)
  where
    go : (t : Bool) → plain x ≡ t → Coded (escape xs) (length xs) → Coded (escape (x ∷ xs)) (suc (length xs))
    go true e c = rw (escape, e) (record { still = then (plain_still x e) c.still; light = omega (arith, c.light, four-most x) })
    go false e c =
        rw (escape, e)
        (record {
          still = then refl (then (hex-still (x / 16)) (then (hex-still (x % 16)) c.still));
          light = omega (arith, c.light, light-percent, four-most (hex_digit (x / 16)), light-hex (x % 16) (omega arith));
        })
