-- The bytes of keywords, domains and local parts are below 127, because each range and each list of their classes is. So what holds of such
-- bytes can be computed for all of them.
use Prim.Native.Nat.{ℕ, ◌≤◌, ◌<◌, suc-le-suc}
use native.Mathlib.Omega.{arith}
use mathlib.Core.Path.{◌≡◌, refl}
use mathlib.Core.Bool.{Bool, true, false, ◌||◌}
use lib.Dec.{eqb, leb, lit≤}
use borrow.Author.Tests.{leb-true, eqb-true}
use Rattle.base_sequences.proofs.Booleans.{and_right}
use Rattle.base_readers.specs.Texts.{bytes, within}
use Rattle.base_readers.proofs.Texts.{one_in}
use Rattle.lexis_rules.specs.declared.Class.TheVariants.{Digit, Keyword}
use Rattle.lexis_rules.specs.Bytes.{in_class, letter}
use Rattle.result_rules.specs.Results.{alphanumeric, in_local_part, in_domain}

or_cases : {C : Type 0} (a b : Bool) → (a || b) ≡ true → (a ≡ true → C) → (b ≡ true → C) → C
or_cases true b e f g = f refl
or_cases false b e f g = g e

within-bound : (low high b : ℕ) → high ≤ 126 → within low high b ≡ true → b < 127
unfolding within
within-bound low high b l e = omega (arith, leb-true b high (and_right (leb low b) _ e))

separator-bound : (k b : ℕ) → k ≤ 126 → eqb b k ≡ true → b < 127
separator-bound k b l e = omega (arith, eqb-true b k e)

letter-bound : (b : ℕ) → letter b ≡ true → b < 127
unfolding letter
letter-bound b e = or_cases (within 65 90 b) _ e (within-bound 65 90 b (lit≤ tt)) (within-bound 97 122 b (lit≤ tt))

digit-bound : (b : ℕ) → in_class Digit b ≡ true → b < 127
unfolding in_class
digit-bound b e = within-bound 48 57 b (lit≤ tt) e

pub keyword-bound : (b : ℕ) → in_class Keyword b ≡ true → b < 127
unfolding in_class
keyword-bound b e =
    or_cases (letter b || within 48 57 b) _ e (λ f. or_cases (letter b) _ f (letter-bound b) (within-bound 48 57 b (lit≤ tt))) (separator-bound 45 b (lit≤ tt))

pub domain-bound : (b : ℕ) → in_domain b ≡ true → b < 127
unfolding in_domain
domain-bound b e = or_cases (in_class Keyword b) _ e (keyword-bound b) (separator-bound 46 b (lit≤ tt))

pub local-bound : (b : ℕ) → in_local_part b ≡ true → b < 127
unfolding in_local_part alphanumeric
local-bound b e =
    or_cases (letter b || in_class Digit b) _ e (λ f. or_cases (letter b) _ f (letter-bound b) (digit-bound b))
    (λ f. suc-le-suc (leb-true b 126 (one_in (bytes "!#$%&'*+-/=?^_`{|}~.") (λ b. leb b 126) refl b f)))
