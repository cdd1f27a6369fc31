-- The last line tells the number of its ending and, for a refusal, the place: read back from its bytes, whatever our own list is. So no two refusals that differ in
-- number or place have the same line.
use Prim.Native.Nat.{ℕ, zero, suc, ◌+◌, ◌*◌, ◌-◌, ◌/◌, ◌%◌, ◌≤◌, ◌<◌}
use native.Mathlib.Omega.{arith}
use mathlib.Core.Path.{◌≡◌, refl, ◌∙◌}
use mathlib.Core.Bool.{Bool, true, false}
use mathlib.Core.List.{List, [], ◌∷◌, ◌++◌}
use lib.Dec.{ltb, eqb}
use lib.ListN.{take}
use borrow.Author.Tests.{ltb-true, ltb-false, le-leb}
use Rattle.base_readers.specs.Texts.{bytes, within}
use Rattle.base_readers.specs.Readers.{run}
use Rattle.text_decimals_rules.specs.Decimals.{digit, digits, decimal, told}
use Rattle.text_decimals_rules.proofs.DigitsTell.{decimal-told}
use Rattle.command_rules.specs.declared.Ending.{Ending}
use Rattle.command_rules.specs.declared.Ending.TheVariants.{Done, Usage, ListClosed, ListUnread, InputUnread, InputTooLong, OutputTooLong, Unwritten, VerdictsRefused, Refused, LinesRefused}
use Rattle.command_rules.specs.Messages.{meaning, lines_meaning, opening, closing, ending_line}
use Rattle.command_laws.specs.LastLine.{is_digit, line_number, last_number, line_place, number_of}

-- ==== digits

pub data Digits : List ℕ → Type 0 where
  no_digit : Digits []
  digit_then : {x : ℕ} {xs : List ℕ} → is_digit x ≡ true → Digits xs → Digits (x ∷ xs)

digit-is : (n : ℕ) → n < 10 → is_digit (digit n) ≡ true
unfolding within
digit-is n h = rw (within, le-leb 48 (48 + n) (omega arith), le-leb (48 + n) 57 (omega arith))

digits-then : {xs ys : List ℕ} → Digits xs → Digits ys → Digits (xs ++ ys)
digits-then no_digit e = e
digits-then (digit_then d ds) e = digit_then d (digits-then ds e)

digits-all : (k n : ℕ) → n ≤ k → Digits (digits k n)
unfolding digits
digits-all zero n h = digit_then (digit-is n (omega arith)) no_digit
digits-all (suc k) n h = go (ltb n 10) refl (λ m l. digits-all k m l)
  where
    go : (t : Bool) → ltb n 10 ≡ t → ((m : ℕ) → m ≤ k → Digits (digits k m)) → Digits (digits (suc k) n)
    go true e ih = rw (digits, e) (digit_then (digit-is n (ltb-true n 10 e)) no_digit)
    go false e ih = rw (digits, e) (digits-then (ih (n / 10) (omega (arith, ltb-false n 10 e))) (digit_then (digit-is (n % 10) (omega arith)) no_digit))

pub decimal-digits : (n : ℕ) → Digits (decimal n)
unfolding decimal
decimal-digits n = digits-all n n (omega arith)

-- ==== the number in front

ahead : {xs : List ℕ} → Digits xs → (n : ℕ) (ys zs : List ℕ) → told n (take (run is_digit ((xs ++ (58 ∷ ys)) ++ zs)) ((xs ++ (58 ∷ ys)) ++ zs)) ≡ told n xs
unfolding run told within
ahead no_digit n ys zs = refl
ahead (digit_then {x} {xs} d ds) n ys zs = rw (run, d) (ahead ds (10 * n + (x - 48)) ys zs)

opening-number : (n : ℕ) (rest : List ℕ) → line_number (opening n ++ rest) ≡ n
opening-number n rest = ahead (decimal-digits n) 0 (32 ∷ []) rest ∙ decimal-told n

-- every line tells the number of its ending
pub line-number : (e : Ending) (list : List ℕ) → line_number (ending_line e list) ≡ number_of e
unfolding ending_line run told within
line-number Done list = refl
line-number Usage list = refl
line-number ListClosed list = refl
line-number ListUnread list = refl
line-number InputUnread list = refl
line-number InputTooLong list = refl
line-number OutputTooLong list = refl
line-number Unwritten list = refl
line-number (VerdictsRefused sets) list = refl
line-number (Refused n p) list = opening-number n (meaning n p list ++ (bytes ", at " ++ closing p))
line-number (LinesRefused n p) list = opening-number n (lines_meaning n ++ closing p)

-- ==== the number at the end

closed : {xs : List ℕ} → Digits xs → (n : ℕ) → last_number n (xs ++ (10 ∷ [])) ≡ told n xs
unfolding last_number told within
closed no_digit n = refl
closed (digit_then {x} {xs} d ds) n = rw (last_number, d) (closed ds (10 * n + (x - 48)))

closing-place : (p : ℕ) → last_number 0 (closing p) ≡ p
closing-place p = closed (decimal-digits p) 0 ∙ decimal-told p

-- what stands before doesn't matter to what tells the same after anything
behind : (w z : List ℕ) (v : ℕ) → ((n : ℕ) → last_number n z ≡ v) → (n : ℕ) → last_number n (w ++ z) ≡ v
unfolding last_number
behind [] z v h n = h n
behind (x ∷ w) z v h n = digit' (is_digit x) refl (behind w z v h)
  where
    feed : (t : Bool) → eqb x 10 ≡ t → is_digit x ≡ false → ((m : ℕ) → last_number m (w ++ z) ≡ v) → last_number n (x ∷ (w ++ z)) ≡ v
    feed true e d ih = rw (last_number, d, e) (ih n)
    feed false e d ih = rw (last_number, d, e) (ih 0)

    digit' : (t : Bool) → is_digit x ≡ t → ((m : ℕ) → last_number m (w ++ z) ≡ v) → last_number n (x ∷ (w ++ z)) ≡ v
    digit' true e ih = rw (last_number, e) (ih (10 * n + (x - 48)))
    digit' false e ih = feed (eqb x 10) refl e ih

at_place : (p n : ℕ) → last_number n (bytes ", at " ++ closing p) ≡ p
unfolding last_number within
at_place p n = closing-place p

lines-place : (number p n : ℕ) → last_number n (lines_meaning number ++ closing p) ≡ p
unfolding last_number lines_meaning within
lines-place number p n = two (eqb number 11) (eqb number 1) refl refl
  where
    two : (a b : Bool) → eqb number 11 ≡ a → eqb number 1 ≡ b → last_number n (lines_meaning number ++ closing p) ≡ p
    two true b s t = rw (lines_meaning, s) (closing-place p)
    two false true s t = rw (lines_meaning, s, t) (closing-place p)
    two false false s t = rw (lines_meaning, s, t) (closing-place p)

-- the line of a refusal tells its place
pub refusal-place : (n p : ℕ) (list : List ℕ) → line_place (ending_line (Refused n p) list) ≡ p
unfolding ending_line
refusal-place n p list = behind (opening n) _ p (behind (meaning n p list) (bytes ", at " ++ closing p) p (at_place p)) 0

pub lines-refusal-place : (n p : ℕ) (list : List ℕ) → line_place (ending_line (LinesRefused n p) list) ≡ p
unfolding ending_line
lines-refusal-place n p list = behind (opening n) (lines_meaning n ++ closing p) p (lines-place n p) 0

-- that of bad verdicts tells how many sets the chain has
pub verdicts-sets : (sets : ℕ) (list : List ℕ) → line_place (ending_line (VerdictsRefused sets) list) ≡ sets
unfolding ending_line last_number within
verdicts-sets sets list = closing-place sets
