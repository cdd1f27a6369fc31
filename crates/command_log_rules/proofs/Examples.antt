-- What is logged at worked examples, by computing it: both sides of each clause.
use Prim.Native.Nat.{ℕ}
use mathlib.Core.Path.{◌≡◌, refl}
use mathlib.Core.List.{List, [], ◌∷◌, ◌++◌, map}
use Rattle.base_readers.specs.Texts.{bytes}
use Rattle.base_readers.proofs.Cases.{case, Says, copies}
use Rattle.text_decimals_rules.specs.Decimals.{digits, decimal}
use Rattle.block_laws.proofs.Limits.{short}
use Rattle.strip_steps_rules.proofs.Examples as steps
use Rattle.report_rules.specs.Report.{plain, escape}
use Rattle.command_log_rules.specs.Log.{goes_line, line_by, lines_by, log_of}

unfoldable pub opened : Unit {0}
unfolding steps.opened plain escape digits decimal goes_line line_by lines_by log_of
opened = tt

-- ==== a line

-- 63, 64 and 65 bytes: the first 64 are shown
lengths : map (λ (n : ℕ). goes_line 1 (copies n 97)) (0 ∷ 63 ∷ 64 ∷ 65 ∷ [])
    ≡ bytes "orbendash: goes: 1: \n"
    ∷ bytes "orbendash: goes: 1: aaaaaaaaaaaaaaaaaaaaaaaaaaaaaaaaaaaaaaaaaaaaaaaaaaaaaaaaaaaaaaa\n"
    ∷ bytes "orbendash: goes: 1: aaaaaaaaaaaaaaaaaaaaaaaaaaaaaaaaaaaaaaaaaaaaaaaaaaaaaaaaaaaaaaaa\n"
    ∷ bytes "orbendash: goes: 1: aaaaaaaaaaaaaaaaaaaaaaaaaaaaaaaaaaaaaaaaaaaaaaaaaaaaaaaaaaaaaaaa\n"
    ∷ []
unfolding opened
lengths = refl

-- the first ones, and each is coded as in a report: spaces, control bytes, "%" and bytes from 127 up; what is cut is bytes of the field
coded :
    Says (goes_line 23)
    (case (bytes "A: b%\t\r\n") (bytes "orbendash: goes: 23: A:%20b%25%09%0D%0A\n")
    ∷ case (0 ∷ 7 ∷ 27 ∷ 31 ∷ 32 ∷ 33 ∷ 126 ∷ 127 ∷ 128 ∷ 255 ∷ []) (bytes "orbendash: goes: 23: %00%07%1B%1F%20!~%7F%80%FF\n")
    ∷ case (copies 63 97 ++ (10 ∷ 10 ∷ [])) (bytes "orbendash: goes: 23: aaaaaaaaaaaaaaaaaaaaaaaaaaaaaaaaaaaaaaaaaaaaaaaaaaaaaaaaaaaaaaa%0A\n")
    ∷ [])
unfolding opened
coded = refl

-- a mark is 1, or the field stays
by-mark : map (λ (m : ℕ). line_by m 7 (bytes "A:")) (0 ∷ 1 ∷ 2 ∷ []) ≡ [] ∷ bytes "orbendash: goes: 7: A:\n" ∷ [] ∷ []
unfolding opened
by-mark = refl

-- ==== a block

abbrev own : List ℕ
own = bytes "a\n"

-- four fields, of which the first, whose identifier can't be read, and the third go; none goes; an empty block
blocks :
    Says (λ b. log_of b own)
    (case (bytes "Authentication-Results:/\r\nA: b\r\nAuthentication-Results: a\r\nAuthentication-Results: c\r\n")
    (bytes "orbendash: goes: 1: Authentication-Results:/%0D%0A\norbendash: goes: 3: Authentication-Results:%20a%0D%0A\n")
    ∷ case (bytes "A: b\r\nAuthentication-Results: c; none\r\n") []
    ∷ case [] []
    ∷ [])
unfolding opened
blocks = refl

-- what another list makes of the same block
lists : map (log_of (bytes "A: b\r\nAuthentication-Results: c\r\n")) ([] ∷ own ∷ bytes "c\n" ∷ [])
    ≡ [] ∷ [] ∷ bytes "orbendash: goes: 2: Authentication-Results:%20c%0D%0A\n" ∷ []
unfolding opened
lists = refl

-- the lines of a folded field are one field
folded : log_of (bytes "A: b\r\n c\r\nAuthentication-Results:\r\n a\r\n") own ≡ bytes "orbendash: goes: 2: Authentication-Results:%0D%0A%20a%0D%0A\n"
unfolding opened
folded = refl

-- ==== nothing where stripping refuses

-- 5: a bad list; 2 and 3: a bad line behind a field that would go
refused : map (log_of (bytes "Authentication-Results: a\r\n")) (bytes "a\nb" ∷ bytes "a\n\n" ∷ own ∷ [])
    ≡ [] ∷ [] ∷ bytes "orbendash: goes: 1: Authentication-Results:%20a%0D%0A\n" ∷ []
unfolding opened
refused = refl

refused-blocks :
    Says (λ b. log_of (bytes "Authentication-Results: a\r\n" ++ b) own)
    (case (bytes "A") [] ∷ case (bytes "\r\n") [] ∷ case (bytes "A:\r\n") (bytes "orbendash: goes: 1: Authentication-Results:%20a%0D%0A\n") ∷ [])
unfolding opened
refused-blocks = refl

-- the 512th field goes; with a 513th, which is refused with 4, none does
last : map (λ (n : ℕ). log_of (short 511 ++ (bytes "Authentication-Results: a\r\n" ++ short n)) own) (0 ∷ 1 ∷ [])
    ≡ bytes "orbendash: goes: 512: Authentication-Results:%20a%0D%0A\n" ∷ [] ∷ []
unfolding opened
last = refl
