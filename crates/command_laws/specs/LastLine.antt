-- What the last line tells, read back from its bytes: the number behind the command's name, which is the exit status, and the number at its end, which is the place.
use Prim.Native.Char.{code}
use Rattle.std.specs.Prelude.{ℕ, ◌+◌, ◌*◌, ◌-◌, ◌≡◌, Bool, true, false, List, [], ◌∷◌, eqb, length, take, drop}
use Rattle.base_readers.specs.Texts.{bytes, within}
use Rattle.base_readers.specs.Readers.{run}
use Rattle.text_decimals_rules.specs.Decimals.{told}
use Rattle.command_rules.specs.declared.Ending.{Ending}
use Rattle.command_rules.specs.declared.Ending.TheVariants.{Done, Usage, ListClosed, ListUnread, InputUnread, InputTooLong, OutputTooLong, Unwritten, VerdictsRefused, Refused, LinesRefused}
use Rattle.command_rules.specs.Messages.{ending_line}
use Rattle.command_output_rules.specs.Outputs.{Output, front, ending_after}

abbrev pub is_digit : ℕ → Bool
is_digit x = within (code "0") (code "9") x

-- the number that the digits at the front tell
abbrev pub number_ahead : List ℕ → ℕ
number_ahead xs = told 0 (take (run is_digit xs) xs)

-- behind the 11 bytes of "orbendash: "
abbrev pub line_number : List ℕ → ℕ
line_number line = number_ahead (drop 11 line)

-- the number that the last digits tell, after those that told `n`: a byte that is no digit begins anew, but for the LF at the end
unfoldable pub last_number : ℕ → List ℕ → ℕ
last_number n [] = n
last_number n (x ∷ xs) =
    elim (is_digit x) [
      | true ↦ last_number (10 * n + (x - code "0")) xs
      | false ↦ (elim (eqb x (code "\n")) [ true ↦ last_number n xs | false ↦ last_number 0 xs ])
    ]

abbrev pub line_place : List ℕ → ℕ
line_place line = last_number 0 line

-- the number of each ending: those of a refusal are the call's, the others the command's own (sysexits.h)
abbrev pub number_of : Ending → ℕ
number_of Done = 0
number_of Usage = 64
number_of ListClosed = 66
number_of ListUnread = 66
number_of InputUnread = 74
number_of InputTooLong = 74
number_of OutputTooLong = 70
number_of Unwritten = 74
number_of (VerdictsRefused sets) = 10
number_of (Refused number place) = number
number_of (LinesRefused number place) = number

-- the last line, by what a subcommand made, whether all of its output went, and our own list
abbrev pub last_line : Output → Bool → List ℕ → List ℕ
last_line o went list = ending_line (ending_after o.made went) list

-- a call answered this number and this place, and its whole output is this text. Where the number is 0, the text stands at the front of the lent buffer, and once it
-- has gone the line says so; where the number is another, the line tells it and the place, nothing is counted, and the buffer is as it was. 0 is told in no other case
pub record Tells (number place : ℕ) (text old list : List ℕ) (o : Output) : Type 0 where
  pub output : number ≡ 0 → (o.made.written ≡ length text) × (o.left ≡ front text old)
  pub done : number ≡ 0 → last_line o true list ≡ bytes "orbendash: 0: done\n"
  pub unwritten : number ≡ 0 → last_line o false list ≡ bytes "orbendash: 74: standard output can't be written\n"
  pub silent : (number ≡ 0 → ⊥) → (o.made.written ≡ 0) × (o.left ≡ old)
  pub refused : (number ≡ 0 → ⊥) → (went : Bool) → (line_number (last_line o went list) ≡ number) × (line_place (last_line o went list) ≡ place)
  pub zero : (went : Bool) → line_number (last_line o went list) ≡ 0 → (number ≡ 0) × (went ≡ true)
