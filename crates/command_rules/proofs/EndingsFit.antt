-- Every line of an ending fits 256 bytes.
use Prim.Native.Nat.{ℕ, ◌≤◌, ◌<◌, ◌^◌}
use native.Mathlib.Omega.{arith}
use mathlib.Core.Path.{◌≡◌, refl}
use mathlib.Core.Bool.{Bool, true, false}
use mathlib.Core.List.{List, ◌++◌}
use lib.Dec.{leb, eqb, lit≤}
use lib.ListN.{length, length-append, take, drop}
use Rattle.base_readers.specs.Texts.{bytes}
use Rattle.text_decimals_rules.specs.Decimals.{decimal}
use Rattle.text_decimals_rules.proofs.DigitsTell.{decimal-length}
use Rattle.ownlist_rules.specs.OwnList.{entry_limit, longest}
use Rattle.command_rules.specs.declared.Ending.{Ending}
use Rattle.command_rules.specs.declared.Ending.TheVariants.{Done, Usage, ListClosed, ListUnread, InputUnread, InputTooLong, OutputTooLong, Unwritten, VerdictsRefused, Refused, LinesRefused}
use Rattle.command_rules.specs.Messages.{until_feed, feeds, fault, fault_at, meaning, lines_meaning, opening, closing, ending_line}

-- what the code can be handed: a number of one byte, and a place
abbrev pub Told : Ending → Type 0
Told (Refused number place) = (number < 256) × (place < 2 ^ 64)
Told (LinesRefused number place) = (number < 256) × (place < 2 ^ 64)
Told Done = Unit {0}
Told Usage = Unit {0}
Told ListClosed = Unit {0}
Told ListUnread = Unit {0}
Told InputUnread = Unit {0}
Told InputTooLong = Unit {0}
Told OutputTooLong = Unit {0}
Told Unwritten = Unit {0}
Told (VerdictsRefused sets) = sets < 2 ^ 64

fault-short : (count : ℕ) (xs : List ℕ) → length (fault count xs) ≤ 38
unfolding fault
fault-short count xs = one (leb entry_limit count) refl
  where
    four : (t u v w : Bool) → leb entry_limit count ≡ t → leb (until_feed xs) longest ≡ u → leb (length xs) (until_feed xs) ≡ v → eqb (until_feed xs) 0 ≡ w → length (fault count xs) ≤ 38
    four true u v w a b c d = rw (fault, a) (lit≤ tt)
    four false false v w a b c d = rw (fault, a, b) (lit≤ tt)
    four false true true w a b c d = rw (fault, a, b, c) (lit≤ tt)
    four false true false true a b c d = rw (fault, a, b, c, d) (lit≤ tt)
    four false true false false a b c d = rw (fault, a, b, c, d) (lit≤ tt)

    one : (t : Bool) → leb entry_limit count ≡ t → length (fault count xs) ≤ 38
    one t a = four t (leb (until_feed xs) longest) (leb (length xs) (until_feed xs)) (eqb (until_feed xs) 0) a refl refl refl

meaning-short : (n place : ℕ) (list : List ℕ) → length (meaning n place list) ≤ 95
unfolding meaning
meaning-short n place list = five (eqb n 1) (eqb n 2) (eqb n 3) (eqb n 4) (eqb n 5) refl refl refl refl refl
  where
    five : (a b c d e : Bool) → eqb n 1 ≡ a → eqb n 2 ≡ b → eqb n 3 ≡ c → eqb n 4 ≡ d → eqb n 5 ≡ e → length (meaning n place list) ≤ 95
    five true b c d e p q r s t = rw (meaning, p) (lit≤ tt)
    five false true c d e p q r s t = rw (meaning, p, q) (lit≤ tt)
    five false false true d e p q r s t = rw (meaning, p, q, r) (lit≤ tt)
    five false false false true e p q r s t = rw (meaning, p, q, r, s) (lit≤ tt)
    five false false false false true p q r s t =
        rw (meaning, p, q, r, s, t)
        (omega (arith, length-append (bytes "a bad entry of the list: ") (fault_at list place), fault-short (feeds (take place list)) (drop place list)))
    five false false false false false p q r s t = rw (meaning, p, q, r, s, t) (lit≤ tt)

lines-short : (n : ℕ) → length (lines_meaning n) ≤ 95
unfolding lines_meaning
lines-short n = two (eqb n 11) (eqb n 1) refl refl
  where
    two : (a b : Bool) → eqb n 11 ≡ a → eqb n 1 ≡ b → length (lines_meaning n) ≤ 95
    two true b p q = rw (lines_meaning, p) (lit≤ tt)
    two false true p q = rw (lines_meaning, p, q) (lit≤ tt)
    two false false p q = rw (lines_meaning, p, q) (lit≤ tt)

opening-short : (n : ℕ) → n < 256 → length (opening n) ≤ 16
opening-short n h =
    let d : length (decimal n) ≤ 3 = decimal-length 2 n (omega arith) in
    omega (arith, length-append (bytes "orbendash: ") (decimal n ++ bytes ": "), length-append (decimal n) (bytes ": "))

closing-short : (place : ℕ) → place < 2 ^ 64 → length (closing place) ≤ 21
closing-short place h =
    let d : length (decimal place) ≤ 20 = decimal-length 19 place (omega arith) in
    omega (arith, length-append (decimal place) (bytes "\n"))

-- the line of an ending fits 256 bytes
pub ending-fits : (e : Ending) (list : List ℕ) → Told e → length (ending_line e list) ≤ 256
unfolding ending_line
ending-fits Done list t = lit≤ tt
ending-fits Usage list t = lit≤ tt
ending-fits ListClosed list t = lit≤ tt
ending-fits ListUnread list t = lit≤ tt
ending-fits InputUnread list t = lit≤ tt
ending-fits InputTooLong list t = lit≤ tt
ending-fits OutputTooLong list t = lit≤ tt
ending-fits Unwritten list t = lit≤ tt
ending-fits (VerdictsRefused sets) list t =
    let front = bytes "orbendash: 10: bad verdicts: a chain that is built needs one digit from 0 to 3 for each set, of which this one has " in
    omega (arith, length-append front (closing sets), closing-short sets t)
ending-fits (Refused n p) list t =
    omega (
      arith,
      length-append (opening n) (meaning n p list ++ (bytes ", at " ++ closing p)),
      length-append (meaning n p list) (bytes ", at " ++ closing p),
      length-append (bytes ", at ") (closing p),
      opening-short n t.0,
      meaning-short n p list,
      closing-short p t.1,
    )
ending-fits (LinesRefused n p) list t =
    omega (arith, length-append (opening n) (lines_meaning n ++ closing p), length-append (lines_meaning n) (closing p), opening-short n t.0, lines-short n, closing-short p t.1)
