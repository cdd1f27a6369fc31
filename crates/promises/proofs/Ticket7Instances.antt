-- An instance of stripping twice by the two calls (02, ticket [7]).
use native.Mathlib.Omega.{arith}
use mathlib.Core.Path.{◌≡◌, refl}
use lib.Dec.{lit≤}
use Rattle.base_readers.specs.Texts.{bytes}
use Rattle.strip_steps_rules.proofs.Examples as steps
use Rattle.promises.specs.Calls.{marks_then_copies}
use Rattle.promises.proofs.Ticket7.{block-example, pair-twice}

twice-example :
    marks_then_copies (bytes "A: b\r\nAuthentication-Results: c\r\n") (bytes "a\n") (bytes "..") (bytes ".................................!")
    ≡ record { answer = record { number = 0; place = 0; kept = 33; removed = 0; fields = 0 }; left = bytes "A: b\r\nAuthentication-Results: c\r\n!" }
unfolding steps.opened
twice-example =
    pair-twice block-example (bytes "a\n") (bytes ".....") (bytes "..................................") (λ e. omega (arith, e)) refl (bytes "..")
    (bytes ".................................!") (λ e. omega (arith, e)) (lit≤ tt)
