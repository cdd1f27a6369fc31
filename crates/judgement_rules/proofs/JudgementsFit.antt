-- What is said of a judgement fits 512 bytes, whatever its numbers are that the machine can hold.
use Prim.Native.Nat.{ℕ, ◌≤◌, ◌<◌, ◌^◌}
use native.Mathlib.Omega.{arith}
use mathlib.Core.Bool.{Bool, true, false, cond}
use mathlib.Core.List.{List, [], ◌∷◌, ◌++◌}
use lib.Dec.{eqb, lit≤}
use lib.ListN.{length, length-append}
use Rattle.base_readers.specs.Texts.{bytes}
use Rattle.text_decimals_rules.specs.Decimals.{decimal}
use Rattle.text_decimals_rules.proofs.DigitsTell.{decimal-length}
use Rattle.report_rules.specs.Report.{line}
use Rattle.arc_rules.specs.declared.Judged.{Judged}
use Rattle.judgement_rules.specs.Judgement.{outcome_word, reason_letter, status_word, oldest_word, columns_line, reason_words, field_words, sets_words, oldest_words, status_words, chain_words, judgement}

-- a choice is no longer than both
either-short : (b : Bool) (x y : List ℕ) (m : ℕ) → length x ≤ m → length y ≤ m → length (cond b x y) ≤ m
either-short true x y m p q = p
either-short false x y m p q = q

number_short : (n : ℕ) → n < 2 ^ 64 → length (decimal n) ≤ 20
number_short n h = decimal-length 19 n (omega arith)

outcome-short : (n : ℕ) → length (outcome_word n) ≤ 6
unfolding outcome_word
outcome-short n = either-short (eqb n 0) _ _ 6 (lit≤ tt) (either-short (eqb n 1) _ _ 6 (lit≤ tt) (lit≤ tt))

letter-short : (n : ℕ) → length (reason_letter n) ≤ 1
unfolding reason_letter
letter-short n =
    either-short (eqb n 1) _ _ 1 (lit≤ tt)
    (either-short (eqb n 2) _ _ 1 (lit≤ tt)
    (either-short (eqb n 3) _ _ 1 (lit≤ tt)
    (either-short (eqb n 4) _ _ 1 (lit≤ tt)
    (either-short (eqb n 5) _ _ 1 (lit≤ tt) (lit≤ tt)))))

status-short : (n : ℕ) → length (status_word n) ≤ 4
unfolding status_word
status-short n = either-short (eqb n 0) _ _ 4 (lit≤ tt) (either-short (eqb n 1) _ _ 4 (lit≤ tt) (lit≤ tt))

oldest-short : (s n : ℕ) → n < 2 ^ 64 → length (oldest_word s n) ≤ 20
unfolding oldest_word
oldest-short s n h = either-short (eqb s 1) _ _ 20 (number_short n h) (lit≤ tt)

reason-short : (n : ℕ) → length (reason_words n) ≤ 52
unfolding reason_words
reason-short n =
    either-short (eqb n 1) _ _ 52 (lit≤ tt)
    (either-short (eqb n 2) _ _ 52 (lit≤ tt)
    (either-short (eqb n 3) _ _ 52 (lit≤ tt)
    (either-short (eqb n 4) _ _ 52 (lit≤ tt) (lit≤ tt))))

field-short : (n : ℕ) → n < 2 ^ 64 → length (field_words n) ≤ 28
unfolding field_words
field-short n h = either-short (eqb n 0) _ _ 28 (lit≤ tt) (omega (arith, length-append (bytes ", field ") (decimal n), number_short n h))

sets-short : (n : ℕ) → n < 2 ^ 64 → length (sets_words n) ≤ 25
unfolding sets_words
sets-short n h =
    let w = cond (eqb n 1) (bytes " set") (bytes " sets") in
    omega (arith, length-append (decimal n) w, number_short n h, either-short (eqb n 1) (bytes " set") (bytes " sets") 5 (lit≤ tt) (lit≤ tt))

since-short : (n : ℕ) → n < 2 ^ 64 → length (oldest_words n) ≤ 37
unfolding oldest_words
since-short n h = either-short (eqb n 0) _ _ 37 (lit≤ tt) (omega (arith, length-append (bytes "; oldest-pass is ") (decimal n), number_short n h))

verdict-short : (s n : ℕ) → n < 2 ^ 64 → length (status_words s n) ≤ 85
unfolding status_words
verdict-short s n h =
    either-short (eqb s 1) _ _ 85
    (omega (arith, length-append (bytes "pass: every seal and the last signature are good") (oldest_words n), since-short n h))
    (lit≤ tt)

module _ (j : Judged) (f : j.field < 2 ^ 64) (i : j.instances < 2 ^ 64) (o : j.oldest < 2 ^ 64) where
  columns-short : length (columns_line j) ≤ 100
  unfolding columns_line line
  columns-short =
      simp length-append
      (omega (
        arith,
        outcome-short j.outcome,
        letter-short j.reason,
        number_short j.field f,
        number_short j.instances i,
        status-short j.status,
        oldest-short j.status j.oldest o,
      ))

  chain-short : length (chain_words j) ≤ 140
  unfolding chain_words
  chain-short =
      either-short (eqb j.outcome 0) _ _ 140 (lit≤ tt)
      (either-short (eqb j.outcome 1) _ _ 140
      (omega (
        arith,
        length-append (bytes "The chain is failed: ") (reason_words j.reason ++ field_words j.field),
        length-append (reason_words j.reason) (field_words j.field),
        reason-short j.reason,
        field-short j.field f,
      ))
      (omega (
        arith,
        length-append (bytes "The chain is built, with ") (sets_words j.instances ++ (bytes "; " ++ status_words j.status j.oldest)),
        length-append (sets_words j.instances) (bytes "; " ++ status_words j.status j.oldest),
        length-append (bytes "; ") (status_words j.status j.oldest),
        sets-short j.instances i,
        verdict-short j.status j.oldest o,
      )))

  pub judgement-short : length (judgement j) ≤ 512
  unfolding judgement
  judgement-short = omega (arith, length-append (columns_line j) (chain_words j ++ (10 ∷ [])), length-append (chain_words j) (10 ∷ []), columns-short, chain-short)
