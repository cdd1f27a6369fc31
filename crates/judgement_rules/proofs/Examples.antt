-- Judgements as they are written, at worked examples, by computing them.
use Prim.Native.Nat.{ℕ}
use mathlib.Core.Path.{◌≡◌, refl}
use mathlib.Core.List.{[], ◌∷◌, map}
use Rattle.base_readers.specs.Texts.{bytes, within}
use Rattle.text_decimals_rules.specs.Decimals.{digits, decimal}
use Rattle.report_rules.specs.Report.{line}
use Rattle.arc_rules.specs.declared.Judged.{Judged}
use Rattle.judgement_rules.specs.Judgement.{verdict_of, outcome_word, reason_letter, status_word, oldest_word, columns_line, reason_words, field_words, sets_words, oldest_words, status_words, chain_words, judgement}

-- number, place and what the call returns besides
abbrev judged : ℕ → ℕ → ℕ → ℕ → ℕ → ℕ → Judged
judged o r f n s p = record { number = 0; place = 0; outcome = o; reason = r; field = f; instances = n; status = s; oldest = p }

verdicts : map verdict_of (bytes "0123/4 x") ≡ 0 ∷ 1 ∷ 2 ∷ 3 ∷ 255 ∷ 255 ∷ 255 ∷ 255 ∷ []
unfolding verdict_of within
verdicts = refl

no-chain : judgement (judged 0 0 0 0 0 0) ≡ bytes "chain\tnone\t-\t0\t0\tnone\t-\nThere is no ARC field.\n"
unfolding judgement columns_line chain_words line outcome_word reason_letter status_word oldest_word decimal digits
no-chain = refl

passed :
    judgement (judged 2 0 0 2 1 0)
    ≡ bytes "chain\tbuilt\t-\t0\t2\tpass\t0\nThe chain is built, with 2 sets; pass: every seal and the last signature are good, and so is every other signature\n"
unfolding judgement columns_line chain_words line outcome_word reason_letter status_word oldest_word sets_words status_words oldest_words decimal digits
passed = refl

since :
    judgement (judged 2 0 0 12 1 3)
    ≡ bytes "chain\tbuilt\t-\t0\t12\tpass\t3\nThe chain is built, with 12 sets; pass: every seal and the last signature are good; oldest-pass is 3\n"
unfolding judgement columns_line chain_words line outcome_word reason_letter status_word oldest_word sets_words status_words oldest_words decimal digits
since = refl

not_good : judgement (judged 2 0 0 1 2 0) ≡ bytes "chain\tbuilt\t-\t0\t1\tfail\t-\nThe chain is built, with 1 set; fail: a seal or the last signature is not good\n"
unfolding judgement columns_line chain_words line outcome_word reason_letter status_word oldest_word sets_words status_words oldest_words decimal digits
not_good = refl

unread : judgement (judged 1 1 7 0 2 0) ≡ bytes "chain\tfailed\ta\t7\t0\tfail\t-\nThe chain is failed: an ARC field can't be read, field 7\n"
unfolding judgement columns_line chain_words line outcome_word reason_letter status_word oldest_word reason_words field_words decimal digits
unread = refl

repeated : judgement (judged 1 2 10 0 2 0) ≡ bytes "chain\tfailed\tb\t10\t0\tfail\t-\nThe chain is failed: a kind of ARC field is there twice at one instance, field 10\n"
unfolding judgement columns_line chain_words line outcome_word reason_letter status_word oldest_word reason_words field_words decimal digits
repeated = refl

lacking : judgement (judged 1 3 0 0 2 0) ≡ bytes "chain\tfailed\tc\t0\t0\tfail\t-\nThe chain is failed: an instance lacks a kind of ARC field\n"
unfolding judgement columns_line chain_words line outcome_word reason_letter status_word oldest_word reason_words field_words decimal digits
lacking = refl

sealed-fail : judgement (judged 1 4 0 0 2 0) ≡ bytes "chain\tfailed\td\t0\t0\tfail\t-\nThe chain is failed: the last seal has cv=fail\n"
unfolding judgement columns_line chain_words line outcome_word reason_letter status_word oldest_word reason_words field_words decimal digits
sealed-fail = refl

another-value : judgement (judged 1 5 0 0 2 0) ≡ bytes "chain\tfailed\te\t0\t0\tfail\t-\nThe chain is failed: a seal's cv is not the one that RFC 8617 prescribes\n"
unfolding judgement columns_line chain_words line outcome_word reason_letter status_word oldest_word reason_words field_words decimal digits
another-value = refl
