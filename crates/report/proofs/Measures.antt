-- The answers of `measure`, one law for each way out of the code: the largest room is enough for every report, which has at most three bytes for each
-- byte of its body, and four more.
use Prim.Native.Nat.{ℕ, ◌≤◌}
use native.Mathlib.Omega.{arith}
use mathlib.Core.Path.{◌≡◌, refl, sym, ap, ◌∙◌}
use mathlib.Core.Bool.{Bool, true, false}
use mathlib.Core.List.{List}
use borrow.Author.Tests.{ltb-true, ltb-false}
use lib.Dec.{ltb}
use lib.ListN.{length}
use Rattle.base_sequences.specs.Stored.{cap}
use Rattle.lexis_rules.specs.Limits.{byte_limit}
use Rattle.identifier.specs.declared.Identifier.TheVariants.{Unreadable}
use Rattle.identifier.specs.Answers.{identifier_at}
use Rattle.identifier.proofs.Identifiers.{identifier-not}
use Rattle.report_rules.specs.Body.{Reading, unreadable, malformed, newer, no_result, results, reading}
use Rattle.report_rules.specs.Report.{report}
use Rattle.report_rules.specs.Answers.{answer_of}
use Rattle.report_rules.specs.ByCase.{told}
use Rattle.report_rules.specs.declared.Reported.{Reported}
use Rattle.report_laws.proofs.Rooms.{text-size}
use Rattle.report_laws.proofs.Numbers.{when-one, when-told}
use Rattle.report.specs.Internal.{refused, whole_answer, Said}
use Rattle.report.proofs.Ends.{reading-not}

whole-told : (x : Reading) → whole_answer x ≡ answer_of (told x)
whole-told unreadable = refl
whole-told malformed = refl
whole-told (newer h) = refl
whole-told (no_result i) = refl
whole-told (results i rs) = refl

module _ (s : List ℕ) (big : Bool) (b : big ≡ ltb byte_limit (length s)) where
  pub measured-1 : big ≡ true → (r : Reported) → r ≡ refused 1 0 → r ≡ answer_of (report s cap)
  measured-1 t r e = e ∙ ap answer_of (sym (when-one s cap (ltb-true byte_limit (length s) (sym b ∙ t))))

  module _ (f : big ≡ false) where
    small : length s ≤ byte_limit
    small = ltb-false byte_limit (length s) (sym b ∙ f)

    told-all : report s cap ≡ told (reading s)
    told-all = when-told s cap small (omega (arith, text-size s small, small))

    pub measured-7 : Unreadable ≡ identifier_at s → (r : Reported) → r ≡ refused 7 0 → r ≡ answer_of (report s cap)
    measured-7 u r e = e ∙ ap answer_of (ap told (sym (reading-not s (identifier-not s u))) ∙ sym told-all)

    pub measured-told : (old new : List ℕ) (r : Reported) → Said (reading s) old new r → r ≡ answer_of (report s cap)
    measured-told old new r k = k.answer ∙ (whole-told (reading s) ∙ ap answer_of (sym told-all))
