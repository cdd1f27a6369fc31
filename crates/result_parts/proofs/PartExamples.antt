-- Reasons and labels at worked examples, computed.
use Prim.Native.Nat.{ℕ}
use mathlib.Core.Path.{refl}
use mathlib.Core.Bool.{true, false}
use mathlib.Core.List.{List, [], ◌∷◌}
use Rattle.base_readers.specs.Texts.{bytes}
use Rattle.base_readers.specs.Parsers.{Got, nothing, got}
use Rattle.base_readers.proofs.Cases.{Case, case, Says}
use Rattle.lexis_rules.specs.Answers.{value_at}
use Rattle.result_parts.specs.declared.Reason.TheVariants.{Stated, Absent}
use Rattle.std.specs.Prelude.{None}
use Rattle.result_rules.specs.Results.{reason}
use Rattle.result_separators.specs.Separators.{separated, past}
use Rattle.result_parts.specs.Parts.{label_read, reason_from, reason_at, reason_got, Names, names, names_at, label_from, label_at, label_got}
use Rattle.result_rules.proofs.Unfolding as definitions

unfoldable opened : Unit {0}
unfolding definitions.opened value_at separated past reason_from names names_at label_from
opened = tt

-- ==== the reason

reason_places :
    Says (λ s. reason_at s 0)
    (case (bytes " reason=ok") (Stated 8 10 false)
    ∷ case (bytes "(c)reason=x;") (Stated 10 11 false)
    ∷ case (bytes " REASON = \"a b\"") (Stated 10 15 true)
    ∷ case (bytes "reason=ok") Absent
    ∷ case (bytes " reasons=ok") Absent
    ∷ case (bytes " reaso=ok") Absent
    ∷ case (bytes " reason.a=ok") Absent
    ∷ case (bytes " reason=") Absent
    ∷ case (bytes " reason=\"a") Absent
    ∷ case (bytes " ") Absent
    ∷ case [] Absent
    ∷ [])
unfolding opened
reason_places = refl

-- behind a part that ends at 0, asked at 2: what stands between is the caller's to know
reasons_asked :
    Says (λ s. reason_from s 0 2)
    (case (bytes "  reason=ok") (Stated 9 11 false)
    ∷ case (bytes "a reason=ok") (Stated 9 11 false)
    ∷ case (bytes "   reason=ok") Absent
    ∷ case (bytes " reason=ok") Absent
    ∷ case [] Absent
    ∷ [])
unfolding opened
reasons_asked = refl

abbrev reason_texts : List (Case (Got (List ℕ)))
reason_texts =
    case (bytes " reason=ok") (got (bytes "ok") 10)
    ∷ case (bytes " reason=\"a \\\"b\"") (got (bytes "a \"b") 15)
    ∷ case (bytes " reason=\"\"") (got [] 10)
    ∷ case (bytes " smtp.a=b") nothing
    ∷ []

reasons_parsed : Says reason reason_texts
unfolding opened
reasons_parsed = refl

reasons_found : Says (λ s. reason_got s (reason_at s 0)) reason_texts
unfolding opened
reasons_found = refl

-- ==== what stands before a property value

label_places :
    Says (λ s. label_at s 0)
    (case (bytes " smtp.mailfrom=a@b.c") (label_read 1 5 6 14 15)
    ∷ case (bytes " header . d = x") (label_read 1 7 10 11 14)
    ∷ case (bytes " reason.a=x") (label_read 1 7 8 9 10)
    ∷ case (bytes " smtp.a=") (label_read 1 5 6 7 8)
    ∷ case (bytes "smtp.a=x") None
    ∷ case (bytes " smtp=x") None
    ∷ case (bytes " smtp.=x") None
    ∷ case (bytes " smtp..a=x") None
    ∷ case (bytes " smtp-.a=x") None
    ∷ case (bytes " smtp.a") None
    ∷ case [] None
    ∷ [])
unfolding opened
label_places = refl

abbrev label_texts : List (Case (Got Names))
label_texts =
    case (bytes " SMTP.MailFrom = x") (got (record { ptype = bytes "smtp"; property = bytes "mailfrom" }) 17)
    ∷ case (bytes " smtp;a=x") nothing
    ∷ []

labels_parsed : Says names label_texts
unfolding opened
labels_parsed = refl

labels_found : Says (λ s. label_got s (label_at s 0)) label_texts
unfolding opened
labels_found = refl
