-- What the words of a call ask for: `strip LIST`, `log LIST`, `report LIST`, `explain LIST`, `judge VERDICTS`, `check LIST` or `write`.
use Rattle.std.specs.Prelude.{ℕ, cond, List, eqb, Option, None, Some}
use Rattle.base_readers.specs.Texts.{bytes, same}
use Rattle.command_rules.specs.declared.Asked.{Asked}
use Rattle.command_rules.specs.declared.Asked.TheVariants.{Strip, Log, Report, Explain, Judge, Check, Write}

-- the modes that take a list or verdicts, and the one that takes nothing more, by their word; None for any other word
abbrev pub listed : List ℕ → Option Asked
listed word =
    cond (same word (bytes "strip")) (Some Strip)
    (cond (same word (bytes "report")) (Some Report)
    (cond (same word (bytes "explain")) (Some Explain)
    (cond (same word (bytes "judge")) (Some Judge) (cond (same word (bytes "check")) (Some Check) (cond (same word (bytes "log")) (Some Log) None)))))

abbrev pub unlisted : List ℕ → Option Asked
unlisted word = cond (same word (bytes "write")) (Some Write) None

-- how many words there are, with the command's own name, and the first behind that
unfoldable pub asked : ℕ → List ℕ → Option Asked
asked count word = cond (eqb count 3) (listed word) (cond (eqb count 2) (unlisted word) None)
