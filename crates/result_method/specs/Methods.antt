-- What the code's answers on a method, its version and its result say: these by their places, and the texts that stand there.
use Prim.Native.Char.{code}
use Rattle.std.specs.Prelude.{ℕ, List, drop}
use Rattle.base_readers.specs.Parsers.{Got, nothing, got}
use Rattle.lexis_rules.specs.declared.VersionNumber.{VersionNumber}
use Rattle.lexis_rules.specs.Pieces.{keyword, digits}
use Rattle.lexis_rules.specs.Numbers.{number_of, one}
use Rattle.lexis_rules.specs.Words.{keyword_text}
use Rattle.result_method.specs.declared.MethodVersion.{MethodVersion}
use Rattle.result_method.specs.declared.Method.{Method}
use Rattle.result_method.specs.declared.Method.TheVariants.{Read, Missing}
use Rattle.result_rules.specs.Results.{Methodspec}
use Rattle.result_separators.specs.Separators.{spaced, separated, behind}
use Rattle.base_sequences.specs.Spans.{span}

-- a version that ends at a place, with its number
abbrev pub version_to : List ℕ → ℕ → VersionNumber → MethodVersion
version_to s e v = record { end = e; gap = spaced s e; number = v }

-- absent means 1
abbrev pub unversioned : List ℕ → ℕ → MethodVersion
unversioned s at = version_to s at one

-- "/" and a digit run, if they can be read: the place after it, and its number
unfoldable pub method_version_at : List ℕ → ℕ → MethodVersion
method_version_at s at =
    behind (separated (code "/")) s at (unversioned s at) (λ a. behind digits s a (unversioned s at) (λ e. version_to s e (number_of (drop a s))))

-- "=" at a place and a result keyword, behind a method from a up to e
unfoldable pub result_at : List ℕ → ℕ → ℕ → MethodVersion → Method
result_at s a e v =
    behind (separated (code "=")) s v.end Missing (λ f. behind keyword s f Missing (λ g. Read a e v.number f g))

unfoldable pub method_at : List ℕ → ℕ → Method
method_at s at = behind keyword s at Missing (λ e. result_at s at e (method_version_at s e))

-- the texts of a method and its result that were found, the number of the version, and the place after them
abbrev pub method_got : List ℕ → Method → Got Methodspec
method_got s (Read a e v f g) = got (record { method = keyword_text (span s a e); version = v; result = keyword_text (span s f g) }) g
method_got s Missing = nothing
