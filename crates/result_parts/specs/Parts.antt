-- What the code's answers on reasons and labels say: these by their places, and the texts that stand there.
use Prim.Native.Char.{code}
use Rattle.std.specs.Prelude.{ℕ, true, false, List, drop, Option, Some, None}
use Rattle.base_readers.specs.Texts.{bytes}
use Rattle.base_readers.specs.Readers.{Reader, passing}
use Rattle.base_readers.specs.Parsers.{Got, nothing, got, Parser, ◌>>=◌, ◌>>◌, give}
use Rattle.lexis_rules.specs.declared.Value.{Value}
use Rattle.lexis_rules.specs.declared.Value.TheVariants.{Token, Quoted, Nothing}
use Rattle.lexis_rules.specs.Bytes.{alike}
use Rattle.lexis_rules.specs.Pieces.{keyword}
use Rattle.lexis_rules.specs.Words.{quoted_text, keyword_text, gap, read_keyword}
use Rattle.lexis_rules.specs.Answers.{value_at}
use Rattle.result_parts.specs.declared.Reason.{Reason}
use Rattle.result_parts.specs.declared.Reason.TheVariants.{Stated, Absent}
use Rattle.result_parts.specs.declared.Label.{Label}
use Rattle.result_rules.specs.Results.{separator}
use Rattle.result_separators.specs.Separators.{spaced, separated, past, behind}
use Rattle.base_sequences.specs.Spans.{span}

-- ==== the reason

-- the word reason, in any case
abbrev pub reason_word : Reader
reason_word = passing (λ k. alike k (bytes "reason")) keyword

-- a value is a reason as it stands, quoted or not
abbrev pub stated_as : Value → Reason
stated_as (Token a e) = Stated a e false
stated_as (Quoted a e) = Stated a e true
stated_as Nothing = Absent

-- behind a part that ends at `at`, reason "=" value at the place a: not where that is the same place
unfoldable pub reason_from : List ℕ → ℕ → ℕ → Reason
reason_from s at a =
    past at a Absent (λ a. behind reason_word s a Absent (λ e. behind (separated (code "=")) s e Absent (λ v. stated_as (value_at s v))))

-- after non-empty space
abbrev pub reason_at : List ℕ → ℕ → Reason
reason_at s at = reason_from s at (spaced s at)

-- the text of a reason that was found, and the place after it
abbrev pub reason_got : List ℕ → Reason → Got (List ℕ)
reason_got s (Stated a e true) = got (quoted_text (drop a s)) e
reason_got s (Stated a e false) = got (span s a e) e
reason_got s Absent = nothing

-- ==== what stands before a property value

-- ptype and property (RFC 8601: propspec without its pvalue)
pub record Names : Type 0 where
  pub ptype : List ℕ
  pub property : List ℕ

-- after non-empty space: ptype "." property "="
unfoldable pub names : Parser Names
names = do
  gap
  t ← read_keyword
  separator (code ".")
  p ← read_keyword
  separator (code "=")
  give (record { ptype = t; property = p })

-- a ptype from a up to e, a property from b up to f, and the place v of the property value
abbrev pub label_read : ℕ → ℕ → ℕ → ℕ → ℕ → Option Label
label_read a e b f v = Some (record { type_start = a; type_end = e; name_start = b; name_end = f; value = v })

-- "." at a place, a property and "=", behind a ptype from a up to e
unfoldable pub names_at : List ℕ → ℕ → ℕ → Option Label
names_at s a e =
    behind (separated (code ".")) s e None
    (λ b. behind keyword s b None (λ f. behind (separated (code "=")) s f None (λ v. label_read a e b f v)))

-- behind a part that ends at `at`, a ptype at the place a, and so on: not where that is the same place
unfoldable pub label_from : List ℕ → ℕ → ℕ → Option Label
label_from s at a = past at a None (λ a. behind keyword s a None (λ e. names_at s a e))

-- after non-empty space
abbrev pub label_at : List ℕ → ℕ → Option Label
label_at s at = label_from s at (spaced s at)

-- the texts of ptype and property that were found, and the place of the value
abbrev pub label_got : List ℕ → Option Label → Got Names
label_got s (Some l) =
    got (record { ptype = keyword_text (span s l.type_start l.type_end); property = keyword_text (span s l.name_start l.name_end) }) l.value
label_got s None = nothing
