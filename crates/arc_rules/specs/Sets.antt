-- Document 01, "The chain": the three kinds of field, and what each says.
use Prim.Native.Char.{code}
use Rattle.std.specs.Prelude.{ℕ, Bool, true, false, ◌&&◌, List, leb, length}
use Rattle.base_readers.specs.Texts.{bytes, within}
use Rattle.base_readers.specs.Parsers.{nothing, Parser, ◌>>=◌, ◌>>◌, give, when, byte, text}
use Rattle.lexis_rules.specs.Bytes.{alike}
use Rattle.lexis_rules.specs.Pieces.{digits, decimal}
use Rattle.lexis_rules.specs.Words.{skip}
use Rattle.arc_rules.specs.declared.Kind.{Kind}
use Rattle.arc_rules.specs.declared.Kind.TheVariants.{Results, Signature, Seal, Other}
use Rattle.tag_rules.specs.Tags.{tags, value_named}
use Rattle.tag_rules.specs.Needed.{chain_value, is_signature, is_seal}

-- Kinds: ARC-Authentication-Results, ARC-Message-Signature, ARC-Seal
unfoldable pub kind_named : List ℕ → Kind
kind_named n =
    elim (alike n (bytes "ARC-Authentication-Results")) [
      | true ↦ Results
      | false ↦ (elim (alike n (bytes "ARC-Message-Signature")) [
        | true ↦ Signature
        | false ↦ (elim (alike n (bytes "ARC-Seal")) [ true ↦ Seal | false ↦ Other ])
      ])
    ]

-- 01, What the library is handed: ARC instances 1 to 50
abbrev pub first_instance : ℕ
first_instance = 1

abbrev pub last_instance : ℕ
last_instance = 50

-- one or two digits worth 1 to 50
unfoldable pub is_instance : List ℕ → Bool
is_instance d = leb (length d) 2 && within first_instance last_instance (decimal 0 d)

-- Each body starts with space, lower-case i, "=", one or two digits worth 1 to 50, and ";", with space allowed between
unfoldable pub instance : Parser ℕ
instance = do
  skip
  byte (code "i")
  skip
  byte (code "=")
  skip
  d ← text digits
  when (is_instance d)
  skip
  byte (code ";")
  give (decimal 0 d)

-- what a field says: its instance, and a seal's chain value (0 for the other kinds)
pub record Said : Type 0 where
  pub instance : ℕ
  pub cv : ℕ

-- For the first kind nothing after that is read. For the others a DKIM tag list follows
unfoldable pub says : Kind → Parser Said
says Results = do
  i ← instance
  give (record { instance = i; cv = 0 })
says Signature = do
  i ← instance
  ts ← tags
  when (is_signature ts)
  give (record { instance = i; cv = 0 })
says Seal = do
  i ← instance
  ts ← tags
  when (is_seal ts)
  give (record { instance = i; cv = chain_value (value_named (bytes "cv") ts) })
says Other = λ xs. nothing
