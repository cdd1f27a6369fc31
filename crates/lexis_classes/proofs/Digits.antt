-- The binary digits of each class, computed.
use Prim.Native.Nat.{ℕ}
use mathlib.Core.Path.{◌≡◌, refl, sym, ap, ◌∙◌}
use Rattle.base_readers.specs.Texts.{within, one_of}
use Rattle.lexis_rules.specs.declared.Class.{Class}
use Rattle.lexis_rules.specs.declared.Class.TheVariants.{Blank, Opening, Zero, Digit, Keyword, Token, Quoted, Comment, Escaped, Name, Visible, Delimiter, Tag}
use Rattle.lexis_rules.specs.Bytes.{in_class, letter}
use Rattle.lexis_classes.specs.declared.classes.Rows.{Rows}
use Rattle.lexis_classes.specs.Internal.{bits_of, rows_of}

abbrev all : ℕ
all = 18446744073709551615

abbrev rows : Class → Rows
rows Blank = (4294967808, 0, 0, 0)
rows Opening = (1103806603776, 0, 0, 0)
rows Zero = (281474976710656, 0, 0, 0)
rows Digit = (287948901175001088, 0, 0, 0)
rows Keyword = (287984085547089920, 576460743847706622, 0, 0)
rows Token = (288068722172624896, 9223372035915251710, 0, 0)
rows Quoted = (18446744052234715648, 9223372036586340351, all, all)
rows Comment = (18446740770879701504, 9223372036586340351, all, all)
rows Escaped = (18446744069414584832, 9223372036854775807, 0, 0)
rows Name = (18158513688967905280, 9223372036854775807, 0, 0)
rows Visible = (18446744065119617024, 9223372036854775807, 0, 0)
rows Delimiter = (576461856110027264, 0, 0, 0)
rows Tag = (17870283317111161344, 9223372036854775807, all, all)

right : (k : Class) → rows k ≡ rows_of k
unfolding in_class letter within one_of bits_of
right Blank = refl
right Opening = refl
right Zero = refl
right Digit = refl
right Keyword = refl
right Token = refl
right Quoted = refl
right Comment = refl
right Escaped = refl
right Name = refl
right Visible = refl
right Delimiter = refl
right Tag = refl

pub told : (k c : Class) → c ≡ k → rows k ≡ rows_of c
told k c e = right k ∙ ap rows_of (sym e)
