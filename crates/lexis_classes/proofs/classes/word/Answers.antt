-- `lexis_classes::classes::word` meets its contract: each test is one of the definition.
use Rattle.lexis_classes.proofs.Bytes.{word_first, word-second, word-third, word-fourth}
use Rattle.lexis_classes.proofs.classes.word.Goals as goal

pub returns-then-b-lt64 : goal.returns-then-b-lt64
returns-then-b-lt64 c = search word_first

pub returns-then-b-lt128 : goal.returns-then-b-lt128
returns-then-b-lt128 c = search word-second

pub returns-then-b-lt192 : goal.returns-then-b-lt192
returns-then-b-lt192 c = search word-third

pub returns : goal.returns
returns c = search word-fourth
