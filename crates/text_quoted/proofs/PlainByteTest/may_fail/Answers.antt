-- `text_quoted::Plain::may_fail` meets its contract: a byte that passes all tests is of the class.
use Rattle.text_quoted.proofs.Copied.{unstopped}
use Rattle.text_quoted.proofs.PlainByteTest.may_fail.Goals as goal

pub returns : goal.returns
returns c = λ e. unstopped _ e
