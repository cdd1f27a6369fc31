use Rattle.write_columns.proofs.Literals.{spelling-start, spelling-done, spelling-off, spelling-on}
use Rattle.write_columns.proofs.coded.is_literal.Goals as goal

pub loop-j-init : goal.loop-j-init
loop-j-init c = spelling-start _ _ _

pub loop-j-preserved : goal.loop-j-preserved
loop-j-preserved c = search spelling-on

pub returns : goal.returns
returns c = search spelling-done

pub returns-then-byte-b : goal.returns-then-byte-b
returns-then-byte-b c = search spelling-off
