use native.Mathlib.Omega.{arith}
use Rattle.lexis_laws.proofs.Bytes.{alike-long}
use Rattle.text_compare.proofs.Comparing.{word_end, word_on, word-off}
use Rattle.text_compare.proofs.same_word.Goals as goal

pub returns-then-a-b : goal.returns-then-a-b
returns-then-a-b c = search alike-long

pub returns-then-not-same_byte : goal.returns-then-not-same_byte
returns-then-not-same_byte c = search word-off

pub loop-j-preserved : goal.loop-j-preserved
loop-j-preserved c = word_on _ _ (omega arith) _ c.loop-j.invariant c.loop-j-test.true _ c.same_byte.ensures c.if-not-same_byte.false

pub returns : goal.returns
returns c = search word_end
