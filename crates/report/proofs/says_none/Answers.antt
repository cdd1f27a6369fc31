-- `report::says_none` meets its contract: the tests that the code makes in turn are those of the grammar.
use Rattle.result_separators.proofs.Separators.{word-inside}
use Rattle.report.proofs.Payloads.{none-no-separator, none_no_word, none-other-word, none-word}
use Rattle.report.proofs.says_none.Goals as goal

pub returns-then-a-at : goal.returns-then-a-at
returns-then-a-at c = search none-no-separator

pub returns-then-e-a : goal.returns-then-e-a
returns-then-e-a c = search none_no_word

pub slice_bounds-same_text-end : goal.slice_bounds-same_text-end
slice_bounds-same_text-end c = search word-inside

pub returns-then-same_text : goal.returns-then-same_text
returns-then-same_text c = none-word c.args.s.now c.args.at _ c.requires _ c.separator_from-a.ensures c.if-a-at.false _ c.keyword_end-e.ensures c.if-e-a.false _ c.same_text.ensures c.if-same_text.true _ c.space_end.ensures

pub returns : goal.returns
returns c = search none-other-word
