-- `report::put_payload` meets its contract: the word none is the only reading where it is there, and else the list of results is, where
-- it is not empty and the end follows.
use Rattle.report.proofs.Payloads.{payload-word, payload-room, payload-no-results, payload-not-ended, payload-results}
use Rattle.report.proofs.put_payload.Goals as goal

pub returns-then-says_none : goal.returns-then-says_none
returns-then-says_none c = search payload-word

pub put_results-r-requires : goal.put_results-r-requires
put_results-r-requires c = payload-room _ _ _ _ c.requires c.space_end-gap.ensures

pub returns-then-r-at : goal.returns-then-r-at
returns-then-r-at c = search payload-no-results

pub returns-then-r-s : goal.returns-then-r-s
returns-then-r-s c = payload-not-ended c.args.s.now c.args.at c.args.out.now c.args.to _ c.says_none.ensures c.if-says_none.false _ _ c.put_results-r.ensures c.if-r-s.true _ c.refuse-then-r-s.ensures

pub returns : goal.returns
returns c = payload-results c.args.s.now c.args.at c.args.out.now c.args.to _ c.says_none.ensures c.if-says_none.false _ _ c.put_results-r.ensures c.if-r-at.false c.if-r-s.false
