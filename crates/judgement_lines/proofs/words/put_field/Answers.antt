-- `judgement_lines::words::put_field` meets its contract: a reason names a field or none.
use Rattle.judgement_lines.proofs.WordLaws.{field_put}
use Rattle.judgement_lines.proofs.words.put_field.Goals as goal

pub returns : goal.returns
returns c = search field_put
