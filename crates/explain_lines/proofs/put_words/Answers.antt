-- Each arm writes the words of its kind; where a label is long, the case of the definition is named.
use Rattle.explain_rules.specs.Explained.{words}
use Rattle.explain_lines.proofs.put_words.Goals as goal

pub returns-in-Identifier : goal.returns-in-Identifier
unfolding words
returns-in-Identifier c = rw c.in-Identifier.is c.put_labelled.ensures

pub returns-in-Version : goal.returns-in-Version
unfolding words
returns-in-Version c = rw c.in-Version.is c.put_labelled-in-Version.ensures
