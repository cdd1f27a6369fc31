-- Every definition of a chain opened at once: `unfolding opened` lets a proof compute with all of them.
use Rattle.lexis_rules.specs.Pieces.{decimal}
use Rattle.block_rules.proofs.Examples as block
use Rattle.tag_rules.proofs.Unfolding as tags
use Rattle.arc_rules.specs.Sets.{kind_named, is_instance, instance, says}
use Rattle.arc_rules.specs.Chain.{placed, gathered, row_empty, any_empty, all_pass, prescribed, complete_outcome, outcome_of, all, valid_for, passes, oldest_from, judged, judge}

unfoldable pub opened : Unit {0}
unfolding block.opened tags.opened decimal kind_named is_instance instance says placed gathered row_empty
    any_empty all_pass prescribed complete_outcome outcome_of all valid_for passes oldest_from judged judge
opened = tt
