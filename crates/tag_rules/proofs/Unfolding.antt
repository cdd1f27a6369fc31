-- Every definition of a tag list, and of what a signature and a seal need, opened at once: `unfolding opened` lets a proof compute with all of them.
use Rattle.base_readers.specs.Texts.{starts}
use Rattle.base_readers.specs.Parsers.{after, ◌>>=◌, give, when, end, byte, taken, skipping, text, either, cons, several}
use Rattle.lexis_rules.proofs.Examples as lexis
use Rattle.tag_rules.specs.Tags.{in_tag_name, tag_name, white, solid, trimmed, tag, tags, named, unrepeated, needs, value_named}
use Rattle.tag_rules.specs.Needed.{chain_value, sound, is_signature, is_seal}

unfoldable pub opened : Unit {0}
unfolding lexis.opened starts after ◌>>=◌ give when end byte taken skipping text either cons several in_tag_name tag_name white solid trimmed
    tag tags named unrepeated needs value_named chain_value sound is_signature is_seal
opened = tt
