-- `orbendash::orbendash_next_field` meets its contract: the step of `block_walk::field_from`, put into the struct for hosts.
use mathlib.Core.Path.{ap, ◌∙◌}
use Rattle.host_structs.specs.Faces.{next_face}
use Rattle.orbendash.proofs.orbendash_next_field.Goals as goal

pub returns : goal.returns
returns c = c.into.ensures ∙ ap next_face c.field_from.ensures
