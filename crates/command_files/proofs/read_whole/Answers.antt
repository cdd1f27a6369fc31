-- A turn's bytes stand behind those of the turns before it.
use Rattle.std.proofs.Common.{rules}
use Rattle.command_files.proofs.Bytes.{gave, gave_none}
use Rattle.command_files.proofs.read_whole.Goals as goal
use Rattle.command_files.proofs.read_whole.Goals.{in-Moved, in-Interrupted}

pub loop-preserved : goal.loop-preserved
loop-preserved g c =
    elim c.match-after_answer.branch [
      | in-Moved w ↦ (search rules, search rules, gave _ _ _ _ _ _ _ _ _ c.loop.invariant.0 c.loop.invariant.2 c.read-answer.ensures.bytes w.in-Moved.n w.in-Moved.ensures.answered c.read-answer.ensures.bound w.done-is)
      | in-Interrupted w ↦ (search rules, search rules, gave_none _ _ _ _ _ _ _ _ _ c.loop.invariant.0 c.loop.invariant.2 c.read-answer.ensures.bytes w.in-Interrupted.ensures.answered w.done-is)
    ]
