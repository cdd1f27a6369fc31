-- A turn's bytes stand behind those of the turns before it.
use Rattle.std.proofs.Common.{rules}
use Rattle.command_files.proofs.Bytes.{took, took_none}
use Rattle.command_files.proofs.write_whole.Goals as goal
use Rattle.command_files.proofs.write_whole.Goals.{in-Moved, in-Interrupted}

pub loop-preserved : goal.loop-preserved
loop-preserved g c =
    elim c.match-after_answer.branch [
      | in-Moved w ↦ (search rules, search rules, took _ _ _ _ _ _ _ _ c.loop.invariant.2 c.write-answer.ensures.bytes w.in-Moved.n w.in-Moved.ensures.answered (search rules) w.done-is)
      | in-Interrupted w ↦ (search rules, search rules, took_none _ _ _ _ _ _ _ _ c.loop.invariant.2 c.write-answer.ensures.bytes w.in-Interrupted.ensures.answered w.done-is)
    ]
