-- What came of a call, at worked examples, by computing it.
use mathlib.Core.Path.{◌≡◌, refl}
use mathlib.Core.List.{[], ◌∷◌, map}
use lib.IntN.{ℤ, pos, negsuc}
use Rattle.command_files.specs.declared.Turn.TheVariants.{Moved, Ended, Interrupted, Failed}
use Rattle.command_files.specs.Transfers.{interrupted, turn_of}

-- handed ten bytes, by what it answered: none, three, all, more than there are; -1, and errno tells of a signal
turns : map (λ (z : ℤ). turn_of z (pos 4) 10) (pos 0 ∷ pos 3 ∷ pos 10 ∷ pos 11 ∷ negsuc 0 ∷ []) ≡ Ended ∷ Moved 3 ∷ Moved 10 ∷ Moved 10 ∷ Interrupted ∷ []
unfolding turn_of interrupted
turns = refl

-- by errno
failures : map (λ (z : ℤ). turn_of (negsuc 0) z 10) (pos 0 ∷ pos 3 ∷ pos 4 ∷ pos 5 ∷ negsuc 3 ∷ []) ≡ Failed ∷ Failed ∷ Interrupted ∷ Failed ∷ Failed ∷ []
unfolding turn_of interrupted
failures = refl
