use Rattle.std.proofs.Common.{◌≡◌, ◌++◌, length}
use Rattle.enc_frames.proofs.texts.units_copied.Given as goal

-- the units so far, and those that are left
abbrev pub invariant-loop-rest : goal.invariant-loop-rest
invariant-loop-rest l = l.copy ++ l.rest ≡ l.fn.units

abbrev pub decreases-loop-rest : goal.decreases-loop-rest
decreases-loop-rest l = length l.rest
