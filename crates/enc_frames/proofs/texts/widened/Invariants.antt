use Rattle.std.proofs.Common.{◌≡◌, ◌++◌, length}
use Rattle.enc_frames.proofs.texts.widened.Given as goal

-- the units so far, and the bytes that are left
abbrev pub invariant-loop-rest : goal.invariant-loop-rest
invariant-loop-rest l = l.units ++ l.rest ≡ l.bytes

abbrev pub decreases-loop-rest : goal.decreases-loop-rest
decreases-loop-rest l = length l.rest
