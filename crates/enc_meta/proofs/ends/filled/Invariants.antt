use Rattle.std.proofs.Common.{◌≡◌, ◌≤◌, length, take}
use Rattle.enc_meta.specs.Heaps.{filled}
use Rattle.enc_meta.proofs.ends.filled.Given as goal

abbrev pub invariant-loop-len : goal.invariant-loop-len
invariant-loop-len l = record { within : l.len ≤ length l.heap; same : filled (take l.len l.heap) ≡ filled l.heap }

abbrev pub decreases-loop-len : goal.decreases-loop-len
decreases-loop-len l = l.len
