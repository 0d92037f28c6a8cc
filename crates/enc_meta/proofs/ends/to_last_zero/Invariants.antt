use Rattle.std.proofs.Common.{◌≡◌, ◌≤◌, length, take}
use Rattle.enc_meta.specs.Heaps.{to_last_zero}
use Rattle.enc_meta.proofs.ends.to_last_zero.Given as goal

abbrev pub invariant-loop-len : goal.invariant-loop-len
invariant-loop-len l = record { within : l.len ≤ length l.heap; same : to_last_zero (take l.len l.heap) ≡ to_last_zero l.heap }

abbrev pub decreases-loop-len : goal.decreases-loop-len
decreases-loop-len l = l.len
