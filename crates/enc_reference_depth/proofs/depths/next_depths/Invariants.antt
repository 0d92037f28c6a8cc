use Rattle.std.proofs.Common.{◌≡◌, ℕ, ◌<◌, length, drop, get_or}
use Rattle.std.specs.Prelude.{max}
use Rattle.enc_reference_depth.specs.Edges.{depth_in, greatest}
use Rattle.enc_reference_depth.proofs.depths.next_depths.Given as goal

-- what stands there, and what is to come, is the whole
abbrev pub invariant-loop-i : goal.invariant-loop-i
invariant-loop-i l =
    (length l.next.items ≡ length l.depths)
    × ((k : ℕ) → k < length l.depths
    → max (get_or l.next.items k 0) (greatest (depth_in l.refs l.depths) k (drop l.i l.edges)) ≡ max 1 (greatest (depth_in l.refs l.depths) k l.edges))
