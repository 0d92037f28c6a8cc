use Rattle.std.proofs.Common.{◌≡◌, ◌≤◌, reverse, take}
use Rattle.enc_dispatch.specs.Walked.{path_in, walk_down_in}
use Rattle.enc_dispatch.proofs.dispatch.Dispatch.walk_down.Given as goal

abbrev pub invariant-loop-left : goal.invariant-loop-left
invariant-loop-left l =
    (walk_down_in l.self l.slot l.declared (reverse (take l.left (path_in l.self l.class))) l.current
    ≡ walk_down_in l.self l.slot l.declared (reverse (take l.fn.count (path_in l.self l.class))) l.declared)
    × (l.left ≤ l.fn.count)

abbrev pub decreases-loop-left : goal.decreases-loop-left
decreases-loop-left l = l.left
