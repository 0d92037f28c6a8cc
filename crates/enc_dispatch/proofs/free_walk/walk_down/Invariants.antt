use Rattle.std.proofs.Common.{◌≡◌, ◌≤◌, reverse, take}
use Rattle.enc_plain.specs.ClassPath.{path_of}
use Rattle.enc_dispatch.specs.Target.{walk_down}
use Rattle.enc_dispatch.proofs.free_walk.walk_down.Given as goal

abbrev pub invariant-loop-left : goal.invariant-loop-left
invariant-loop-left g l =
    let m = g.V.ModuleView.meaning l.view in
    (walk_down m l.declared (reverse (take l.left (path_of m l.class))) l.current ≡ walk_down m l.declared (reverse (take l.fn.count (path_of m l.class))) l.declared)
    × (l.left ≤ l.fn.count)

abbrev pub decreases-loop-left : goal.decreases-loop-left
decreases-loop-left g l = l.left
