use Rattle.std.proofs.Common.{◌≡◌, ◌++◌, ◌≤◌, ◌-◌, length, take}
use Rattle.enc_sigs.specs.Tree.{forest_of, trees, tree_size}
use Rattle.enc_reference_depth.specs.Edges.{edge_of, edges_in}
use Rattle.enc_reference_depth.proofs.edges.+push_type_edges.Given as goal

abbrev pub decreases-push_type_edges : goal.decreases-push_type_edges
decreases-push_type_edges l = tree_size l.elem.now

abbrev pub invariant-loop-kid : goal.invariant-loop-kid
invariant-loop-kid l =
    (l.i ≤ length (trees l.fn.elem.kids))
    × (l.edges.items ≡ l.fn.edges.items ++ (edge_of l.fn.place l.fn.elem.token ++ edges_in l.fn.place (forest_of (take l.i (trees l.fn.elem.kids)))))

abbrev pub decreases-loop-kid : goal.decreases-loop-kid
decreases-loop-kid l = length (trees l.fn.elem.kids) - l.i
