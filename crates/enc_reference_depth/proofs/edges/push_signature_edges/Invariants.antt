use Rattle.std.proofs.Common.{◌≡◌, ◌++◌, take}
use Rattle.enc_sigs.specs.Tree.{forest_of}
use Rattle.enc_reference_depth.specs.Edges.{edges_in}
use Rattle.enc_reference_depth.proofs.edges.push_signature_edges.Given as goal

abbrev pub invariant-loop-i : goal.invariant-loop-i
invariant-loop-i l = l.edges.items ≡ l.fn.edges.items ++ edges_in l.fn.place (forest_of (take l.i l.fn.sig.parts))
