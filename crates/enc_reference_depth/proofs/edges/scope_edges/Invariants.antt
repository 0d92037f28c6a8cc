use Rattle.enc_reference_depth.specs.Edges.{AreEdges}
use Rattle.enc_reference_depth.proofs.edges.scope_edges.Given as goal

abbrev pub invariant-loop-n : goal.invariant-loop-n
invariant-loop-n g l = AreEdges (g.V.ModuleView.meaning l.view) l.n l.edges.items
