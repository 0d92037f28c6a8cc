use Rattle.std.proofs.Common.{◌+◌}
use Rattle.enc_plain.specs.Sound.{row_count}
use Rattle.enc_base.specs.Tables.{type_ref}
use Rattle.enc_reference_depth.specs.Edges.{AreEdges}
use Rattle.enc_reference_depth.proofs.edges.all_edges.Given as goal

abbrev pub invariant-loop-n : goal.invariant-loop-n
invariant-loop-n g l = AreEdges (g.V.ModuleView.meaning l.view) (row_count (g.V.ModuleView.meaning l.view) type_ref + l.n) l.edges.items
