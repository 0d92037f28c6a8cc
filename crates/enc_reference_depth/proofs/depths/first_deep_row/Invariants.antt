use Rattle.std.proofs.Common.{◌≡◌, None}
use Rattle.enc_base.specs.Order.{first_below}
use Rattle.enc_reference_depth.specs.Edges.{deep_row}
use Rattle.enc_reference_depth.proofs.depths.first_deep_row.Given as goal

abbrev pub invariant-loop-n : goal.invariant-loop-n
invariant-loop-n l = first_below (deep_row l.depths l.first l.table) l.n ≡ None
