use Rattle.std.proofs.Common.{◌≡◌, None}
use Rattle.enc_base.specs.Order.{first_below}
use Rattle.enc_lookup.specs.Types.{outermost_at}
use Rattle.enc_lookup.proofs.types.outermost.Given as goal

abbrev pub invariant-loop-n : goal.invariant-loop-n
invariant-loop-n g l = first_below (outermost_at (g.V.ModuleView.meaning l.view) l.namespace l.name) l.n ≡ None
