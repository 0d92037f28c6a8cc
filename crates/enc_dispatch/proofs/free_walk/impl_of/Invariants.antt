use Rattle.std.proofs.Common.{◌≡◌, None}
use Rattle.enc_base.specs.Order.{first_below}
use Rattle.enc_dispatch.specs.Walks.{impl_at}
use Rattle.enc_dispatch.proofs.free_walk.impl_of.Given as goal

abbrev pub invariant-loop-n : goal.invariant-loop-n
invariant-loop-n g l = first_below (impl_at (g.V.ModuleView.meaning l.view) l.class l.declared l.current) l.n ≡ None
