use Rattle.std.proofs.Common.{◌≡◌, None}
use Rattle.enc_base.specs.Order.{first_below}
use Rattle.enc_dispatch.specs.Interfaces.{says_interface}
use Rattle.enc_dispatch.proofs.free_path.said_interface.Given as goal

abbrev pub invariant-loop-n : goal.invariant-loop-n
invariant-loop-n g l = first_below (says_interface (g.V.ModuleView.meaning l.view) l.class l.interface) l.n ≡ None
