use Rattle.std.proofs.Common.{◌≡◌, None}
use Rattle.enc_base.specs.Order.{first_below}
use Rattle.enc_lookup.specs.Types.{nested_at}
use Rattle.enc_lookup.proofs.types.nested.Given as goal

abbrev pub invariant-loop-n : goal.invariant-loop-n
invariant-loop-n g l = first_below (nested_at (g.V.ModuleView.meaning l.view) l.enclosing l.namespace l.name) l.n ≡ None
