use Rattle.std.proofs.Common.{◌≡◌, None}
use Rattle.enc_base.specs.Order.{first_below}
use Rattle.enc_delta.specs.Rules.{too_many_in}
use Rattle.enc_delta.proofs.cells.too_many.Given as goal

abbrev pub invariant-loop-table : goal.invariant-loop-table
invariant-loop-table g l = first_below (too_many_in l.context.chain l.context.delta) l.table ≡ None
