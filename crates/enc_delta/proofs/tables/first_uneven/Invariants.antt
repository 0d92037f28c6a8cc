use Rattle.std.proofs.Common.{◌≡◌, None}
use Rattle.enc_base.specs.Order.{first_below}
use Rattle.enc_delta.specs.Rules.{uneven_at}
use Rattle.enc_delta.proofs.tables.first_uneven.Given as goal

abbrev pub invariant-loop-table : goal.invariant-loop-table
invariant-loop-table l = first_below (uneven_at l.delta) l.table ≡ None
