use Rattle.std.proofs.Common.{arith, length-set}
use Rattle.enc_rows.proofs.Rows.{table_there, changed_at, more_rows}
use Rattle.enc_rows.proofs.builder.TableBuilder.push.Goals as goal

pub grow-requires-clause-table : goal.grow-requires-clause-table
grow-requires-clause-table c = omega (arith, table_there c.args.table c.requires.table)

pub invariant_of-self-2 : goal.invariant_of-self-2
invariant_of-self-2 c =
    more_rows c.self.inside.tables.items _ c.args.table c.args.cells.now c.self.invariant (omega (arith, length-set c.grow.new.tables.items c.args.table c.push.new.self)) c.requires.cells (λ i. omega (arith, c.type_inv.cells i)) (rw (← c.self.view_is) at c.requires.few) (changed_at c.self.inside.tables.items c.grow.new.tables.items c.args.table c.index_mut-rows.result.now c.push.new.self c.args.cells.now c.in_ok-grow.ensures.there c.grow.ensures.rows c.index_mut-rows.ensures.value c.in_ok-push.ensures)

pub returns-clause-pushed : goal.returns-clause-pushed
returns-clause-pushed c =
    rw (← c.self.view_is) (changed_at c.self.inside.tables.items c.grow.new.tables.items c.args.table c.index_mut-rows.result.now c.push.new.self c.args.cells.now c.in_ok-grow.ensures.there c.grow.ensures.rows c.index_mut-rows.ensures.value c.in_ok-push.ensures)
