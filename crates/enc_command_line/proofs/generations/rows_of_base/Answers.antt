use Rattle.std.proofs.Common.{◌∙◌, arith}
use Rattle.enc_image.proofs.Rows.{tables_there}
use Rattle.enc_image.specs.Base.{module_in}
use Rattle.enc_command_line.proofs.Listed.{base_count, rows_more, rows_all}
use Rattle.enc_command_line.proofs.generations.rows_of_base.Goals as goal

pub overflow_add-rows : goal.overflow_add-rows
overflow_add-rows c = omega (arith, c.loop-table.invariant.1, c.loop-table-test.true)

pub loop-table-preserved : goal.loop-table-preserved
loop-table-preserved c =
    (rows_more (module_in c.args.agg.now.base) c.loop-table.table c.loop-table.rows c.from-rows.result (omega (arith, tables_there c.args.agg.now.base, c.loop-table-test.true)) c.loop-table.invariant.0 (c.from-rows.ensures ∙ c.count_at.ensures ∙ base_count c.args.agg.now.base c.args.agg.now.deltas c.loop-table.table), omega (arith, c.loop-table.invariant.1))

pub returns : goal.returns
returns c = rows_all (module_in c.args.agg.now.base) c.loop-table.table c.loop-table.rows (omega (arith, tables_there c.args.agg.now.base, c.loop-table-test.false)) c.loop-table.invariant.0
