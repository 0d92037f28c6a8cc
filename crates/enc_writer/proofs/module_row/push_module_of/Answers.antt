use Rattle.std.proofs.Common.{rules, ◌<◌}
use Rattle.std.specs.Prelude.{◌^◌}
use Rattle.enc_writer.proofs.ModuleRow.{some_columns, five_columns, module_written}
use Rattle.enc_writer.proofs.module_row.push_module_of.Goals as goal

pub push-requires-clause-table : goal.push-requires-clause-table
push-requires-clause-table g c = some_columns

pub push-requires-clause-cells : goal.push-requires-clause-cells
push-requires-clause-cells g c = five_columns

pub returns-clause-single : goal.returns-clause-single
returns-clause-single g c =
    let low : c.in_ok-enc_id.enc_id < 2 ^ 32 = search rules in
    module_written (g.C.ChainView.chain c.args.chain.now) c.args.list.now c.args.tables.now c.push.new.self c.generations-generation.result c.mvid_number-mvid.result c.in_ok-enc_id.enc_id c.last_number-last.result
    c.requires.may c.requires.none c.in_ok-push.ensures.pushed c.generations-generation.ensures.count c.mvid_number-mvid.type_inv low c.last_number-last.type_inv
    c.mvid_number-mvid.ensures c.in_ok-enc_id.ensures.number c.last_number-last.ensures
