use Rattle.std.proofs.Common.{◌∙◌, ap, arith}
use Rattle.std.proofs.lemmas.Result.{on_ok_weaker}
use Rattle.enc_plain.specs.Apply.{put_at}
use Rattle.enc_memory_module.proofs.PutInPlace.{put_table, put_no_table}
use Rattle.enc_memory_module.proofs.change.put.Goals as goal

pub returns-then-n-len : goal.returns-then-n-len
returns-then-n-len c =
    on_ok_weaker c.put_at.result (λ is. put_table c.args.tables.now.items c.args.row c.args.cells.items c.put_at.new.self c.index_mut-table.result.now (omega (arith, c.args.tables.now.ok.0)) (is ∙ ap (λ rows. put_at c.args.row.table rows c.args.row.row c.args.cells.items) c.index_mut-table.ensures.value)) c.put_at.ensures

pub returns : goal.returns
returns c = put_no_table c.args.tables.now.items c.args.row c.args.cells.items (omega (arith, c.args.tables.now.ok.0))
