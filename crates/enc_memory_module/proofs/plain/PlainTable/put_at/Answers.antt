use Rattle.std.proofs.Common.{◌<◌, ◌∙◌, arith}
use Rattle.std.proofs.lemmas.Result.{on_ok_weaker}
use Rattle.enc_memory_module.proofs.PutInPlace.{put_none, put_some}
use Rattle.enc_memory_module.proofs.plain.PlainTable.put_at.Goals as goal

pub returns-then-row-eq0 : goal.returns-then-row-eq0
returns-then-row-eq0 c = put_none c.args.row.table c.args.self.now c.args.row.row c.args.cells.items c.if-row-eq0.true

pub returns : goal.returns
returns c =
    let some : 0 < c.args.row.row = omega (arith, c.if-row-eq0.false) in
    on_ok_weaker c.put_row.result (λ is. is ∙ put_some c.args.row.table c.args.self.now c.args.row.row c.args.cells.items some) c.put_row.ensures
