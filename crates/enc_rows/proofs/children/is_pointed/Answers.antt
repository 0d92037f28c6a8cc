use Rattle.std.proofs.Common.{arith}
use Rattle.enc_rows.specs.Runs.{TableStream, table_stream}
use Rattle.enc_rows.proofs.Named.{named_next, any_passed}
use Rattle.enc_rows.proofs.children.is_pointed.Goals as goal

pub loop-p-preserved : goal.loop-p-preserved
loop-p-preserved c =
    let s : TableStream = table_stream c.args.bytes.now c.args.tables.now in
    let more = named_next s c.args.child c.loop-p.p c.args.run.end (omega arith) in
    any_passed c.pointed.result c.args.row _ _ _ _ (λ z. absurd (omega arith)) c.pointed.ensures more c.loop-p.invariant
