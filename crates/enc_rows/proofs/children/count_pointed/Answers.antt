use Rattle.std.proofs.Common.{arith}
use Rattle.enc_rows.specs.Runs.{TableStream, table_stream}
use Rattle.enc_rows.proofs.Named.{named_next, count_passed, count_skipped}
use Rattle.enc_rows.proofs.children.count_pointed.Goals.{then-pointed-ne0, else-pointed-ne0}
use Rattle.enc_rows.proofs.children.count_pointed.Goals as goal

pub loop-p-preserved : goal.loop-p-preserved
loop-p-preserved c =
    let s : TableStream = table_stream c.args.bytes.now c.args.tables.now in
    let more = named_next s c.args.child c.loop-p.p c.args.run.end (omega arith) in
    elim c.if-pointed-ne0.branch [
      | then-pointed-ne0 w ↦ (rw w.count-is (count_passed c.pointed.result c.loop-p.count _ _ _ _ (λ z. absurd (omega arith)) c.pointed.ensures more c.loop-p.invariant.0), omega arith)
      | else-pointed-ne0 w ↦ (rw w.count-is (count_skipped c.pointed.result c.loop-p.count _ _ _ _ (omega arith) c.pointed.ensures more c.loop-p.invariant.0), omega arith)
    ]
