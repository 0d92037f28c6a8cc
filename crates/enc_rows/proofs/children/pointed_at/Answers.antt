use Rattle.std.proofs.Common.{arith}
use Rattle.enc_rows.specs.Runs.{TableStream, table_stream}
use Rattle.enc_rows.proofs.Named.{named_next, at_passed, at_skipped}
use Rattle.enc_rows.proofs.children.pointed_at.Goals.{then-row-ne0+else-before-i, else-row-ne0}
use Rattle.enc_rows.proofs.children.pointed_at.Goals as goal

pub loop-p-preserved : goal.loop-p-preserved
loop-p-preserved c =
    let s : TableStream = table_stream c.args.bytes.now c.args.tables.now in
    let more = named_next s c.args.child c.loop-p.p c.args.run.end (omega arith) in
    elim c.if-row-ne0.branch [
      | then-row-ne0+else-before-i w ↦ (rw w.before-is (at_passed c.pointed-row.result c.args.i c.loop-p.before _ _ _ _ (λ z. absurd (omega arith)) (omega arith) c.pointed-row.ensures more c.loop-p.invariant.0), omega arith)
      | else-row-ne0 w ↦ (rw w.before-is (at_skipped c.pointed-row.result _ _ _ _ _ (omega arith) c.pointed-row.ensures more c.loop-p.invariant.0), omega arith)
    ]
