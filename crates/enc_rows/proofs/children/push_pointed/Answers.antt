use Rattle.std.proofs.Common.{arith}
use Rattle.enc_rows.specs.Runs.{TableStream, table_stream}
use Rattle.enc_rows.proofs.Named.{named_next, push_skipped, push_passed}
use Rattle.enc_rows.proofs.children.push_pointed.Goals as goal

pub loop-p-preserved-then-row-eq0 : goal.loop-p-preserved-then-row-eq0
loop-p-preserved-then-row-eq0 c =
    let s : TableStream = table_stream c.args.bytes.now c.args.tables.now in
    let more = named_next s c.args.child c.loop-p.p c.args.run.end (omega arith) in
    push_skipped c.pointed-row.result _ _ _ _ _ c.if-row-eq0.true c.pointed-row.ensures more c.loop-p.invariant

pub loop-p-preserved : goal.loop-p-preserved
loop-p-preserved c =
    let s : TableStream = table_stream c.args.bytes.now c.args.tables.now in
    let more = named_next s c.args.child c.loop-p.p c.args.run.end (omega arith) in
    push_passed c.pointed-row.result _ _ _ _ _ _ (λ z. absurd (omega arith)) c.pointed-row.ensures more c.in_ok-push.ensures.items c.loop-p.invariant
