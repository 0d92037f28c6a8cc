use Rattle.std.proofs.Common.{◌+◌, ◌-◌, ◌∙◌, length, sym, arith}
use Rattle.std.proofs.lemmas.Bool.Decides.{nat_tests}
use Rattle.enc_seqpoints.proofs.Records.{records_more, records_fails, records_past, records_done}
use Rattle.enc_seqpoints.proofs.read.records.Goals as goal

pub returns-then-is_empty : goal.returns-then-is_empty
returns-then-is_empty c = c.loop-i.invariant ∙ records_done c.loop-i.points.items (length c.args.bytes.now - c.loop-i.i) c.loop-i.base c.loop-i.rest.now (grind (arith, nat_tests))

pub returns-in_default : goal.returns-in_default
returns-in_default c = λ e. c.loop-i.invariant ∙ records_fails c.loop-i.points.items (length c.args.bytes.now - c.loop-i.i) (length c.args.bytes.now - c.loop-i.i - 1) c.loop-i.base c.loop-i.rest.now (omega arith) (grind (arith, nat_tests)) (sym c.in_default.ensures)

pub loop-i-preserved : goal.loop-i-preserved
loop-i-preserved c =
    rw c.after-base.ensures
    (c.loop-i.invariant ∙ records_more c.loop-i.points.items c.in_ok-points.points.items (length c.args.bytes.now - c.loop-i.i) (length c.args.bytes.now - (c.loop-i.i + 1)) c.loop-i.base c.loop-i.rest.now c.in-Some.behind.now c.in-Some.«record» (omega arith) (sym c.in-Some.ensures) c.in_ok-points.ensures)

pub returns-then-is_empty-2 : goal.returns-then-is_empty-2
returns-then-is_empty-2 c = c.loop-i.invariant ∙ records_done c.loop-i.points.items (length c.args.bytes.now - c.loop-i.i) c.loop-i.base c.loop-i.rest.now (grind (arith, nat_tests))

pub returns : goal.returns
returns c = λ e. c.loop-i.invariant ∙ records_past c.loop-i.points.items (length c.args.bytes.now - c.loop-i.i) c.loop-i.base c.loop-i.rest.now (omega arith) (grind (arith, nat_tests))
