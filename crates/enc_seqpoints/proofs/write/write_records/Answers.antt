use Rattle.std.proofs.Common.{◌+◌, ◌∙◌, sym, arith, refl}
use Rattle.enc_seqpoints.specs.Spelling.{records_of}
use Rattle.enc_seqpoints.proofs.Writing.{write_more, write_stopped, write_done}
use Rattle.enc_seqpoints.proofs.write.write_records.Goals as goal

pub returns-then-not-is_writable : goal.returns-then-not-is_writable
returns-then-not-is_writable c = write_stopped c.args.out.now.items c.loop-i.out.items c.loop-i.i (records_of c.args.base c.args.points.now) c.loop-i.base c.args.points.now _ c.loop-i-test.true c.loop-i.invariant (sym c.is_writable.ensures ∙ c.if-not-is_writable.true)

pub loop-i-preserved : goal.loop-i-preserved
loop-i-preserved c =
    rw (c.in_ok-write_point.ensures, c.after-base.ensures)
    (c.loop-i.invariant ∙ write_more c.loop-i.i (c.loop-i.i + 1) c.loop-i.out.items c.loop-i.base c.args.points.now _ c.loop-i-test.true refl (sym c.is_writable.ensures ∙ c.if-not-is_writable.false))

pub returns : goal.returns
returns c = c.loop-i.invariant ∙ write_done c.loop-i.i c.loop-i.out.items c.loop-i.base c.args.points.now (omega arith)
