use Rattle.std.proofs.Common.{◌≡◌, ◌<◌, ◌∙◌, sym, arith}
use Rattle.enc_base.proofs.First.{first_none}
use Rattle.enc_rows.specs.Layout.{rows_of}
use Rattle.enc_base.specs.Tables as tables
use Rattle.enc_ppdb.specs.Fault.{method_fault}
use Rattle.enc_ppdb.proofs.RowsBroken.{ends_none, ends_step, end_good, first_bad, first_good, all_good}
use Rattle.enc_ppdb.proofs.ends.ends_of.Goals as goal

pub loop-n-init : goal.loop-n-init
loop-n-init c = record {
  good = first_none (method_fault c.args.file.now);
  ended = c.in_ok-ends.ensures.items ∙ sym (ends_none c.args.file.now);
  len = c.in_ok-ends.ensures.len;
  room = omega (arith, c.in_ok-ends.ensures.capacity);
}

pub returns-in-None : goal.returns-in-None
returns-in-None c =
    let within : c.loop-n.n < rows_of c.args.file.now.layout tables.method_debug_information = omega (arith, c.loop-n-test.true, c.count-rows.ensures.count) in
    rw (c.refused.ensures, c.nth_row.ensures) (first_bad c.args.file.now c.loop-n.n c.loop-n.invariant.good within (sym c.in-None.is ∙ c.in_ok-end.ensures))

pub loop-n-preserved : goal.loop-n-preserved
loop-n-preserved c =
    let is = sym c.in-Some.is ∙ c.in_ok-end.ensures in
    let good = end_good c.args.file.now c.loop-n.n c.in-Some.end is in
    record {
      good = first_good c.args.file.now c.loop-n.n c.in-Some.end c.loop-n.invariant.good is;
      ended = ends_step c.args.file.now c.loop-n.n c.in-Some.end c.loop-n.ends.items c.push_reserved.new.self.items c.loop-n.invariant.ended good.1 c.push_reserved.ensures.items;
      len = omega (arith, c.push_reserved.ensures.len, c.loop-n.invariant.len);
      room = omega (arith, c.push_reserved.ensures.capacity, c.loop-n.invariant.room);
    }

pub returns : goal.returns
returns c =
    let all : c.loop-n.n ≡ rows_of c.args.file.now.layout tables.method_debug_information = omega (arith, c.loop-n-test.false, c.loop-n.auto.n-end, c.count-rows.ensures.count) in
    (all_good c.args.file.now (rw all at c.loop-n.invariant.good), rw all at c.loop-n.invariant.ended)
