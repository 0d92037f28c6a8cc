use Rattle.std.proofs.Common.{arith}
use Rattle.enc_agg.proofs.Histories.{heaps_count}
use Rattle.enc_command_line.proofs.Listed.{no_lines, has_delta, lines_more, lines_done}
use Rattle.enc_command_line.proofs.generations.push_all.Goals as goal

pub push_delta-requires-clause-high : goal.push_delta-requires-clause-high
push_delta-requires-clause-high c = omega (arith, heaps_count c.args.agg.now.base c.args.agg.now.deltas, c.generations-g-end.ensures.heaps, c.loop-g-test.true)

pub unreachable-requires : goal.unreachable-requires
unreachable-requires c = has_delta c.args.agg.now.deltas c.loop-g.g (omega (arith, c.loop-g.invariant.0)) (omega (arith, heaps_count c.args.agg.now.base c.args.agg.now.deltas, c.generations-g-end.ensures.heaps, c.loop-g-test.true)) (rw c.in-None.is at c.delta.ensures)

pub loop-g-init : goal.loop-g-init
loop-g-init c = (omega arith, rw (no_lines c.args.agg.now.base c.args.agg.now.deltas) c.in_ok-push_base.ensures)

pub loop-g-preserved : goal.loop-g-preserved
loop-g-preserved c =
    let there = rw c.in-Some.is at c.delta.ensures in
    (omega arith, lines_more c.args.agg.now.base c.args.agg.now.deltas c.loop-g.g c.in-Some.delta.now _ _ _ (omega (arith, c.loop-g.invariant.0)) there c.loop-g.invariant.1 c.in_ok-push_delta-in-Some.ensures)

pub returns : goal.returns
returns c = lines_done c.args.agg.now.base c.args.agg.now.deltas c.loop-g.g _ _ (omega (arith, heaps_count c.args.agg.now.base c.args.agg.now.deltas, c.generations-g-end.ensures.heaps, c.loop-g-test.false)) c.loop-g.invariant.1
