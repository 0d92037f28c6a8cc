use Rattle.std.proofs.Common.{arith}
use Rattle.enc_generator.proofs.Turning.{edits_more, edits_end}
use Rattle.enc_generator.proofs.lists.edits_of.Goals as goal

pub loop-k-preserved : goal.loop-k-preserved
loop-k-preserved c = edits_more c.args.list c.loop-k.k c.args.turns.now c.loop-k.edits c.push_edit.new.edits _ c.index-turns-k.result _ c.loop-k-test.true c.index-turns-k.is c.in_ok-push_edit.ensures c.loop-k.invariant

pub returns : goal.returns
returns c = edits_end c.args.list c.loop-k.k c.args.turns.now c.loop-k.edits _ (omega (arith, c.loop-k-test.false)) c.loop-k.invariant
