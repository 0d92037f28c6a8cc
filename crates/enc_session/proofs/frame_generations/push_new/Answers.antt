use Rattle.std.proofs.Common.{arith}
use Rattle.std.proofs.lemmas.Grind.{common_steps}
use Rattle.enc_session.specs.RecordingSeen.{generation_at}
use Rattle.enc_session.proofs.FrameGenerations.{generation_more}
use Rattle.enc_session.proofs.frame_generations.push_new.Goals as goal

pub loop-i-preserved : goal.loop-i-preserved
loop-i-preserved c = (
  generation_more (generation_at c.args.newest.now) c.args.engine.now.machine c.args.task c.loop-i.i c.generation_of.result c.loop-i.items.items c.push_reserved.new.self.items _
      (omega (arith, c.loop-i-test.true, c.depth-i-end.ensures.depth)) c.generation_of.ensures c.loop-i.invariant.0 c.push_reserved.ensures.items,
  grind (arith, common_steps),
  grind (arith, common_steps),
)
