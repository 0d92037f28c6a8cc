use Rattle.enc_generator.proofs.Turning.{methods_more}
use Rattle.enc_generator.proofs.base.push_methods.Goals as goal

pub loop-k-preserved : goal.loop-k-preserved
loop-k-preserved c = methods_more c.args.count c.loop-k.k c.loop-k.edits c.push.new.self _ c.in_ok-base_method.field-0 c.loop-k-test.true c.in_ok-base_method.ensures c.in_ok-push.ensures.ok c.loop-k.invariant
