use Rattle.std.proofs.Common.{arith}
use Rattle.enc_rows.proofs.Named.{place_more}
use Rattle.enc_rows.proofs.children.push_places.Goals as goal

pub loop-p-preserved : goal.loop-p-preserved
loop-p-preserved c = place_more c.loop-p.p c.args.run.end _ _ _ (omega arith) c.in_ok-push.ensures.items c.loop-p.invariant
