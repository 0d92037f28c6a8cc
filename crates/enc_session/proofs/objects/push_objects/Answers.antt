use Rattle.std.proofs.Common.{arith}
use Rattle.enc_session.proofs.Numbered.{object_there, objects_more}
use Rattle.enc_session.proofs.objects.push_objects.Goals as goal

pub push_object-requires : goal.push_object-requires
push_object-requires c = object_there c.args.objects.now c.loop-i.i (omega arith)

pub loop-i-preserved : goal.loop-i-preserved
loop-i-preserved c = objects_more c.args.objects.now c.loop-i.i _ _ _ c.loop-i.invariant c.in_ok-push_object.ensures
