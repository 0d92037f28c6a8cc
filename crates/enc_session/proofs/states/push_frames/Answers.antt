use Rattle.enc_session.proofs.Looked.{frames_more}
use Rattle.enc_session.proofs.states.push_frames.Goals as goal

pub loop-i-preserved : goal.loop-i-preserved
loop-i-preserved c = frames_more c.args.machine.now c.args.task c.loop-i.i _ _ _ c.loop-i.invariant c.in_ok-push_frame_at.ensures
