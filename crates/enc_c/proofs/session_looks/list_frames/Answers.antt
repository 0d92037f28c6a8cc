use Rattle.enc_c.specs.SessionCalls.{facts_below}
use Rattle.enc_c.proofs.SessionCalled.{frames_more}
use Rattle.enc_c.proofs.session_looks.list_frames.Goals as goal

pub loop-i-init : goal.loop-i-init
unfolding facts_below
loop-i-init c = c.new-frames.ensures.items

pub loop-i-preserved : goal.loop-i-preserved
loop-i-preserved c =
    frames_more c.args.recording.now c.args.task c.loop-i.i c.frame.result c.loop-i.frames.items c.push_frame.new.frames.items c.frame.ensures
    c.loop-i.invariant c.in_ok-push_frame.ensures
