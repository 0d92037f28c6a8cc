use Rattle.enc_session.specs.RecordingSeen.{generation_at}
use Rattle.enc_vm.specs.Looks.{frames_in}
use Rattle.enc_session.proofs.FrameGenerations.{settled_generations}
use Rattle.enc_session.proofs.frame_generations.FrameGenerations.settle.Goals as goal

pub returns : goal.returns
returns c =
    rw (← c.self.view_is)
    (settled_generations (generation_at c.args.newest.now) (frames_in c.args.engine.now.machine c.args.task) c.self.inside.items.items c.truncate.new.self.items
    c.push_new.new.items.items c.depth.result c.depth.ensures.depth c.truncate.ensures.items c.push_new.ensures.items)
