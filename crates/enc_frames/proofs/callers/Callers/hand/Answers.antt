use Rattle.std.proofs.Common.{rules, ◌-◌, reverse, List, slice_set, subst}
use Rattle.enc_versions.specs.Version.{Version}
use Rattle.enc_frames.proofs.Nearest.{first_does}
use Rattle.enc_frames.specs.FramesSeen.{handed_first}
use Rattle.enc_frames.specs.Does.{Does}
use Rattle.enc_frames.specs.Machine.{Frame}
use Rattle.enc_frames.proofs.callers.Callers.hand.Goals as goal

pub returns : goal.returns
returns c =
    subst (λ (l : List (Frame Version)). Does c.take_given.result (reverse (slice_set c.self.inside.items.items (c.len-n.result - 1) c.take_given.new.self)) l (handed_first c.args.value l))
    c.self.view_is
    (first_does c.take_given.result c.args.value c.self.inside.items.items c.len-n.result c.index_mut.result.now c.take_given.new.self c.index_mut.result.now (search rules) (search rules) (search rules) c.take_given.ensures)
