use Rattle.std.proofs.Common.{rules, ◌∙◌, ap, arith, reverse, List}
use Rattle.enc_frames.proofs.Nearest.{swapped}
use Rattle.enc_frames.specs.FramesSeen.{with_nearest}
use Rattle.enc_frames.specs.Machine.{Frame}
use Rattle.enc_versions.specs.Version.{Version}
use Rattle.enc_frames.proofs.callers.Callers.swap_nearest.Goals as goal

pub returns-clause-below : goal.returns-clause-below
returns-clause-below c =
    swapped c.self.inside.items.items c.len-n.result c.swap.new.y c.args.top.now (omega arith) (search rules)
    ∙ ap (λ (f : Frame Version). with_nearest f (reverse c.self.inside.items.items)) c.swap.ensures.y_after
    ∙ ap (λ (l : List (Frame Version)). with_nearest c.args.top.now l) c.self.view_is
