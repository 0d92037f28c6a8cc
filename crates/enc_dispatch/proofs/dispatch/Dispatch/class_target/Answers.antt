use Rattle.std.proofs.Common.{sym, ◌∙◌}
use Rattle.enc_dispatch.specs.Walked.{path_in}
use Rattle.enc_dispatch.proofs.Climbs.{place_within}
use Rattle.enc_dispatch.proofs.dispatch.Dispatch.class_target.Goals as goal

pub walk_down-requires : goal.walk_down-requires
walk_down-requires c = place_within c.args.declaring (path_in c.args.self.now c.args.class) c.in_ok-count.count (sym c.place_on_path.ensures ∙ c.in_ok-count.was)
