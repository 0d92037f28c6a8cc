use Rattle.std.proofs.Common.{refl}
use Rattle.enc_checker.specs.Followed.{plain_of, debug_after}
use Rattle.enc_session.proofs.GenerationsKept.{remap_has_generations}
use Rattle.enc_session.proofs.Recorded.{no_remap_recorded, remap_is_recorded}
use Rattle.enc_session.specs.RecordingSeen.{generation_at}
use Rattle.enc_session.proofs.recording.Recording.remap.Goals as goal

pub returns-in-Moved-clause-recorded : goal.returns-in-Moved-clause-recorded
returns-in-Moved-clause-recorded c =
    rw (← c.self.view_is)
    (remap_is_recorded c.args.task c.args.map.now c.in-Moved.method c.in-Moved.from c.in-Moved.to _ _ (generation_at c.self.inside.newest) c.at.result
    (rw c.in-Moved.is at c.in_ok-method.ensures.remapped) c.self.invariant.1 c.at.ensures c.in_ok-method.ensures.followed refl refl c.move_generation.ensures refl)

pub returns-in-Refused-clause-recorded : goal.returns-in-Refused-clause-recorded
returns-in-Refused-clause-recorded c =
    rw (← c.self.view_is)
    (no_remap_recorded c.args.task c.args.map.now c.in-Refused.number _ _ (rw c.in-Refused.is at c.in_ok-method.ensures.remapped)
    c.in_ok-method.ensures.followed refl refl refl refl)

pub invariant_of-self-in-Moved : goal.invariant_of-self-in-Moved
invariant_of-self-in-Moved c = (
  c.self.invariant.0,
  rw c.in_ok-method.ensures.followed c.self.invariant.1,
  remap_has_generations (plain_of c.self.inside.engine.followed) (debug_after c.self.inside.engine.followed) c.args.task c.at.result c.in-Moved.from c.in-Moved.to
      c.in-Moved.method c.args.map.now c.self.inside.engine.machine c.remap.new.self.machine c.self.inside.generations.items c.move_generation.new.generations.items
      (rw c.in-Moved.is at c.in_ok-method.ensures.remapped) c.move_generation.ensures c.self.invariant.2,
)
