use Rattle.enc_session.proofs.Generations.{generations_follow, generations_stay}
use Rattle.enc_session.proofs.Recorded.{have_room}
use Rattle.enc_session.specs.RecordingSeen.{greatest_row}
use Rattle.enc_session.proofs.recording.Recording.follow.Goals as goal

pub invariant_of-self-in_err-follow : goal.invariant_of-self-in_err-follow
invariant_of-self-in_err-follow c = (
  c.self.invariant.0,
  rw c.in_err-follow.ensures.err
      (generations_stay c.self.inside.engine.followed.deltas (greatest_row c.in_ok-methods.methods) c.make_room.new.self c.self.inside.newest
      c.in_ok-make_room.ensures.ok c.self.invariant.1),
  rw c.in_err-follow.ensures.err c.self.invariant.2,
)

pub invariant_of-self-2 : goal.invariant_of-self-2
invariant_of-self-2 c = (
  have_room c.self.inside.limit c.push_events.new.all c.self.inside.events _ c.push_events.ensures.events c.push_events.ensures.capacity c.self.invariant.0
      (rw (← c.self.view_is) at c.requires.room),
  rw c.in_ok-follow.ensures.ok
      (generations_follow c.args.checked.delta c.self.inside.engine.followed.deltas c.in_ok-methods.methods c.bring.new.self c.make_room.new.self
      c.self.inside.newest c.generations-generation.result c.in_ok-methods.ensures c.generations-generation.ensures c.in_ok-make_room.ensures.ok
      c.bring.ensures c.self.invariant.1),
  rw c.in_ok-follow.ensures.ok c.self.invariant.2,
)
