use Rattle.std.proofs.Common.{refl}
use Rattle.enc_session.proofs.Begun.{few_frames}
use Rattle.enc_session.proofs.Turned.{no_task_passed, spawn_has_passed}
use Rattle.enc_session.specs.Session.{world_of}
use Rattle.enc_session.proofs.session.Session.spawn.Goals as goal

pub begun_events-events-requires : goal.begun_events-events-requires
begun_events-events-requires g c =
    few_frames (world_of c.self.inside.engine.followed) c.args.method c.self.inside.engine.machine c.in-Task.task c.spawn.new.self.machine
    (rw c.in-Task.is at c.in_ok-end.ensures.spawned)

pub returns-in-Task-clause-passed : goal.returns-in-Task-clause-passed
returns-in-Task-clause-passed g c =
    rw (← c.self.view_is)
    (spawn_has_passed c.args.method c.in-Task.task _ _ c.tell.new.out.items c.make_room.new.out.items c.args.out.now.items
    (rw c.in-Task.is at c.in_ok-end.ensures.spawned) c.in_ok-end.ensures.followed c.tell.ensures.given c.make_room.ensures.same
    (rw (c.as_slice.ensures, c.begun_events-events.ensures) at c.tell.ensures.told))

pub returns-in_default : goal.returns-in_default
returns-in_default g c = record {
  spawned = rw (← c.self.view_is) c.in_ok-end.ensures.spawned;
  passed =
      rw (← c.self.view_is)
      (no_task_passed c.args.method c.in_ok-end.end _ _ c.make_room.new.out.items c.args.out.now.items c.in_default.not-Task c.in_ok-end.ensures.spawned
      c.in_ok-end.ensures.followed refl c.make_room.ensures.same);
  given = rw (← c.self.view_is) refl;
  err = tt;
  kept = tt;
}
