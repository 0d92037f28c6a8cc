use Rattle.std.proofs.Common.{◌≤◌, length, refl, arith}
use Rattle.enc_session.proofs.Begun.{few_frames}
use Rattle.enc_session.proofs.GenerationsKept.{spawn_has_generations}
use Rattle.enc_session.proofs.Recorded.{begun_few, have_room, more_few, no_task_recorded, spawn_is_recorded}
use Rattle.enc_session.specs.RecordingSeen.{generation_at}
use Rattle.enc_session.specs.Session.{world_of}
use Rattle.enc_session.proofs.recording.Recording.spawn.Goals as goal

pub returns-in_default : goal.returns-in_default
returns-in_default c = record {
  spawned = rw (← c.self.view_is) c.in_ok-end.ensures.spawned;
  recorded =
      rw (← c.self.view_is)
      (no_task_recorded c.args.method c.in_ok-end.end _ _ c.in_default.not-Task c.in_ok-end.ensures.spawned c.in_ok-end.ensures.followed refl refl
      c.reserve.ensures.items refl);
  few = rw (← c.self.view_is) (omega arith);
  err = tt;
}

pub begun_events-events-requires : goal.begun_events-events-requires
begun_events-events-requires c =
    few_frames (world_of c.self.inside.engine.followed) c.args.method c.self.inside.engine.machine c.in-Task.task c.spawn.new.self.machine
    (rw c.in-Task.is at c.in_ok-end.ensures.spawned)

pub push_events-requires : goal.push_events-requires
push_events-requires c =
    let few : length c.as_slice.result.now ≤ 3 =
    rw (c.as_slice.ensures, c.begun_events-events.ensures)
    (begun_few c.args.method c.in-Task.task c.spawn.new.self.machine
    (few_frames (world_of c.self.inside.engine.followed) c.args.method c.self.inside.engine.machine c.in-Task.task c.spawn.new.self.machine
    (rw c.in-Task.is at c.in_ok-end.ensures.spawned))) in
    let asked = rw (← c.self.view_is) at c.requires in let room = c.self.invariant.0.room in let count = c.self.inside.events.ok.0 in
    omega (arith, few, asked, room, count)

pub invariant_of-self-2 : goal.invariant_of-self-2
invariant_of-self-2 c =
    let few : length c.as_slice.result.now ≤ 3 =
    rw (c.as_slice.ensures, c.begun_events-events.ensures)
    (begun_few c.args.method c.in-Task.task c.spawn.new.self.machine
    (few_frames (world_of c.self.inside.engine.followed) c.args.method c.self.inside.engine.machine c.in-Task.task c.spawn.new.self.machine
    (rw c.in-Task.is at c.in_ok-end.ensures.spawned))) in
    let asked = rw (← c.self.view_is) at c.requires in (
      have_room c.self.inside.limit c.push_events.new.all c.self.inside.events c.as_slice.result.now c.push_events.ensures.events
          c.push_events.ensures.capacity c.self.invariant.0 (omega (arith, few, asked)),
      rw c.in_ok-end.ensures.followed c.self.invariant.1,
      spawn_has_generations (world_of c.self.inside.engine.followed) c.args.method (generation_at c.self.inside.newest) c.self.inside.engine.machine
          c.spawn.new.self.machine c.in-Task.task c.self.inside.generations.items c.push_reserved.new.self.items
          (rw c.in-Task.is at c.in_ok-end.ensures.spawned)
          (rw (c.reserve.ensures.items, c.settle.ensures, c.in_ok-generations.ensures) at c.push_reserved.ensures.items) c.self.invariant.2,
    )

pub returns-clause-recorded : goal.returns-clause-recorded
returns-clause-recorded c =
    rw (← c.self.view_is)
    (spawn_is_recorded c.args.method c.in-Task.task _ _ (generation_at c.self.inside.newest) (rw c.in-Task.is at c.in_ok-end.ensures.spawned) c.self.invariant.1
    c.in_ok-end.ensures.followed (rw (c.as_slice.ensures, c.begun_events-events.ensures) at c.push_events.ensures.events) refl
    (rw (c.reserve.ensures.items, c.settle.ensures, c.in_ok-generations.ensures) at c.push_reserved.ensures.items) refl)

pub returns-clause-few : goal.returns-clause-few
returns-clause-few c =
    rw (← c.self.view_is)
    (more_few c.push_events.new.all.items c.self.inside.events.items c.as_slice.result.now 3 c.push_events.ensures.events
    (rw (c.as_slice.ensures, c.begun_events-events.ensures)
    (begun_few c.args.method c.in-Task.task c.spawn.new.self.machine
    (few_frames (world_of c.self.inside.engine.followed) c.args.method c.self.inside.engine.machine c.in-Task.task c.spawn.new.self.machine
    (rw c.in-Task.is at c.in_ok-end.ensures.spawned)))))
