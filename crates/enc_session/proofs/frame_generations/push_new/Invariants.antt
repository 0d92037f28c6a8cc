use Rattle.std.proofs.Common.{◌≡◌, ◌≤◌, ◌++◌, length}
use Rattle.std.specs.Prelude.{vec_capacity}
use Rattle.enc_session.specs.RecordingSeen.{generations_behind, generation_at}
use Rattle.enc_vm.specs.Looks.{frames_in}
use Rattle.enc_session.proofs.frame_generations.push_new.Given as goal

abbrev pub invariant-loop-i : goal.invariant-loop-i
invariant-loop-i l =
    (l.items.items ++ generations_behind (generation_at l.fn.newest) (frames_in l.fn.engine.machine l.fn.task) l.i
    ≡ l.fn.items.items ++ generations_behind (generation_at l.fn.newest) (frames_in l.fn.engine.machine l.fn.task) (length l.fn.items.items))
    × (length l.items.items ≤ l.i) × (1024 ≤ vec_capacity l.items)
