use Rattle.std.proofs.Common.{◌≡◌, ◌++◌, take}
use Rattle.enc_session.specs.States.{tasks_text}
use Rattle.enc_session.proofs.states.push_tasks.Given as goal

-- the tasks so far are appended
abbrev pub invariant-loop-i : goal.invariant-loop-i
invariant-loop-i l = l.out.items ≡ l.fn.out.items ++ tasks_text 1 (take l.i l.machine.tasks)
