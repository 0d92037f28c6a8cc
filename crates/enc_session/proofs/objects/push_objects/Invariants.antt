use Rattle.std.proofs.Common.{◌≡◌, ◌++◌, take}
use Rattle.enc_session.specs.States.{objects_text}
use Rattle.enc_session.proofs.objects.push_objects.Given as goal

-- the objects so far are appended
abbrev pub invariant-loop-i : goal.invariant-loop-i
invariant-loop-i l = l.out.items ≡ l.fn.out.items ++ objects_text 1 (take l.i l.objects.objects)
