use Rattle.std.proofs.Common.{◌≡◌, ◌++◌, reverse, take}
use Rattle.std.specs.Prelude.{flat_map}
use Rattle.enc_session.specs.States.{frame_line}
use Rattle.enc_vm.specs.Looks.{frames_in}
use Rattle.enc_session.proofs.states.push_frames.Given as goal

-- the frames so far are appended
abbrev pub invariant-loop-i : goal.invariant-loop-i
invariant-loop-i l = l.out.items ≡ l.fn.out.items ++ flat_map frame_line (take l.i (reverse (frames_in l.machine l.task)))
