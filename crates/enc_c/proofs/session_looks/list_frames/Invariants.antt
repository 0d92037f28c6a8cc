use Rattle.std.proofs.Common.{◌≡◌, map}
use Rattle.enc_c.specs.SessionCalls.{facts_below}
use Rattle.enc_c.specs.SessionNumbers.{frame_numbers}
use Rattle.enc_c.proofs.session_looks.list_frames.Given as goal

abbrev pub invariant-loop-i : goal.invariant-loop-i
invariant-loop-i l = l.frames.items ≡ map frame_numbers (facts_below l.fn.recording l.fn.task l.i)
