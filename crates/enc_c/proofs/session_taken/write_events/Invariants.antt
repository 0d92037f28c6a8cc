use Rattle.std.proofs.Common.{◌≡◌, ◌++◌, drop, map, take}
use Rattle.enc_c.specs.SessionNumbers.{event_numbers}
use Rattle.enc_c.proofs.session_taken.write_events.Given as goal

abbrev pub invariant-loop-i : goal.invariant-loop-i
invariant-loop-i l = l.buffer ≡ map event_numbers (take l.i l.fn.events) ++ drop l.i l.fn.buffer
