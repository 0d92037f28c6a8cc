use Rattle.std.proofs.Common.{◌≤◌, ◌+◌, ◌-◌, length, take, drop, vec_len, vec_capacity}
use Rattle.enc_watch.specs.Audience.{fault_room}
use Rattle.enc_watch.specs.Telling.{IsHalfTold}
use Rattle.enc_watch.proofs.audience.tell_event.Given as goal

-- those below the index were told, and there is room for the lines of all that are left
abbrev pub invariant-loop-i : goal.invariant-loop-i
invariant-loop-i g l =
    IsHalfTold l.event (take l.i l.seats.items) (drop l.i l.seats.items) l.fn.seats.items l.out.items l.fn.out.items
    × (vec_len l.out + fault_room l.seats.items ≤ vec_capacity l.out)

abbrev pub decreases-loop-i : goal.decreases-loop-i
decreases-loop-i g l = length l.seats.items - l.i
