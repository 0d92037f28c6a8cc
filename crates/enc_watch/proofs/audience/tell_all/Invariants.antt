use Rattle.std.proofs.Common.{◌≤◌, ◌+◌, take, vec_len, vec_capacity}
use Rattle.enc_watch.specs.Audience.{AreTold, fault_room}
use Rattle.enc_watch.proofs.audience.tell_all.Given as goal

-- the events so far were told, and there is room for the lines of all that are left
abbrev pub invariant-loop-event : goal.invariant-loop-event
invariant-loop-event g l =
    AreTold (take l.event-index l.events) l.seats.items l.fn.seats.items l.out.items l.fn.out.items
    × (vec_len l.out + fault_room l.seats.items ≤ vec_capacity l.out)
