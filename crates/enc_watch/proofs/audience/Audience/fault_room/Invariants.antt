use Rattle.std.proofs.Common.{◌≡◌, take}
use Rattle.enc_watch.specs.Audience.{fault_room}
use Rattle.enc_watch.proofs.audience.Audience.fault_room.Given as goal

abbrev pub invariant-loop-seat : goal.invariant-loop-seat
invariant-loop-seat g l = l.room ≡ fault_room (take l.seat-index l.seat-items)
