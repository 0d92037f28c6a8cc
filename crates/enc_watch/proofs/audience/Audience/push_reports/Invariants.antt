use Rattle.std.proofs.Common.{◌≡◌, ◌++◌, take}
use Rattle.std.specs.Prelude.{flat_map}
use Rattle.enc_watch.specs.Audience.{seat_report}
use Rattle.enc_watch.proofs.audience.Audience.push_reports.Given as goal

abbrev pub invariant-loop-seat : goal.invariant-loop-seat
invariant-loop-seat g l = l.out.items ≡ l.fn.out.items ++ flat_map seat_report (take l.seat-index l.seat-items)
