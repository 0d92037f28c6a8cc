use Rattle.std.proofs.Common.{◌≡◌, take}
use Rattle.std.specs.Prelude.{flat_map}
use Rattle.enc_watch.specs.Watched.{event_line}
use Rattle.enc_watch.proofs.lines.trace_report.Given as goal

-- the lines of the events so far
abbrev pub invariant-loop-event : goal.invariant-loop-event
invariant-loop-event l = l.text.items ≡ flat_map event_line (take l.event-index l.heard)
