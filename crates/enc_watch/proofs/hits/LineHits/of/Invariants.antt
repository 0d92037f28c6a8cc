use Rattle.std.proofs.Common.{◌≡◌, [], take}
use Rattle.std.specs.List.{fold}
use Rattle.enc_watch.specs.Watched.{hits_with}
use Rattle.enc_watch.proofs.hits.LineHits.of.Given as goal

-- the lines of the events so far are counted
abbrev pub invariant-loop-event : goal.invariant-loop-event
invariant-loop-event l = l.hits ≡ fold hits_with [] (take l.event-index l.heard)
