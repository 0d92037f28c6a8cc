use Rattle.std.proofs.Common.{◌≡◌, ◌++◌}
use Rattle.std.specs.Prelude.{flat_map}
use Rattle.enc_watch.specs.Watched.{hits_line}
use Rattle.enc_watch.proofs.hits.LineHits.text.Given as goal

-- the lines so far, with those of what is left
abbrev pub invariant-loop-at : goal.invariant-loop-at
invariant-loop-at l = l.text.items ++ flat_map hits_line l.at-iterator ≡ flat_map hits_line l.self
