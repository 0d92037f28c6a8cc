use Rattle.std.proofs.Common.{◌≡◌, take}
use Rattle.enc_c.specs.SessionNumbers.{pairs_of}
use Rattle.enc_c.proofs.session_changes.list_pairs.Given as goal

abbrev pub invariant-loop-pair : goal.invariant-loop-pair
invariant-loop-pair l = l.pairs ≡ pairs_of (take l.pair-index l.map)
