use Rattle.std.proofs.Common.{length}
use Rattle.std.specs.Prelude.{reverse}
use Rattle.enc_agg.specs.Follows.{AllFollow}
use Rattle.enc_agg.specs.Seen.{sources, AllAdded}
use Rattle.enc_agg.proofs.added.all_follow.Given as goal

abbrev pub invariant-loop-last : goal.invariant-loop-last
invariant-loop-last l = AllAdded l.image (reverse l.rest) × (AllFollow l.image (sources (reverse l.rest)) → AllFollow l.image (sources (reverse l.added)))

abbrev pub decreases-loop-last : goal.decreases-loop-last
decreases-loop-last l = length l.rest
