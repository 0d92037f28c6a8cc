use Rattle.enc_agg.specs.Prepared.{IsPrepared}
use Rattle.enc_agg.proofs.aggregate.Aggregate.after.Goals as goal

pub invariant_of-result : goal.invariant_of-result
unfolding IsPrepared
invariant_of-result c = record { owners = c.has_owners.ensures; added = c.requires.added; own = c.requires.own; sound = c.requires.sound }
