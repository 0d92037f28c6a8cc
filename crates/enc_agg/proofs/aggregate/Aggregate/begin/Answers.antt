use Rattle.enc_agg.specs.Extend.{chain_with}
use Rattle.enc_agg.specs.Seen.{AllAdded}
use Rattle.enc_agg.proofs.Directories.{bare_is}
use Rattle.enc_agg.proofs.EveryPlace.{no_places, sound_alone}
use Rattle.enc_agg.proofs.aggregate.Aggregate.begin.Goals as goal

pub invariant_of-result : goal.invariant_of-result
unfolding AllAdded chain_with
invariant_of-result c = rw c.new.ensures.items (record { deltas = record { sound = c.sound.ensures.cells; all = tt }; directory = bare_is _ _ c.new-2.ensures; places = no_places _ c.new-3.ensures.counts; sound = sound_alone _ c.sound.ensures.sound })
