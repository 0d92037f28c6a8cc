use Rattle.enc_agg.specs.Seen.{chain_of_all}
use Rattle.enc_agg.proofs.SoundDeltas.{delta_keeps_sound}
use Rattle.enc_agg.proofs.aggregate.Aggregate.stays_sound.Goals as goal

pub returns : goal.returns
returns c = delta_keeps_sound (chain_of_all c.args.self.now) c.args.delta.now c.was_read.ensures c.requires c.sound.ensures
