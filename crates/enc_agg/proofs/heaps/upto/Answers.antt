use Rattle.enc_agg.proofs.Starts.{starts_rise, have_begun}
use Rattle.enc_agg.proofs.heaps.upto.Goals as goal

pub begun-requires : goal.begun-requires
begun-requires c = starts_rise c.args.image.now c.args.added.now c.args.measure c.requires

pub returns-clause-begun : goal.returns-clause-begun
returns-clause-begun c = have_begun c.args.measure c.args.n c.args.added.now c.begun.result c.begun.ensures
