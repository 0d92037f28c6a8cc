use Rattle.std.proofs.Common.{arith}
use Rattle.enc_agg.proofs.Histories.{heaps_count}
use Rattle.enc_commands.proofs.commands.check.delta_count.Goals as goal

pub returns : goal.returns
returns c = omega (arith, heaps_count c.args.agg.now.base c.args.agg.now.deltas, c.generations.ensures.heaps)
