use Rattle.std.proofs.Common.{◌∙◌, arith}
use Rattle.enc_agg.proofs.Histories.{heaps_count}
use Rattle.enc_command_line.proofs.Listed.{is_at, id_is}
use Rattle.enc_command_line.proofs.generations.id_of.Goals as goal

pub enc_id-requires : goal.enc_id-requires
enc_id-requires c = omega (arith, heaps_count c.args.agg.now.base c.args.agg.now.deltas, (is_at c.args.agg.now.deltas c.args.generation c.args.delta.now c.requires.low c.requires.delta).high)

pub returns : goal.returns
returns c = c.enc_id.ensures ∙ id_is c.args.agg.now.base c.args.agg.now.deltas c.args.generation c.args.delta.now c.requires.low c.requires.delta
