use Rattle.std.proofs.Common.{refl}
use Rattle.enc_text.proofs.Pieces.{on_ok}
use Rattle.enc_command_line.proofs.Listed.{delta_pieces}
use Rattle.enc_command_line.specs.Listing.{chain_before}
use Rattle.enc_command_line.proofs.generations.push_listed.Goals as goal

pub returns : goal.returns
returns c = on_ok c.push_tokens.result _ _ c.push_tokens.ensures (λ new. delta_pieces (chain_before c.args.agg.now c.args.generation) c.args.generation c.args.delta.now c.args.agg.now.deltas c.args.tokens.now c.id_of-id.result _ c.lengths.result _ _ _ c.requires.tokens c.id_of-id.ensures refl c.lengths.ensures c.in_ok-push_head.ensures new)
