use Rattle.enc_text.proofs.Pieces.{on_ok}
use Rattle.enc_command_line.proofs.Listed.{head_pieces}
use Rattle.enc_command_line.proofs.generations.push_head.Goals as goal

pub returns : goal.returns
returns c = on_ok c.push_counts.result _ _ c.push_counts.ensures (λ new. head_pieces c.args.generation c.args.id c.args.rows c.args.lengths _ _ _ _ _ _ c.in_ok-push_str.ensures c.in_ok-push_decimal.ensures c.in_ok-push_str-2.ensures c.in_ok-push_guid.ensures new)
