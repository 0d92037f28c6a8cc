use Rattle.enc_text.proofs.Pieces.{on_ok}
use Rattle.enc_command_line.proofs.Listed.{base_pieces}
use Rattle.enc_command_line.proofs.generations.push_base.Goals as goal

pub returns : goal.returns
returns c = on_ok c.push_counts.result _ _ c.push_counts.ensures (λ new. base_pieces c.args.agg.now.base _ _ _ c.rows_of_base.result c.lengths_of_base.result c.rows_of_base.ensures c.lengths_of_base.ensures c.in_ok-push_str.ensures new)
