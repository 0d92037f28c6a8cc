use Rattle.enc_plain.proofs.known.specs_alike_known.Goals as goal

pub judge_all_inner-requires-clause-pairs : goal.judge_all_inner-requires-clause-pairs
judge_all_inner-requires-clause-pairs g c = c.new-known.ensures.none (g.R.CellView.rows c.args.rows.now)
