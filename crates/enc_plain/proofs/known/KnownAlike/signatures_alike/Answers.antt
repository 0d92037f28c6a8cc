use Rattle.enc_plain.proofs.known.KnownAlike.signatures_alike.Goals as goal

pub judged_alike-requires : goal.judged_alike-requires
judged_alike-requires g c = c.turn_to.ensures.known (g.R.CellView.rows c.args.rows.now) (g.R.CellView.stored c.args.rows.now) c.requires
