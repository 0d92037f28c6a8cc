use Rattle.std.proofs.Common.{sym, ◌∙◌}
use Rattle.enc_agg.proofs.Histories.{all_else}
use Rattle.enc_agg.proofs.earlier.EarlierModuleView.entry.Goals as goal

pub returns : goal.returns
returns c = rw (← c.self.view_is) (c.entry.ensures ∙ sym (all_else c.self.inside.image.now _).1)
