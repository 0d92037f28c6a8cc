use Rattle.std.proofs.Common.{sym, ◌∙◌}
use Rattle.enc_agg.specs.Seen.{chain_of_all}
use Rattle.enc_agg.proofs.Histories.{extended_else}
use Rattle.enc_agg.proofs.after.AfterModuleView.entry.Goals as goal

pub returns : goal.returns
returns c = rw (← c.self.view_is) (c.entry.ensures ∙ sym (extended_else (chain_of_all c.self.inside.aggregate.now) c.self.inside.ready.now.delta).1)
