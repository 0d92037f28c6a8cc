use Rattle.std.proofs.Common.{◌∙◌}
use Rattle.enc_rows.proofs.Whole.{laid_is, whole_no, whole_yes}
use Rattle.enc_rows.proofs.tables.whole.Goals as goal

pub returns-then-not-fits-clause-layout : goal.returns-then-not-fits-clause-layout
returns-then-not-fits-clause-layout c = whole_no _ _ _ _ _ _ (laid_is _ _ _ _ _ _ _ _ _ _ c.counts_of-counts.ensures c.widths_of-widths.ensures c.width_counts_of.ensures c.first_row-first.ensures.place) c.starts_of-starts.ensures.end c.if-not-fits.ensures

pub returns-clause-layout : goal.returns-clause-layout
returns-clause-layout c = whole_yes _ _ _ _ _ _ (laid_is _ _ _ _ _ _ _ _ _ _ c.counts_of-counts.ensures (c.of.ensures ∙ c.widths_of-widths.ensures) c.width_counts_of.ensures c.first_row-first.ensures.place) (rw (← c.of.ensures) at c.starts_of-starts.ensures.end) c.if-not-fits.ensures
