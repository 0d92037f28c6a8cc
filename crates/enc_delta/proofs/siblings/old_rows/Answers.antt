use Rattle.std.proofs.Common.{sym, ◌∙◌}
use Rattle.enc_delta.proofs.TwinsTold.{old_none}
use Rattle.enc_delta.proofs.siblings.old_rows.Goals as goal

pub returns-then-not-is_row : goal.returns-then-not-is_row
returns-then-not-is_row g c = c.new-then-not-is_row.ensures.items ∙ sym (old_none _ c.args.pair (rw (g.met.C.ChainView.means c.args.chain.now) at (sym c.is_row.ensures ∙ c.if-not-is_row.true)))
