use Rattle.std.proofs.Common.{sym, ap, ◌∙◌}
use Rattle.enc_plain.specs.Module.{has_row}
use Rattle.enc_delta.proofs.Methods.{no_body_before}
use Rattle.enc_delta.proofs.bodies.has_body.Goals as goal

pub returns-then-not-is_row : goal.returns-then-not-is_row
returns-then-not-is_row g c = no_body_before (g.C.ChainView.chain c.args.chain.now).plain c.args.method (ap (λ m. has_row m c.args.method) (sym (g.met.C.ChainView.means c.args.chain.now)) ∙ sym c.is_row.ensures ∙ c.if-not-is_row.true)
