use Rattle.std.proofs.Common.{sym}
use Rattle.enc_frames.proofs.CastTypes.{no_base}
use Rattle.enc_frames.proofs.casts.is_of_class.Goals as goal

pub returns-then-not-is_row : goal.returns-then-not-is_row
returns-then-not-is_row g c = sym (no_base (g.V.ModuleView.meaning c.args.view.now) c.args.class c.args.token (sym c.if-not-is_row.ensures))
