use Rattle.std.proofs.Common.{◌∙◌}
use Rattle.enc_pe.proofs.Loaded.{ranges_loaded}
use Rattle.enc_pe.proofs.container.at_rva.Goals as goal

pub returns-clause-loaded : goal.returns-clause-loaded
returns-clause-loaded c = c.range_at.ensures.bytes ∙ ranges_loaded _ _ _ _
