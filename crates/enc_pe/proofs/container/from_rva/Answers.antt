use Rattle.std.proofs.Common.{◌∙◌}
use Rattle.enc_pe.proofs.Loaded.{rests_loaded}
use Rattle.enc_pe.proofs.container.from_rva.Goals as goal

pub returns-clause-loaded : goal.returns-clause-loaded
returns-clause-loaded c = c.rest_at.ensures.bytes ∙ rests_loaded _ _ _
