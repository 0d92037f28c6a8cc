use Rattle.enc_jobs.proofs.EditForms.{said_fits}
use Rattle.enc_jobs.proofs.laws.form_law.Goals as goal

pub returns : goal.returns
returns c = said_fits c.name_laws.ensures.named
