use Rattle.enc_list_delta.proofs.BodyRules.{keeps_bodies}
use Rattle.enc_list_delta.proofs.rules.broken_body_law.Goals as goal

pub returns : goal.returns
returns c = keeps_bodies
