use Rattle.enc_schema.proofs.TableNames.{tags_fit}
use Rattle.enc_schema.proofs.laws.coding_laws.Goals as goal

pub returns : goal.returns
returns c = tags_fit
