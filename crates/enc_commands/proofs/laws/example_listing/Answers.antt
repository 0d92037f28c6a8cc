use Rattle.enc_commands.proofs.Shown.{example_listed}
use Rattle.enc_commands.proofs.laws.example_listing.Goals as goal

pub returns : goal.returns
returns c = example_listed
