use Rattle.enc_commands.proofs.Shown.{example_shown}
use Rattle.enc_commands.proofs.laws.example_row.Goals as goal

pub returns : goal.returns
returns c = example_shown
