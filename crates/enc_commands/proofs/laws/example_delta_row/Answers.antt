use Rattle.enc_commands.proofs.Shown.{example_extended}
use Rattle.enc_commands.proofs.laws.example_delta_row.Goals as goal

pub returns : goal.returns
returns c = example_extended
