use Rattle.enc_opcodes.proofs.Example.{example_read}
use Rattle.enc_opcodes.proofs.laws.example_body.Goals as goal

pub returns : goal.returns
returns c = example_read
