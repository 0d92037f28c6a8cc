use Rattle.enc_opcodes.proofs.Named.{codes_tell}
use Rattle.enc_opcodes.proofs.laws.code_laws.Goals as goal

pub returns : goal.returns
returns c = codes_tell
