use Rattle.enc_opcodes.proofs.Named.{two_bytes_known}
use Rattle.enc_opcodes.proofs.lookup.two_bytes_named.Goals as goal

pub returns-clause-known : goal.returns-clause-known
returns-clause-known c = two_bytes_known c.args.name.now c.named_in.result c.named_in.ensures
