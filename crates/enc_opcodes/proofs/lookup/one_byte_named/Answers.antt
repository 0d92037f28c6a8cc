use Rattle.enc_opcodes.proofs.Named.{one_byte_known}
use Rattle.enc_opcodes.proofs.lookup.one_byte_named.Goals as goal

pub returns-clause-known : goal.returns-clause-known
returns-clause-known c = one_byte_known c.args.name.now c.named_in.result c.named_in.ensures
