use Rattle.enc_opcodes.proofs.Named.{few_at}
use Rattle.enc_opcodes.proofs.lookup.op_name.Goals as goal

pub returns-clause-few : goal.returns-clause-few
returns-clause-few c = few_at c.args.op.byte (c.in-Some.name.now, c.in-Some.field-0-1) c.in-Some.ensures
