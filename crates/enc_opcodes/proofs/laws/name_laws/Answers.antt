use Rattle.enc_opcodes.proofs.Named.{names_tell, named_is_op, named_has_name}
use Rattle.enc_opcodes.proofs.laws.name_laws.Goals as goal

pub returns-clause-found : goal.returns-clause-found
returns-clause-found c = names_tell

pub returns-clause-named : goal.returns-clause-named
returns-clause-named c = λ name o h. (named_is_op name o h, named_has_name name o h)
