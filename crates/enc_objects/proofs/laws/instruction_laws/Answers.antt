use Rattle.enc_objects.proofs.Names.{binary_are_named, unary_are_named}
use Rattle.enc_objects.proofs.laws.instruction_laws.Goals as goal

pub returns-clause-two : goal.returns-clause-two
returns-clause-two c = binary_are_named

pub returns-clause-one : goal.returns-clause-one
returns-clause-one c = unary_are_named
