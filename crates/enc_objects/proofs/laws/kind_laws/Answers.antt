use Rattle.enc_objects.proofs.KindsOfNumbers.{cuts_are_of_kinds, numbers_of_kinds_stay}
use Rattle.enc_objects.proofs.laws.kind_laws.Goals as goal

pub returns-clause-cut : goal.returns-clause-cut
returns-clause-cut c = cuts_are_of_kinds

pub returns-clause-stays : goal.returns-clause-stays
returns-clause-stays c = numbers_of_kinds_stay
