use Rattle.enc_vm.proofs.PlacesKept.{plain_kept, meant_placed}
use Rattle.enc_vm.proofs.laws.kept_place_laws.Goals as goal

pub returns-clause-kept : goal.returns-clause-kept
returns-clause-kept c = plain_kept

pub returns-clause-meant : goal.returns-clause-meant
returns-clause-meant c = meant_placed
