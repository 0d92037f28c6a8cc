use Rattle.enc_vm.proofs.StaysPlaced.{plain_steps, plain_spawns, steps_stay, spawns_are}
use Rattle.enc_vm.proofs.laws.place_laws.Goals as goal

pub returns-clause-plain_steps : goal.returns-clause-plain_steps
returns-clause-plain_steps c = plain_steps

pub returns-clause-plain_spawns : goal.returns-clause-plain_spawns
returns-clause-plain_spawns c = plain_spawns

pub returns-clause-steps : goal.returns-clause-steps
returns-clause-steps c = steps_stay

pub returns-clause-spawns : goal.returns-clause-spawns
returns-clause-spawns c = spawns_are
