use Rattle.enc_vm.proofs.StepsMeant.{steps_mean, spawns_mean, tasks_mean, states_mean}
use Rattle.enc_vm.proofs.laws.meaning_laws.Goals as goal

pub returns-clause-steps : goal.returns-clause-steps
returns-clause-steps c = steps_mean

pub returns-clause-spawns : goal.returns-clause-spawns
returns-clause-spawns c = spawns_mean

pub returns-clause-tasks : goal.returns-clause-tasks
returns-clause-tasks c = tasks_mean

pub returns-clause-states : goal.returns-clause-states
returns-clause-states c = states_mean
