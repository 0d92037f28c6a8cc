use Rattle.enc_generator.proofs.CasesObey.{base_weighs, generated_obeys, generated_stays_little, generated_is_light}
use Rattle.enc_generator.proofs.laws.case_laws.Goals as goal

pub returns-clause-base : goal.returns-clause-base
returns-clause-base c = base_weighs

pub returns-clause-obeys : goal.returns-clause-obeys
returns-clause-obeys c = generated_obeys

pub returns-clause-little : goal.returns-clause-little
returns-clause-little c = generated_stays_little

pub returns-clause-light : goal.returns-clause-light
returns-clause-light c = generated_is_light
