use Rattle.enc_pe.proofs.Loaded.{some_holds, some_within}
use Rattle.enc_pe.proofs.loaded_file.section_with.Goals as goal

pub returns-clause-holds : goal.returns-clause-holds
returns-clause-holds c = some_holds _ _ c.args.sections.now _ c.first_with.ensures

pub returns-clause-within : goal.returns-clause-within
returns-clause-within c = some_within _ _ _ c.args.sections.now _ c.requires c.first_with.ensures
