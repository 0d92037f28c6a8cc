use Rattle.std.proofs.Common.{◌/◌, refl}
use Rattle.enc_pe.specs.Loaded.{regions_of}
use Rattle.enc_pe.proofs.Loaded.{read_within}
use Rattle.enc_pe.proofs.loaded_file.LoadedFile.of.Goals as goal

pub invariant_of-result : goal.invariant_of-result
invariant_of-result c = rw c.requires (read_within c.args.file.now c.args.container.now.sections.start (c.args.container.now.sections.len / 40))

pub returns : goal.returns
unfolding regions_of
returns c = rw c.requires refl
