use Rattle.std.proofs.Common.{refl}
use Rattle.enc_meta.proofs.Entries.{with_kept_entry, kept_passes}
use Rattle.enc_meta.proofs.guids.Guids.add.Goals as goal

pub returns-in-Some-clause-guids : goal.returns-in-Some-clause-guids
returns-in-Some-clause-guids c = rw (with_kept_entry _ c.args.guid c.in-Some.ensures.found.0) refl

pub returns-in-Some-clause-refused : goal.returns-in-Some-clause-refused
returns-in-Some-clause-refused c = kept_passes _ _ _ c.in-Some.ensures.found.0
