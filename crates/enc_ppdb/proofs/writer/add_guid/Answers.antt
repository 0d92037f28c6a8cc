use Rattle.std.proofs.Common.{◌∙◌}
use Rattle.enc_base.specs.declared.refusal.StreamName.TheVariants.{Guids}
use Rattle.enc_meta.specs.Built.{guid_passes}
use Rattle.enc_ppdb.proofs.HeapsGrown.{guid_grown, guid_there, guid_at_place, guid_size, guid_same, guid_refused, refused_where}
use Rattle.enc_ppdb.proofs.writer.add_guid.Goals as goal

pub returns-in-Ok-clause-grown : goal.returns-in-Ok-clause-grown
returns-in-Ok-clause-grown c = rw c.in-Ok.ensures.added (guid_grown c.args.heaps.now c.args.guid)

pub returns-in-Ok-clause-kept : goal.returns-in-Ok-clause-kept
returns-in-Ok-clause-kept c = rw c.in-Ok.ensures.added (guid_there c.args.heaps.now c.args.guid)

pub returns-in-Ok-clause-number : goal.returns-in-Ok-clause-number
returns-in-Ok-clause-number c = rw c.in-Ok.ensures.added (c.in-Ok.ensures.number ∙ guid_at_place c.args.heaps.now c.args.guid)

pub returns-in-Ok-clause-size : goal.returns-in-Ok-clause-size
returns-in-Ok-clause-size c = rw c.in-Ok.ensures.added (guid_size c.args.heaps.now c.args.guid)

pub returns-in-Ok-clause-same : goal.returns-in-Ok-clause-same
returns-in-Ok-clause-same c = λ kept. c.in-Ok.ensures.added ∙ guid_same c.args.heaps.now c.args.guid kept

pub returns-in-Err-TooLarge-clause-refused : goal.returns-in-Err-TooLarge-clause-refused
returns-in-Err-TooLarge-clause-refused c = guid_refused c.args.heaps.now c.args.guid (refused_where c.in-Err-TooLarge.field-0 c.in-Err-TooLarge.field-0-0 Guids (guid_passes c.args.heaps.now c.args.guid) c.in-Err-TooLarge.field-0-is c.in-Err-TooLarge.ensures.refused)
