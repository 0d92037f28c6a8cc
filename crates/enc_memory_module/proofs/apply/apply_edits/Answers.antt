use Rattle.enc_memory_module.proofs.MayBeApplied.{few_rows, edits_stand, sound_applied}
use Rattle.enc_memory_module.proofs.apply.apply_edits.Goals as goal

pub edited_tables-requires-clause-few : goal.edited_tables-requires-clause-few
edited_tables-requires-clause-few c = few_rows c.args.module.now.plain c.args.list.now c.requires.form c.requires.rules c.sound.ensures

pub edited_tables-requires-clause-stand : goal.edited_tables-requires-clause-stand
edited_tables-requires-clause-stand c = edits_stand c.args.module.now.plain c.args.list.now c.requires.form c.requires.rules

pub finished-requires-clause-sound : goal.finished-requires-clause-sound
finished-requires-clause-sound c = rw c.in_ok-tables.ensures (sound_applied c.args.module.now.plain c.args.list.now c.requires.form c.requires.rules c.sound.ensures)
