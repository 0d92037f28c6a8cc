use Rattle.enc_memory_module.specs.Encoded.{with_tables}
use Rattle.enc_memory_module.proofs.MethodTexts.{texts_have_room, bodies_sound}
use Rattle.enc_memory_module.proofs.apply.finished.Goals as goal

pub encode-requires-clause-room : goal.encode-requires-clause-room
encode-requires-clause-room c = rw (c.methods_in.ensures, c.deref.ensures.value) (texts_have_room (with_tables c.args.tables.items) c.requires.sound c.requires.texts)

pub encode-requires-clause-sound : goal.encode-requires-clause-sound
encode-requires-clause-sound c = rw (c.methods_in.ensures, c.deref.ensures.value) (bodies_sound (with_tables c.args.tables.items) c.requires.sound)
