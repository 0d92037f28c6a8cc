use Rattle.enc_compact.proofs.LawsKept.{moved_is_sound, pdb_is_sound, knows_within, stands_in_order}
use Rattle.enc_compact.proofs.laws.compact_laws.Goals as goal

pub returns-clause-sound : goal.returns-clause-sound
returns-clause-sound c = moved_is_sound c.moved_laws.ensures.back c.moved_laws.ensures.begins c.moved_laws.ensures.field c.moved_body_law.ensures.sound

pub returns-clause-pdb : goal.returns-clause-pdb
returns-clause-pdb c = pdb_is_sound

pub returns-clause-within : goal.returns-clause-within
returns-clause-within c = knows_within

pub returns-clause-order : goal.returns-clause-order
returns-clause-order c = stands_in_order
