use Rattle.std.proofs.Common.{◌≡◌, map, take}
use Rattle.enc_pdb_writer.specs.Listed.{row_placed}
use Rattle.enc_pdb_writer.proofs.write.rows_of.Given as goal

abbrev pub invariant-loop-edit : goal.invariant-loop-edit
invariant-loop-edit l = l.rows.items ≡ map row_placed (take l.edit-index l.placed)
