use Rattle.std.proofs.Common.{map, take}
use Rattle.enc_pdb_writer.specs.Holding.{map_cells, MoreNamed}
use Rattle.enc_pdb_writer.proofs.methods.name_methods.Given as goal

abbrev pub invariant-loop-i : goal.invariant-loop-i
invariant-loop-i l = MoreNamed l.fn.tables l.tables (map map_cells (take l.i l.rows))
