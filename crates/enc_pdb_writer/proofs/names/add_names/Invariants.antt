use Rattle.std.proofs.Common.{◌≤◌, ◌+◌, map, take}
use Rattle.std.specs.Prelude.{sum_by}
use Rattle.enc_rules.specs.Rules.{room_of_document}
use Rattle.enc_ppdb.specs.Holding.{heaps_size, Grown}
use Rattle.enc_pdb_writer.specs.Names.{AreSaid, name_stated}
use Rattle.enc_pdb_writer.proofs.names.add_names.Given as goal

abbrev pub invariant-loop-i : goal.invariant-loop-i
invariant-loop-i l = record {
  grown : Grown l.fn.heaps l.heaps;
  said : AreSaid l.heaps (map name_stated (take l.i l.documents)) l.offsets.items;
  size : heaps_size l.heaps ≤ 1 + sum_by room_of_document (take l.i l.documents);
}
