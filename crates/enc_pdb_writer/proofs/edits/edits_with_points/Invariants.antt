use Rattle.std.proofs.Common.{◌≡◌, ◌++◌, drop}
use Rattle.enc_pdb_writer.specs.Listed.{placed_from}
use Rattle.enc_pdb_writer.proofs.edits.edits_with_points.Given as goal

abbrev pub invariant-loop-place : goal.invariant-loop-place
invariant-loop-place l = l.placed.items ++ placed_from l.place (drop l.place l.methods) (drop l.place l.edits) ≡ placed_from 0 l.methods l.edits
