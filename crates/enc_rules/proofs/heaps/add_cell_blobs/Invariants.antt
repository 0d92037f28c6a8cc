use Rattle.std.proofs.Common.{◌≡◌, length}
use Rattle.std.specs.Prelude.{flat_map}
use Rattle.enc_rules.specs.Rules.{with_blobs, blobs_in_cell}
use Rattle.enc_rules.proofs.heaps.add_cell_blobs.Given as goal

abbrev pub invariant-loop-rest : goal.invariant-loop-rest
invariant-loop-rest l = with_blobs l.heaps (flat_map blobs_in_cell l.rest) ≡ with_blobs l.initial.heaps (flat_map blobs_in_cell l.fn.cells)

abbrev pub decreases-loop-rest : goal.decreases-loop-rest
decreases-loop-rest l = length l.rest
