use Rattle.std.proofs.Common.{◌≡◌, length}
use Rattle.std.specs.Prelude.{flat_map, IsTrue}
use Rattle.enc_rules.specs.Filled.{have_no_zero}
use Rattle.enc_rules.specs.Rules.{with_texts, texts_in_cell}
use Rattle.enc_rules.proofs.heaps.add_cell_texts.Given as goal

abbrev pub invariant-loop-rest : goal.invariant-loop-rest
invariant-loop-rest l = record {
  rest : with_texts l.heaps (flat_map texts_in_cell l.rest) ≡ with_texts l.initial.heaps (flat_map texts_in_cell l.fn.cells);
  whole : IsTrue (have_no_zero (flat_map texts_in_cell l.rest));
}

abbrev pub decreases-loop-rest : goal.decreases-loop-rest
decreases-loop-rest l = length l.rest
