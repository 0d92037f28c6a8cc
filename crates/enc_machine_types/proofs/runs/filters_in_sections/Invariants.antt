use Rattle.std.proofs.Common.{◌≡◌, true, length}
use Rattle.std.specs.Prelude.{is_some}
use Rattle.std.specs.List.{list_any}
use Rattle.enc_opcodes.specs.Clause.{clauses_of}
use Rattle.enc_il.specs.Seen.{all_sections}
use Rattle.enc_machine_types.specs.Filters.{filters}
use Rattle.enc_machine_types.proofs.runs.filters_in_sections.Given as goal

abbrev pub invariant-loop-section : goal.invariant-loop-section
invariant-loop-section l = record {
  same : list_any filters (clauses_of l.rest) ≡ list_any filters (clauses_of l.fn.sections);
  whole : is_some (all_sections l.rest) ≡ true;
}

abbrev pub decreases-loop-section : goal.decreases-loop-section
decreases-loop-section l = length l.rest
