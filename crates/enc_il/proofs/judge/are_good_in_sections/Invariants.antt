use Rattle.std.proofs.Common.{◌≡◌, true, length}
use Rattle.std.specs.Prelude.{slice_index, is_some}
use Rattle.std.specs.List.{list_all}
use Rattle.enc_opcodes.specs.Body.{clause_is_good}
use Rattle.enc_opcodes.specs.Clause.{clauses_of}
use Rattle.enc_il.specs.Judged.{mark_at}
use Rattle.enc_il.specs.Seen.{all_sections}
use Rattle.enc_il.proofs.judge.are_good_in_sections.Given as goal

abbrev pub invariant-loop-section : goal.invariant-loop-section
invariant-loop-section l = record {
  same : list_all (clause_is_good (slice_index l.counts.rows) (mark_at l.marks) l.size) (clauses_of l.rest) ≡ list_all (clause_is_good (slice_index l.counts.rows) (mark_at l.marks) l.size) (clauses_of l.fn.sections);
  whole : is_some (all_sections l.rest) ≡ true;
}

abbrev pub decreases-loop-section : goal.decreases-loop-section
decreases-loop-section l = length l.rest
