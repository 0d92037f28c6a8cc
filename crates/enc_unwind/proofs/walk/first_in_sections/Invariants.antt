use Rattle.std.proofs.Common.{◌≡◌, ◌+◌, ◌≤◌, true, length}
use Rattle.std.specs.Prelude.{is_some}
use Rattle.enc_il.specs.Seen.{all_sections}
use Rattle.enc_unwind.specs.Search.{handlers_of}
use Rattle.enc_unwind.specs.Walk.{first_from}
use Rattle.enc_unwind.proofs.walk.first_in_sections.Given as goal

abbrev pub invariant-loop-section : goal.invariant-loop-section
invariant-loop-section g l = record {
  same : first_from (g.T.ClauseTest.test l.test) l.first (handlers_of l.rest) ≡ first_from (g.T.ClauseTest.test l.test) 0 (handlers_of l.fn.sections);
  whole : is_some (all_sections l.rest) ≡ true;
  few : l.first + length l.rest ≤ length l.fn.sections;
}

abbrev pub decreases-loop-section : goal.decreases-loop-section
decreases-loop-section g l = length l.rest
