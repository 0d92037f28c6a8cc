use Rattle.std.proofs.Common.{◌≡◌, true, length}
use Rattle.std.specs.Prelude.{slice_get, is_some}
use Rattle.enc_opcodes.specs.Clause.{clauses_of}
use Rattle.enc_il.specs.Seen.{all_sections}
use Rattle.enc_il.proofs.clauses.clause_in_sections.Given as goal

abbrev pub invariant-loop-section : goal.invariant-loop-section
invariant-loop-section l = record { same : slice_get (clauses_of l.fn.sections) l.fn.i ≡ slice_get (clauses_of l.rest) l.left; whole : is_some (all_sections l.rest) ≡ true }

abbrev pub decreases-loop-section : goal.decreases-loop-section
decreases-loop-section l = length l.rest
