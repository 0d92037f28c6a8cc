use Rattle.std.proofs.Common.{◌≡◌, ◌++◌, true, length, map}
use Rattle.std.specs.Prelude.{is_some}
use Rattle.std.specs.List.{list_all}
use Rattle.enc_il.specs.Seen.{all_sections}
use Rattle.enc_il.specs.Written.{clause_fits}
use Rattle.enc_opcodes.specs.Clause.{clauses_of}
use Rattle.enc_rewriter.specs.Standing.{known_as}
use Rattle.enc_rewriter.proofs.bodies.clauses_in_sections.Given as goal

abbrev pub invariant-loop-section : goal.invariant-loop-section
invariant-loop-section l = (l.all.items ++ map known_as (clauses_of l.rest) ≡ map known_as (clauses_of l.fn.sections))
    × (list_all clause_fits l.all.items ≡ true)
    × (is_some (all_sections l.rest) ≡ true)

abbrev pub decreases-loop-section : goal.decreases-loop-section
decreases-loop-section l = length l.rest
