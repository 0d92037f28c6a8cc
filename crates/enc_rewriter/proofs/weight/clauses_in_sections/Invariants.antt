use Rattle.std.proofs.Common.{◌≡◌, ◌+◌, ◌≤◌, true, length}
use Rattle.std.specs.Prelude.{is_some, min}
use Rattle.enc_il.specs.Seen.{all_sections}
use Rattle.enc_opcodes.specs.Clause.{clauses_of}
use Rattle.enc_rewriter.specs.Weight.{most_weight}
use Rattle.enc_rewriter.proofs.weight.clauses_in_sections.Given as goal

abbrev pub invariant-loop-section : goal.invariant-loop-section
invariant-loop-section l = (min most_weight (l.sum + length (clauses_of l.rest)) ≡ min most_weight (length (clauses_of l.fn.sections)))
    × (l.sum ≤ most_weight)
    × (is_some (all_sections l.rest) ≡ true)

abbrev pub decreases-loop-section : goal.decreases-loop-section
decreases-loop-section l = length l.rest
