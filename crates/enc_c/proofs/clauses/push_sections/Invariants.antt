use Rattle.std.proofs.Common.{◌≡◌, ◌++◌, true, length}
use Rattle.std.specs.Prelude.{is_some}
use Rattle.enc_opcodes.specs.Clause.{clauses_of}
use Rattle.enc_il.specs.Seen.{all_sections}
use Rattle.enc_c.proofs.ClauseLists.{numbered}
use Rattle.enc_c.proofs.clauses.push_sections.Given as goal

-- what is told, and the clauses of the sections that are left, which stand whole
abbrev pub invariant-loop-section : goal.invariant-loop-section
invariant-loop-section l = record {
  same : l.out.items ++ numbered (clauses_of l.rest) ≡ l.fn.out.items ++ numbered (clauses_of l.sections);
  whole : is_some (all_sections l.rest) ≡ true;
}

abbrev pub decreases-loop-section : goal.decreases-loop-section
decreases-loop-section l = length l.rest
