use Rattle.std.proofs.Common.{◌≡◌, ◌++◌, ◌-◌}
use Rattle.enc_opcodes.specs.Clause.{clauses_in}
use Rattle.enc_text.proofs.BodyLists.{clause_lines}
use Rattle.enc_text.proofs.body.push_section.Given as goal

-- what is appended, and the clauses that are left
abbrev pub invariant-loop-i : goal.invariant-loop-i
invariant-loop-i l = l.out.items ++ clause_lines (clauses_in l.section.fat (l.section.count - l.i) l.rest) ≡ l.fn.out.items ++ clause_lines (clauses_in l.section.fat l.section.count l.section.clauses.now)
