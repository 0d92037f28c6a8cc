use Rattle.std.proofs.Common.{◌≡◌, ◌++◌, ◌-◌}
use Rattle.enc_opcodes.specs.Clause.{clauses_in}
use Rattle.enc_c.proofs.ClauseLists.{numbered}
use Rattle.enc_c.proofs.clauses.push_section.Given as goal

-- what is told, and the clauses that are left
abbrev pub invariant-loop-i : goal.invariant-loop-i
invariant-loop-i l =
    l.out.items ++ numbered (clauses_in l.section.fat (l.section.count - l.i) l.rest)
    ≡ l.fn.out.items ++ numbered (clauses_in l.section.fat l.section.count l.section.clauses.now)
