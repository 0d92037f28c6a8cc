use Rattle.std.proofs.Common.{◌≡◌, ◌+◌, ◌-◌, map}
use Rattle.enc_opcodes.specs.Body.{handler_meant}
use Rattle.enc_opcodes.specs.Clause.{clauses_in}
use Rattle.enc_unwind.specs.Walk.{first_from}
use Rattle.enc_unwind.proofs.walk.first_in.Given as goal

abbrev pub invariant-loop-i : goal.invariant-loop-i
invariant-loop-i g l = first_from (g.T.ClauseTest.test l.test) (l.first + l.i) (map handler_meant (clauses_in l.section.fat (l.section.count - l.i) l.rest)) ≡ first_from (g.T.ClauseTest.test l.test) l.first (map handler_meant (clauses_in l.section.fat l.section.count l.section.clauses.now))
