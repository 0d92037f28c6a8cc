use Rattle.std.proofs.Common.{◌≡◌, ◌-◌, ◌++◌, true, map}
use Rattle.std.specs.List.{list_all}
use Rattle.enc_il.specs.Written.{clause_fits}
use Rattle.enc_opcodes.specs.Clause.{clauses_in}
use Rattle.enc_rewriter.specs.Standing.{known_as}
use Rattle.enc_rewriter.proofs.bodies.push_clauses.Given as goal

abbrev pub invariant-loop-i : goal.invariant-loop-i
invariant-loop-i l = (l.all.items ++ map known_as (clauses_in l.section.fat (l.section.count - l.i) l.rest) ≡ l.fn.all.items ++ map known_as (clauses_in l.section.fat l.section.count l.section.clauses.now))
    × (list_all clause_fits l.all.items ≡ true)
