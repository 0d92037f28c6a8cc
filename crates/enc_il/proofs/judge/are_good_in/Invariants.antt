use Rattle.std.proofs.Common.{◌≡◌, ◌-◌}
use Rattle.std.specs.Prelude.{slice_index}
use Rattle.std.specs.List.{list_all}
use Rattle.enc_opcodes.specs.Body.{clause_is_good}
use Rattle.enc_opcodes.specs.Clause.{clauses_in}
use Rattle.enc_il.specs.Judged.{mark_at}
use Rattle.enc_il.proofs.judge.are_good_in.Given as goal

abbrev pub invariant-loop-i : goal.invariant-loop-i
invariant-loop-i l = list_all (clause_is_good (slice_index l.counts.rows) (mark_at l.marks) l.size) (clauses_in l.section.fat (l.section.count - l.i) l.rest) ≡ list_all (clause_is_good (slice_index l.counts.rows) (mark_at l.marks) l.size) (clauses_in l.section.fat l.section.count l.section.clauses.now)
