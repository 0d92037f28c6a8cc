use Rattle.std.proofs.Common.{◌≡◌, ◌-◌}
use Rattle.std.specs.List.{list_any}
use Rattle.enc_opcodes.specs.Clause.{clauses_in}
use Rattle.enc_machine_types.specs.Filters.{filters}
use Rattle.enc_machine_types.proofs.runs.filters_in.Given as goal

abbrev pub invariant-loop-i : goal.invariant-loop-i
invariant-loop-i l = list_any filters (clauses_in l.section.fat (l.section.count - l.i) l.rest) ≡ list_any filters (clauses_in l.section.fat l.section.count l.section.clauses.now)
