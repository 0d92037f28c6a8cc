-- For the contracts of private functions: clauses that ask a filter (ECMA-335 II.25.4.6).
use Rattle.std.specs.Prelude.{Bool, ◌==◌}
use Rattle.enc_opcodes.specs.declared.code.Clause.{Clause}

-- by the clause's flags
abbrev pub filters : Clause → Bool
filters c = c.kind == 1
