use Rattle.std.proofs.Common.{◌≡◌}
use Rattle.enc_plain.specs.Apply.{apply}
use Rattle.enc_memory_module.specs.Encoded.{with_tables}
use Rattle.enc_memory_module.specs.Following.{changes_from}
use Rattle.enc_memory_module.proofs.apply.changed.Given as goal

abbrev pub invariant-loop-k : goal.invariant-loop-k
invariant-loop-k l = apply (with_tables l.tables.items) (changes_from l.«module».plain l.added l.k) ≡ apply l.«module».plain (changes_from l.«module».plain l.added 0)
