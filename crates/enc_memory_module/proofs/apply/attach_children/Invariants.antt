use Rattle.std.proofs.Common.{◌≡◌}
use Rattle.enc_plain.specs.Apply.{attach_all}
use Rattle.enc_memory_module.specs.Encoded.{with_tables}
use Rattle.enc_memory_module.specs.Following.{attached_from}
use Rattle.enc_memory_module.proofs.apply.attach_children.Given as goal

abbrev pub invariant-loop-k : goal.invariant-loop-k
invariant-loop-k l = attach_all (with_tables l.tables.items) (attached_from l.«module».plain l.added l.k) ≡ attach_all (with_tables l.fn.tables.items) (attached_from l.«module».plain l.added 0)
