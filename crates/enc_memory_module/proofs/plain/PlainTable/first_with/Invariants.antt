use Rattle.std.proofs.Common.{◌≡◌, drop}
use Rattle.std.specs.Prelude.{position}
use Rattle.std.specs.List.{position_from}
use Rattle.enc_plain.specs.Module.{has_kid}
use Rattle.enc_memory_module.proofs.plain.PlainTable.first_with.Given as goal

abbrev pub invariant-loop-n : goal.invariant-loop-n
invariant-loop-n l = position_from (has_kid l.child) l.n (drop l.n l.self-inside.rows.items) ≡ position (has_kid l.child) l.self-inside.rows.items
