use Rattle.std.proofs.Common.{◌≡◌, ◌+◌, map, option_map, drop}
use Rattle.enc_opcodes.specs.Table.{entry_held}
use Rattle.enc_opcodes.specs.Opcodes.{first_named}
use Rattle.enc_opcodes.proofs.lookup.named_in.Given as goal

abbrev pub invariant-loop-i : goal.invariant-loop-i
invariant-loop-i l = first_named l.name l.first (map (option_map entry_held) l.table) ≡ first_named l.name (l.first + l.i) (map (option_map entry_held) (drop l.i l.table))
