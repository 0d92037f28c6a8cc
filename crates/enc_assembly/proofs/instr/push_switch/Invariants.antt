use Rattle.std.proofs.Common.{◌≡◌, ◌++◌, take, length}
use Rattle.std.specs.Prelude.{flat_map}
use Rattle.std.specs.Int.{w32, to_le_bytes}
use Rattle.enc_assembly.specs.Assembly.{distance}
use Rattle.enc_assembly.proofs.instr.push_switch.Given as goal

abbrev pub invariant-loop-k : goal.invariant-loop-k
invariant-loop-k l = l.out.items ≡ (l.fn.out.items ++ to_le_bytes w32 (length l.targets)) ++ flat_map (λ t. to_le_bytes w32 (distance l.end t)) (take l.k l.targets)
