-- When the branches of a stated body reach their targets (ECMA-335 III.1.7.2).
use Rattle.std.specs.Prelude.{ℕ, ◌+◌, Bool, true, ◌&&◌, nat_lt, nat_le, List, [], ◌∷◌}
use Rattle.std.specs.List.{list_all}
use Rattle.enc_opcodes.specs.declared.op.Operand.{Operand}
use Rattle.enc_opcodes.specs.declared.op.Operand.TheVariants as operand
use Rattle.enc_opcodes.specs.Sound.{instruction_size}
use Rattle.enc_edit_list.specs.declared.body.ArgValue.{ArgValue}
use Rattle.enc_edit_list.specs.declared.body.ArgValue.TheVariants as arg
use Rattle.enc_edit_list.specs.declared.body.InstrValue.{InstrValue}
use Rattle.enc_edit_list.specs.Sizes.{instr_meant}

-- at most 128 bytes before the end of the instruction and 127 behind it
abbrev pub lies_close : ℕ → ℕ → Bool
lies_close end target = nat_le end (target + 128) && nat_le target (end + 127)

-- at most 2^31 bytes before it, and less than that behind it
abbrev pub lies_in_reach : ℕ → ℕ → Bool
lies_in_reach end target = nat_le end (target + 0x80000000) && nat_lt target (end + 0x80000000)

-- a short branch has a distance of one byte, all others of four
abbrev pub argument_reaches : ℕ → Operand → ArgValue → Bool
argument_reaches end operand.Branch8 (arg.Target target) = lies_close end target
argument_reaches end operand.Branch32 (arg.Target target) = lies_in_reach end target
argument_reaches end operand.Switch (arg.Targets targets) = list_all (lies_in_reach end) targets
argument_reaches end _ _ = true

-- each of the instructions that stand one behind the other from a place on reaches its target
unfoldable pub branches_reach : ℕ → List InstrValue → Bool
branches_reach at [] = true
branches_reach at (i ∷ rest) =
    argument_reaches (at + instruction_size (instr_meant i)) i.op.operand i.arg
    && branches_reach (at + instruction_size (instr_meant i)) rest
