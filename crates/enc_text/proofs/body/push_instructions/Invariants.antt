use Rattle.std.proofs.Common.{◌≡◌, ◌++◌, ◌-◌, length}
use Rattle.enc_opcodes.specs.Instruction.{rest_of}
use Rattle.enc_text.proofs.BodyLists.{lines}
use Rattle.enc_text.proofs.body.push_instructions.Given as goal

-- what is appended, and the instructions that are left
abbrev pub invariant-loop-instr : goal.invariant-loop-instr
invariant-loop-instr g l = l.out.items ++ lines (g.V.ModuleView.users l.view) (rest_of l.code.code.now l.at) ≡ l.fn.out.items ++ lines (g.V.ModuleView.users l.view) (rest_of l.code.code.now 0)

abbrev pub decreases-loop-instr : goal.decreases-loop-instr
decreases-loop-instr g l = length l.code.code.now - l.at
