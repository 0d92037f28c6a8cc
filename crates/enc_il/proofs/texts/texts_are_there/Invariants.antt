use Rattle.std.proofs.Common.{◌≡◌, ℕ, ◌-◌, length}
use Rattle.std.specs.List.{list_all}
use Rattle.enc_opcodes.specs.Body.{text_is_there}
use Rattle.enc_opcodes.specs.Instruction.{Instruction, rest_of}
use Rattle.enc_il.proofs.texts.texts_are_there.Given as goal

abbrev pub invariant-loop-instr : goal.invariant-loop-instr
invariant-loop-instr g l = list_all (λ (x : ℕ × Instruction ℕ). text_is_there (g.T.UserTexts.texts l.texts) x.1.arg) (rest_of l.code.code.now l.at) ≡ list_all (λ (x : ℕ × Instruction ℕ). text_is_there (g.T.UserTexts.texts l.texts) x.1.arg) (rest_of l.code.code.now 0)

abbrev pub decreases-loop-instr : goal.decreases-loop-instr
decreases-loop-instr g l = length l.code.code.now - l.at
