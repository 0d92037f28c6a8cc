use Rattle.std.proofs.Common.{◌≡◌, ℕ, ◌-◌, ◌||◌, ◌&&◌, Bool, List, Option, length}
use Rattle.std.specs.Prelude.{slice_index}
use Rattle.std.specs.List.{list_all}
use Rattle.enc_opcodes.specs.Instruction.{Instruction, rest_of, end_of}
use Rattle.enc_opcodes.specs.Body.{is_instruction_start, instruction_is_good, text_is_there}
use Rattle.enc_il.specs.Judged.{mark_at, are_texts}
use Rattle.enc_il.proofs.walk.walk_of.Given as goal

abbrev pub invariant-loop-instr : goal.invariant-loop-instr
invariant-loop-instr l = record {
  many : length l.marks.items ≡ length l.code.code.now;
  marked : (t : ℕ) → is_instruction_start (rest_of l.code.code.now 0) t ≡ (mark_at l.marks.items t || is_instruction_start (rest_of l.code.code.now l.at) t);
  end : end_of l.code.code.now l.at ≡ end_of l.code.code.now 0;
  good : (starts : ℕ → Bool) → list_all (instruction_is_good (slice_index l.counts.rows) starts) (rest_of l.code.code.now 0) ≡ ((l.rows && list_all starts l.targets.items) && list_all (instruction_is_good (slice_index l.counts.rows) starts) (rest_of l.code.code.now l.at));
  users : (texts : ℕ → Option (List ℕ)) → list_all (λ (x : ℕ × Instruction ℕ). text_is_there texts x.1.arg) (rest_of l.code.code.now 0) ≡ (are_texts texts l.users.items && list_all (λ (x : ℕ × Instruction ℕ). text_is_there texts x.1.arg) (rest_of l.code.code.now l.at));
}

abbrev pub decreases-loop-instr : goal.decreases-loop-instr
decreases-loop-instr l = length l.code.code.now - l.at
