use Rattle.std.proofs.Common.{◌≡◌, ℕ, ◌+◌, length}
use Rattle.std.specs.Prelude.{◌||◌}
use Rattle.enc_opcodes.specs.Sound.{begins_at}
use Rattle.enc_edit_list.specs.Sizes.{length_of_code, placed}
use Rattle.enc_rules.specs.Marked.{is_marked}
use Rattle.enc_rules.proofs.instructions.marks_of.Given as goal

abbrev pub invariant-loop-rest : goal.invariant-loop-rest
invariant-loop-rest l = record {
  many : length l.marks.items ≡ l.fn.size;
  marked : (t : ℕ) → begins_at (placed 0 l.fn.code) t ≡ (is_marked l.marks.items t || begins_at (placed l.at l.rest) t);
  end : l.at + length_of_code l.rest ≡ l.fn.size;
}

abbrev pub decreases-loop-rest : goal.decreases-loop-rest
decreases-loop-rest l = length l.rest
