-- All bodies and all fields' bytes that were placed, in one code.
use Rattle.std.proofs.Common.{◌≡◌, ℕ, ◌<◌, ◌^◌, ◌++◌, List, length, Option, sym, subst}
use Rattle.std.specs.Prelude.{slice_index}
use Rattle.enc_plain.specs.Module.{Module}
use Rattle.enc_plain.specs.Sound.{row_count}
use Rattle.enc_rewriter.specs.Placed.{IsPlaced}
use Rattle.enc_rewriter.specs.Standing.{AreBodiesPlaced, AreFieldsPlaced}
use Rattle.enc_rewriter.proofs.MethodsPlaced.{all_still}

pub all_placed : (m : Module) (users : ℕ → Option (List ℕ)) (before code rest bodies fields : List ℕ) → length bodies ≡ row_count m 0x06 → length fields ≡ row_count m 0x1D → AreBodiesPlaced m users before bodies (row_count m 0x06)
    → code ≡ before ++ rest → AreFieldsPlaced m code fields (row_count m 0x1D) → ((n : ℕ) → slice_index bodies n < 2 ^ 32) → ((n : ℕ) → slice_index fields n < 2 ^ 32)
    → IsPlaced m users (record { code = code; bodies = bodies; fields = fields })
all_placed m users before code rest bodies fields methods rows placed grown there body_words field_words = record {
  methods = methods;
  rows = rows;
  bodies = λ n low. subst (λ xs. AreBodiesPlaced m users xs bodies (row_count m 0x06)) (sym grown) (all_still m users before rest bodies (row_count m 0x06) placed) n low;
  fields = λ n bytes low is. there n low bytes is;
  body_words = body_words;
  field_words = field_words;
}
