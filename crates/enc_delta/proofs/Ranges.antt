-- A map that rises, cut by two numbers, and by the number of a token that stands in it.
use Rattle.std.proofs.Common.{◌≡◌, ℕ, ◌+◌, ◌<◌, ◌≤◌, List, length, get_or, slice_set, ◌∙◌, inl, inr, arith}
use Rattle.std.proofs.lemmas.Bool.{cases_lt}
use Rattle.std.proofs.lemmas.List.{get_or-set_same, get_or-set_other}
use Rattle.enc_base.specs.declared.token.Token.{Token}
use Rattle.enc_base.specs.Token.{number_of}
use Rattle.enc_rows.specs.Layout.{rows_of}
use Rattle.enc_rows.specs.Source.{Source}
use Rattle.enc_delta.specs.Delta.{map_token}
use Rattle.enc_delta.specs.Seen.{IsRising}
use Rattle.enc_delta.specs.Starts.{lesser_in, StandsInMap}
use Rattle.enc_delta.proofs.Halves.{IsCut, cut_at}

-- by a greater number it is cut no earlier
pub lesser_rises : (s : Source) (m n : ℕ) → IsRising s → m ≤ n → lesser_in s m ≤ lesser_in s n
lesser_rises s m n up h = elim (cases_lt (lesser_in s n) (lesser_in s m)) [
  | inl a ↦ absurd (
      let less : number_of (map_token s (lesser_in s n)) < m = (cut_at s m up).less (lesser_in s n) a in
      let there : lesser_in s n < rows_of s.layout 0x1F = omega (arith, (cut_at s m up).within) in
      let rest : n ≤ number_of (map_token s (lesser_in s n)) = (cut_at s n up).rest (lesser_in s n) (omega arith) there in
      omega arith)
  | inr a ↦ a
]

-- it is cut by a token's number where the token stands
pub cut_there : (s : Source) (u : Token) (i : ℕ) → IsRising s → StandsInMap s u i → IsCut (map_token s) (rows_of s.layout 0x1F) (number_of u) i
cut_there s u i up at =
    let number : number_of (map_token s i) ≡ number_of u = omega (arith, at.table, at.row) in
    record {
      within = omega (arith, at.there);
      less = λ k a. let less : number_of (map_token s k) < number_of (map_token s i) = up k i a at.there in omega arith;
      rest = λ k a b. elim (cases_lt i k) [
        | inl d ↦ let more : number_of (map_token s i) < number_of (map_token s k) = up i k d b in omega arith
        | inr d ↦ let k_is : k ≡ i = omega arith in rw k_is (omega arith)
      ];
    }

-- one entry more of an array that is filled from the front
pub filled_more : (f : ℕ → ℕ) (xs : List ℕ) (i x : ℕ) → i < length xs → ((k : ℕ) → k < i → get_or xs k 0 ≡ f k) → x ≡ f i → (k : ℕ) → k < i + 1 → get_or (slice_set xs i x) k 0 ≡ f k
filled_more f xs i x fit filled e k h = elim (cases_lt k i) [
  | inl a ↦ get_or-set_other xs i k x 0 (λ same. omega arith) ∙ filled k a
  | inr a ↦ let k_is : k ≡ i = omega arith in rw k_is (get_or-set_same xs i x 0 fit ∙ e)
]
