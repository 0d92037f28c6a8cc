-- Fields whose initial bytes are placed, one behind the other.
use Rattle.std.proofs.Common.{◌≡◌, ℕ, ◌+◌, ◌-◌, ◌<◌, ◌≤◌, true, List, [], ◌∷◌, ◌++◌, length, take, drop, Some, refl, sym, ap, subst, ◌∙◌, arith, inl, inr}
use Rattle.std.specs.Prelude.{◌%◌, nat_le, replicate, slice_index}
use Rattle.std.proofs.Math.Seq.{drop-append_seam, take-append_seam}
use Rattle.std.proofs.lemmas.Bool.{cases_lt}
use Rattle.std.proofs.lemmas.Bool.Decides.{nat_tests}
use Rattle.std.proofs.lemmas.List.{append_assoc, length-append, length-replicate, get_or_append_left, get_or_push}
use Rattle.enc_base.specs.Token.{nth_row}
use Rattle.enc_meta.specs.Regions.{region_holds, range_loaded}
use Rattle.enc_plain.specs.Cell.{field}
use Rattle.enc_plain.specs.Module.{Module, cell_of}
use Rattle.enc_plain.specs.Sound.{row_count}
use Rattle.enc_rows.proofs.Below.{sum_none, sum_more, sum_part}
use Rattle.enc_rewriter.specs.Placed.{IsFieldPlaced}
use Rattle.enc_rewriter.specs.Standing.{IsFieldCellPlaced, AreFieldsPlaced, fields_before}
use Rattle.enc_rewriter.specs.Weight.{field_weight, fields_weight}
use Rattle.enc_rewriter.proofs.BodyStands.{more_loaded}

-- bytes that were written are loaded where they begin
holds : (n many : ℕ) (bytes : List ℕ) → n + many ≤ length bytes → region_holds (8192 + n) many (record { address = 8192; bytes = bytes }) ≡ true
holds n many bytes within =
    let a : nat_le 8192 (8192 + n) ≡ true = grind (arith, nat_tests) in
    let b : nat_le (8192 + n - 8192 + many) (length bytes) ≡ true = grind (arith, nat_tests) in
    rw (a, b) refl

shifted : (n : ℕ) → 8192 + n - 8192 ≡ n
shifted n = omega arith

range_there : (n many : ℕ) (bytes : List ℕ) → n + many ≤ length bytes → range_loaded (record { address = 8192; bytes = bytes } ∷ []) (8192 + n) many ≡ Some (take many (drop n bytes))
unfolding range_loaded
range_there n many bytes within = rw (holds n many bytes within) (ap (λ k. Some (take many (drop k bytes))) (shifted n))

taken : (front bytes behind : List ℕ) (n : ℕ) → length front ≡ n → take (length bytes) (drop n ((front ++ bytes) ++ behind)) ≡ bytes
taken front bytes behind n size =
    ap (λ xs. take (length bytes) (drop n xs)) (append_assoc front bytes behind)
    ∙ ap (λ k. take (length bytes) (drop k (front ++ (bytes ++ behind)))) (sym size)
    ∙ ap (take (length bytes)) (drop-append_seam front (bytes ++ behind))
    ∙ take-append_seam bytes behind

-- behind zeros up to a multiple of eight
eight_by : (n m : ℕ) → m ≡ n + (8 - n % 8) % 8 → m % 8 ≡ 0
eight_by n m is = omega (arith, is)

pub eight_place : (old out : List ℕ) → out ≡ old ++ replicate ((8 - length old % 8) % 8) 0 → length out % 8 ≡ 0
eight_place old out is =
    let zeros = (8 - length old % 8) % 8 in
    eight_by (length old) (length out) (ap (λ (xs : List ℕ). length xs) is ∙ length-append old (replicate zeros 0) ∙ ap (λ (n : ℕ). length old + n) (length-replicate {A = ℕ} zeros 0))

pub written_placed : (front bytes : List ℕ) (n : ℕ) → length front ≡ n → n % 8 ≡ 0 → 0 < length bytes → IsFieldPlaced (front ++ bytes) bytes (8192 + n)
written_placed front bytes n size eight some = record {
  none = λ e. absurd (omega (arith, e));
  some = λ e. some;
  aligned = omega (arith, eight);
  range = λ behind e.
      range_there n (length bytes) ((front ++ bytes) ++ behind) (omega (arith, size, length-append (front ++ bytes) behind, length-append front bytes))
      ∙ ap (λ x. Some x) (taken front bytes behind n size);
}

empty : (bytes : List ℕ) → length bytes ≡ 0 → bytes ≡ []
empty [] e = refl
empty (b ∷ rest) e = absurd (omega (arith, e))

pub none_written : (code bytes : List ℕ) → length bytes ≡ 0 → IsFieldPlaced code bytes 0
none_written code bytes e = record {
  none = λ z. empty bytes e;
  some = λ z. absurd (omega (arith, z));
  aligned = refl;
  range = λ behind z. absurd (omega (arith, z));
}

-- they stay there
field_still : (code more there : List ℕ) (rva : ℕ) → IsFieldPlaced code there rva → IsFieldPlaced (code ++ more) there rva
field_still code more there rva is = record {
  none = is.none;
  some = is.some;
  aligned = is.aligned;
  range = λ behind e. ap (λ r. range_loaded r rva (length there)) (more_loaded code more behind) ∙ is.range (more ++ behind) e;
}

pub fields_still : (m : Module) (code more rvas : List ℕ) (n : ℕ) → AreFieldsPlaced m code rvas n → AreFieldsPlaced m (code ++ more) rvas n
fields_still m code more rvas n all k low there is = field_still code more there (slice_index rvas k) (all k low there is)

pub no_fields : (m : Module) (code rvas : List ℕ) → AreFieldsPlaced m code rvas 0
no_fields m code rvas k low = absurd (omega (arith, low))

pub one_field : (m : Module) (code rvas : List ℕ) (n rva : ℕ) → length rvas ≡ n → AreFieldsPlaced m code rvas n → IsFieldCellPlaced m code n rva → AreFieldsPlaced m code (rvas ++ rva ∷ []) (n + 1)
one_field m code rvas n rva size all one k low =
    elim (cases_lt k n) [
      | inl lt ↦ subst (λ x. IsFieldCellPlaced m code k x) (sym (get_or_append_left rvas (rva ∷ []) 0 k (omega (arith, lt, size)))) (all k lt)
      | inr le ↦
          let e : k ≡ n = omega (arith, le, low) in
          subst (λ j. IsFieldCellPlaced m code j (slice_index (rvas ++ rva ∷ []) j)) (sym e) (subst (λ x. IsFieldCellPlaced m code n x) (sym (get_or_push rvas rva 0 n size)) one)
    ]

-- a cell has one list of bytes
field_same : (a b : List ℕ) → Some (field a) ≡ Some (field b) → a ≡ b
field_same a b e = cc

pub cell_placed : (m : Module) (code bytes : List ℕ) (n rva : ℕ) → cell_of m (nth_row 0x1D n) 0 ≡ Some (field bytes) → IsFieldPlaced code bytes rva → IsFieldCellPlaced m code n rva
cell_placed m code bytes n rva cell placed there is = subst (λ xs. IsFieldPlaced code xs rva) (field_same bytes there (sym cell ∙ is)) placed

-- their weight
pub field_more : (m : Module) (n : ℕ) (bytes : List ℕ) → cell_of m (nth_row 0x1D n) 0 ≡ Some (field bytes) → fields_before m (n + 1) ≡ fields_before m n + (8 + length bytes)
unfolding fields_before
field_more m n bytes is = sum_more _ n ∙ ap (λ o. fields_before m n + field_weight o) is

pub field_within : (m : Module) (n : ℕ) (bytes : List ℕ) → n < row_count m 0x1D → cell_of m (nth_row 0x1D n) 0 ≡ Some (field bytes) → fields_before m n + (8 + length bytes) ≤ fields_weight m
unfolding fields_before fields_weight
field_within m n bytes low is =
    let part = sum_part (λ k. field_weight (cell_of m (nth_row 0x1D k) 0)) n (row_count m 0x1D) low in
    let one : field_weight (cell_of m (nth_row 0x1D n) 0) ≡ 8 + length bytes = ap field_weight is in
    omega (arith, part, one)

pub no_weight : (m : Module) → fields_before m 0 ≡ 0
unfolding fields_before
no_weight m = sum_none _

pub fields_weigh : (m : Module) (n : ℕ) → n ≡ row_count m 0x1D → fields_before m n ≡ fields_weight m
unfolding fields_before fields_weight
fields_weigh m n all = ap (λ k. fields_before m k) all
