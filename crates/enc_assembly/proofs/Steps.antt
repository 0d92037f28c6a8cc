-- One instruction more of some code.
use Rattle.std.proofs.Common.{◌≡◌, ℕ, zero, suc, ◌+◌, Bool, true, false, List, [], ◌∷◌, ◌++◌, length, drop, append_assoc, ◌≤◌, sym, ◌∙◌, Some, refl, arith}
use Rattle.std.specs.Prelude.{slice_get, ◌&&◌}
use Rattle.std.specs.List.{list_all}
use Rattle.std.proofs.lemmas.List.{append-nil}
use Rattle.enc_meta.specs.Built.{Built}
use Rattle.enc_opcodes.specs.Sound.{instruction_size}
use Rattle.enc_edit_list.specs.declared.body.InstrValue.{InstrValue}
use Rattle.enc_edit_list.specs.Form.{instr_fits}
use Rattle.enc_edit_list.specs.Sizes.{instr_meant, length_of_code}
use Rattle.enc_assembly.specs.Assembly.{instr_bytes, code_bytes, arg_is_small, are_small, text_is_kept}

-- what is left begins with the item at a place
rest_is : {A : Type 0} (xs : List A) (k : ℕ) (x : A) → slice_get xs k ≡ Some x → drop k xs ≡ x ∷ drop (suc k) xs
rest_is [] k x h = absurd cc
rest_is (y ∷ xs) zero x h = let e : y ≡ x = cc in rw e refl
rest_is (y ∷ xs) (suc k) x h = rest_is xs k x h

pub code_more : (offset : List ℕ → ℕ) (code : List InstrValue) (at k : ℕ) (i : InstrValue) → slice_get code k ≡ Some i → code_bytes offset at (drop k code) ≡ instr_bytes offset (at + instruction_size (instr_meant i)) i ++ code_bytes offset (at + instruction_size (instr_meant i)) (drop (k + 1) code)
unfolding code_bytes
code_more offset code at k i h =
    let e : k + 1 ≡ suc k = omega arith in
    rw (e, rest_is code k i h) refl

pub length_more : (code : List InstrValue) (k : ℕ) (i : InstrValue) → slice_get code k ≡ Some i → length_of_code (drop k code) ≡ instruction_size (instr_meant i) + length_of_code (drop (k + 1) code)
unfolding length_of_code
length_more code k i h =
    let e : k + 1 ≡ suc k = omega arith in
    rw (e, rest_is code k i h) refl

-- what holds of all holds of the item at a place
both_first : (a b : Bool) → (a && b) ≡ true → a ≡ true
both_first true b h = refl
both_first false b h = absurd cc

both_second : (a b : Bool) → (a && b) ≡ true → b ≡ true
both_second true b h = h
both_second false b h = absurd cc

of_all : {A : Type 0} (f : A → Bool) (xs : List A) (k : ℕ) (x : A) → list_all f xs ≡ true → slice_get xs k ≡ Some x → f x ≡ true
of_all f [] k x all h = absurd cc
of_all f (y ∷ xs) zero x all h = let e : y ≡ x = cc in rw (← e) (both_first (f y) (list_all f xs) all)
of_all f (y ∷ xs) (suc k) x all h = of_all f xs k x (both_second (f y) (list_all f xs) all) h

pub fits_at : (code : List InstrValue) (k : ℕ) (i : InstrValue) → list_all instr_fits code ≡ true → slice_get code k ≡ Some i → instr_fits i ≡ true
fits_at code k i all h = of_all instr_fits code k i all h

pub small_at : (offset : List ℕ → ℕ) (code : List InstrValue) (k : ℕ) (i : InstrValue) → are_small offset code ≡ true → slice_get code k ≡ Some i → arg_is_small offset i.arg ≡ true
small_at offset code k i all h = of_all (λ (j : InstrValue). arg_is_small offset j.arg) code k i all h

pub kept_at : (heaps : Built) (code : List InstrValue) (k : ℕ) (i : InstrValue) → list_all (λ (j : InstrValue). text_is_kept heaps j.arg) code ≡ true → slice_get code k ≡ Some i → text_is_kept heaps i.arg ≡ true
kept_at heaps code k i all h = of_all (λ (j : InstrValue). text_is_kept heaps j.arg) code k i all h

-- one instruction more is written, and what is left is one less
pub assembled_step : (offset : List ℕ → ℕ) (code : List InstrValue) (at k total : ℕ) (i : InstrValue) (out whole : List ℕ) → slice_get code k ≡ Some i → at + length_of_code (drop k code) ≡ total → out ++ code_bytes offset at (drop k code) ≡ whole
    → (at + instruction_size (instr_meant i) + length_of_code (drop (k + 1) code) ≡ total)
    × ((out ++ instr_bytes offset (at + instruction_size (instr_meant i)) i) ++ code_bytes offset (at + instruction_size (instr_meant i)) (drop (k + 1) code) ≡ whole)
assembled_step offset code at k total i out whole there size bytes =
    let more = length_more code k i there in
    let left : at + instruction_size (instr_meant i) + length_of_code (drop (k + 1) code) ≡ total = omega (arith, more, size) in
    (left, append_assoc out (instr_bytes offset (at + instruction_size (instr_meant i)) i) (code_bytes offset (at + instruction_size (instr_meant i)) (drop (k + 1) code)) ∙ (rw (code_more offset code at k i there) at bytes))

-- nothing is left
none_left : (code : List InstrValue) (k : ℕ) → length code ≤ k → drop k code ≡ []
none_left [] zero h = refl
none_left [] (suc k) h = refl
none_left (i ∷ code) zero h = absurd (omega arith)
none_left (i ∷ code) (suc k) h = none_left code k (omega arith)

pub assembled_all : (offset : List ℕ → ℕ) (code : List InstrValue) (at k : ℕ) (out whole : List ℕ) → length code ≤ k → out ++ code_bytes offset at (drop k code) ≡ whole → out ≡ whole
unfolding code_bytes
assembled_all offset code at k out whole end bytes = sym (append-nil out) ∙ (rw (none_left code k end) at bytes)

pub ruleset code_steps = (code_more, length_more, fits_at, small_at, kept_at)
