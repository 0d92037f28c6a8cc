-- Where instructions begin, one after the other.
use Rattle.std.proofs.Common.{◌≡◌, ℕ, ◌+◌, ◌<◌, ◌≤◌, ◌^◌, Bool, true, false, List, [], ◌∷◌, ◌++◌, length, get_or, drop, map, Some, None, Err, refl, sym, ◌∙◌, arith, append-nil, append_assoc}
use Rattle.std.proofs.lemmas.List.{drop_all}
use Rattle.std.proofs.lemmas.Bool.Decides.{nat_tests}
use Rattle.std.specs.Prelude.{nat_lt, if◌then◌else◌}
use Rattle.enc_opcodes.specs.Sound.{instruction_size}
use Rattle.enc_opcodes.specs.Instruction.{Instruction}
use Rattle.enc_edit_list.specs.declared.body.InstrValue.{InstrValue}
use Rattle.enc_edit_list.specs.Sizes.{instr_meant, length_of_code, placed}
use Rattle.enc_jobs.specs.declared.fault.Refused.{Refused}
use Rattle.enc_jobs.specs.declared.fault.Refused.TheVariants.{Memory, Form}
use Rattle.enc_jobs.specs.declared.code.Offsets.{Offsets}
use Rattle.enc_jobs.specs.Outcome.{ReadsAs}
use Rattle.enc_jobs.specs.Code.{within_word, offsets_of}
use Rattle.enc_jobs.proofs.Loops.{front}

-- the places alone
abbrev pub places : ℕ → List InstrValue → List ℕ
places at code = map (λ (x : ℕ × Instruction (List ℕ)). x.0) (placed at code)

pub places_front : (at : ℕ) (x : InstrValue) (rest : List InstrValue) → places at (x ∷ rest) ≡ at ∷ places (at + instruction_size (instr_meant x)) rest
unfolding placed
places_front at x rest = refl

pub places_none : (at : ℕ) → places at [] ≡ []
unfolding placed
places_none at = refl

pub size_front : (x : InstrValue) (rest : List InstrValue) → length_of_code (x ∷ rest) ≡ instruction_size (instr_meant x) + length_of_code rest
unfolding length_of_code
size_front x rest = refl

size_none : length_of_code [] ≡ 0
unfolding length_of_code
size_none = refl

-- one instruction more
pub places_more : (code : List InstrValue) (i at : ℕ) (x : InstrValue) (starts : List ℕ) → i < length code → x ≡ get_or code i x → starts ++ places at (drop i code) ≡ (starts ++ at ∷ []) ++ places (at + instruction_size (instr_meant x)) (drop (i + 1) code)
places_more code i at x starts h is = rw (front code i x h is, places_front at x (drop (i + 1) code)) (sym (append_assoc starts (at ∷ []) _))

pub size_more : (code : List InstrValue) (i at : ℕ) (x : InstrValue) → i < length code → x ≡ get_or code i x → at + length_of_code (drop i code) ≡ (at + instruction_size (instr_meant x)) + length_of_code (drop (i + 1) code)
size_more code i at x h is = rw (front code i x h is, size_front x (drop (i + 1) code)) (omega arith)

-- an offset is within the bound or not
within_by : (b : Bool) (n m : ℕ) → nat_lt n (2 ^ 32) ≡ b → (if b then Some n else None) ≡ Some m → (m ≡ n) × (n < 2 ^ 32)
within_by true n m e h = let p : n ≡ m = cc in (sym p, grind (arith, nat_tests))
within_by false n m e h = absurd (cc)

pub within_is : (n m : ℕ) → within_word n ≡ Some m → (m ≡ n) × (n < 2 ^ 32)
within_is n m h = within_by (nat_lt n (2 ^ 32)) n m refl h

past_by : (b : Bool) (n : ℕ) → nat_lt n (2 ^ 32) ≡ b → (if b then Some n else None) ≡ None → 2 ^ 32 ≤ n
past_by true n e h = absurd (cc)
past_by false n e h = grind (arith, nat_tests)

pub within_not : (n : ℕ) → within_word n ≡ None → 2 ^ 32 ≤ n
within_not n h = past_by (nat_lt n (2 ^ 32)) n refl h

pub within : (n : ℕ) → n < 2 ^ 32 → within_word n ≡ Some n
within n h = grind (arith, nat_tests)

pub past : (n : ℕ) → 2 ^ 32 ≤ n → within_word n ≡ None
past n h = grind (arith, nat_tests)

-- all instructions are placed
pub offsets_done : (code : List InstrValue) (i size : ℕ) (starts : List ℕ) → length code ≤ i → size < 2 ^ 32 → starts ++ places size (drop i code) ≡ places 0 code → size + length_of_code (drop i code) ≡ length_of_code code → offsets_of code ≡ Some (record { starts = starts; size = size })
unfolding offsets_of
offsets_done code i size starts h fits all sum =
    let rest = drop_all i code h in
    let s : length_of_code code ≡ size = sym sum ∙ rw (rest, size_none) (omega arith) in
    let p : places 0 code ≡ starts = sym all ∙ rw (rest, places_none size) (append-nil starts) in
    rw (s, p, within size fits) refl

-- an instruction ends too far
pub offsets_refused : (code : List InstrValue) (i size : ℕ) (x : InstrValue) (e : Refused) → i < length code → x ≡ get_or code i x → ReadsAs (Err e) (within_word (size + instruction_size (instr_meant x))) → size + length_of_code (drop i code) ≡ length_of_code code → ReadsAs {A = Offsets} (Err e) (offsets_of code)
unfolding offsets_of
offsets_refused code i size x Memory h is far sum = tt
offsets_refused code i size x Form h is far sum =
    let p : length_of_code code ≡ (size + instruction_size (instr_meant x)) + length_of_code (drop (i + 1) code) = sym sum ∙ size_more code i size x h is in
    let q : 2 ^ 32 ≤ length_of_code code = omega (arith, within_not (size + instruction_size (instr_meant x)) far) in
    rw (past (length_of_code code) q) refl

pub ruleset offset_steps = (places_more, size_more, offsets_done, offsets_refused)
