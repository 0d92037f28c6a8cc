-- The bytes of user texts' units.
use Rattle.std.proofs.Common.{◌≡◌, ℕ, ◌+◌, ◌*◌, ◌/◌, ◌%◌, ◌<◌, List, [], ◌∷◌, length, take, get_or, refl, ap, arith}
use Rattle.std.proofs.Common.{suc, ◌++◌, map, sym, Option, Some, None}
use Rattle.enc_opcodes.specs.Body.{told, instruction_told}
use Rattle.enc_opcodes.specs.Instruction.{Instruction, instr_in, rest_of}
use Rattle.enc_opcodes.proofs.Instructions.{rest_none, rest_more}
use Rattle.std.proofs.Common.{◌∙◌, subst, Result}
use Rattle.enc_meta.specs.Built.{Built}
use Rattle.enc_meta.specs.declared.builder.BuildFault.{BuildFault}
use Rattle.enc_rewriter.specs.Values.{text_named, texts_named, with_all, IsPast}
use Rattle.enc_rewriter.specs.declared.pass.Pass.TheVariants.{Users}
use Rattle.enc_rewriter.proofs.Fills.{filled_both, fill_grows, past_grows}
use Rattle.enc_base.specs.Units.{units_of}
use Rattle.enc_meta.specs.Built.{unit_bytes}

low : (a b : ℕ) → a < 256 → (a + 256 * b) % 0x100 ≡ a
low a b few = omega arith

high : (a b : ℕ) → a < 256 → (a + 256 * b) / 0x100 ≡ b
high a b few = omega arith

-- the bytes of whole units are those of the units that they spell
pub whole : (bytes : List ℕ) → ((i : ℕ) → get_or bytes i 0 < 256) → take (length bytes / 2 * 2) bytes ≡ unit_bytes (units_of bytes)
unfolding units_of
whole [] small = refl
whole (a ∷ []) small = refl
whole (a ∷ b ∷ rest) small =
    let e : length (a ∷ b ∷ rest) / 2 * 2 ≡ suc (suc (length rest / 2 * 2)) = omega arith in
    rw (e, low a b (small 0), high a b (small 0)) (ap (λ xs. a ∷ b ∷ xs) (whole rest (λ i. small (suc (suc i)))))

-- the user texts that the instructions from a place on name
abbrev pub left : (ℕ → Option (List ℕ)) → List ℕ → ℕ → List (List ℕ)
left texts code at = texts_named (map (instruction_told texts) (rest_of code at))

pub left_more : (texts : ℕ → Option (List ℕ)) (code : List ℕ) (at n : ℕ) (i : Instruction ℕ) → Some (i, n) ≡ instr_in code at
    → left texts code at ≡ text_named (told texts i.arg) ++ left texts code n
unfolding texts_named
left_more texts code at n i is = rw (rest_more code at n i (sym is)) refl

pub left_none : (texts : ℕ → Option (List ℕ)) (code : List ℕ) (at : ℕ) → None ≡ instr_in code at → left texts code at ≡ []
unfolding texts_named
left_none texts code at none = rw (rest_none code at (sym none)) refl

-- one more instruction
pub next_left : (texts : ℕ → Option (List ℕ)) (code : List ℕ) (at n : ℕ) (i : Instruction ℕ) (first old new : Built) → Some (i, n) ≡ instr_in code at
    → with_all Users old (left texts code at) ≡ with_all Users first (left texts code 0) → new ≡ with_all Users old (text_named (told texts i.arg))
    → with_all Users new (left texts code n) ≡ with_all Users first (left texts code 0)
next_left texts code at n i first old new is so_far one =
    ap (λ h. with_all Users h (left texts code n)) one
    ∙ sym (filled_both Users old (text_named (told texts i.arg)) (left texts code n))
    ∙ ap (λ xs. with_all Users old xs) (sym (left_more texts code at n i is))
    ∙ so_far

-- what is refused at one instruction is refused at all
pub past_left : (texts : ℕ → Option (List ℕ)) (code : List ℕ) (at n : ℕ) (i : Instruction ℕ) (first old : Built) (r : Result Unit BuildFault) → Some (i, n) ≡ instr_in code at
    → with_all Users old (left texts code at) ≡ with_all Users first (left texts code 0) → IsPast r Users (with_all Users old (text_named (told texts i.arg)))
    → IsPast r Users (with_all Users first (left texts code 0))
past_left texts code at n i first old r is so_far past =
    let e : with_all Users old (left texts code at) ≡ with_all Users (with_all Users old (text_named (told texts i.arg))) (left texts code n) =
    ap (λ xs. with_all Users old xs) (left_more texts code at n i is) ∙ filled_both Users old (text_named (told texts i.arg)) (left texts code n) in
    let one = with_all Users old (text_named (told texts i.arg)) in
    subst (λ h. IsPast r Users h) (sym e ∙ so_far)
    (past_grows r Users one (with_all Users one (left texts code n)) (fill_grows Users one (left texts code n)) past)

pub all_left : (texts : ℕ → Option (List ℕ)) (code : List ℕ) (at : ℕ) (first old : Built) → None ≡ instr_in code at
    → with_all Users old (left texts code at) ≡ with_all Users first (left texts code 0) → old ≡ with_all Users first (left texts code 0)
unfolding with_all
all_left texts code at first old none so_far = let e : old ≡ with_all Users old (left texts code at) = rw (left_none texts code at none) refl in e ∙ so_far
