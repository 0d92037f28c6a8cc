-- What a body is judged by: where its instructions begin, and that they are one list.
use Rattle.std.specs.Prelude.{◌≡◌, ℕ, Bool, true, false, not, ◌&&◌, List, [], ◌∷◌, length, slice_index_or, Option, is_some}
use Rattle.std.specs.List.{list_all}
use Rattle.enc_opcodes.specs.declared.op.Operand.{Operand}
use Rattle.enc_opcodes.specs.Instruction.{Argument, target, targets, token, text, Instruction, instr_in, IsChain, instructions_of, end_of}
use Rattle.enc_opcodes.specs.Body.{is_user, is_named}

-- whether an instruction begins at an offset, as marked for each byte of the code
abbrev pub mark_at : List Bool → ℕ → Bool
mark_at marks t = slice_index_or marks t false

-- the offsets to which an argument leads
abbrev pub targets_of : Argument ℕ → List ℕ
targets_of (target t) = t ∷ []
targets_of (targets ts) = ts
targets_of _ = []

-- the user texts that an argument names, by their offsets
abbrev pub named_texts : Argument ℕ → List ℕ
named_texts (text offset) = offset ∷ []
named_texts _ = []

-- each of these offsets is that of a user text
abbrev pub are_texts : (ℕ → Option (List ℕ)) → List ℕ → Bool
are_texts texts offsets = list_all (λ (t : ℕ). is_some (texts t)) offsets

-- a token is a row, and not in the place of a user text: what is asked of an argument besides its targets
abbrev pub names_a_row : (ℕ → ℕ) → Operand → Argument ℕ → Bool
names_a_row count o (token t) = not (is_user o) && is_named count t
names_a_row count o _ = true

-- code that is whole instructions is read as these, one behind the other
abbrev pub ReadIsChain : Type 0
ReadIsChain = (code : List ℕ) → end_of code 0 ≡ length code
    → IsChain (instr_in code) (length code) 0 (instructions_of code)

-- and what stands one behind the other, up to the end of the code, is what is read
abbrev pub ChainIsRead : Type 0
ChainIsRead = (code : List ℕ) (all : List (ℕ × Instruction ℕ)) → IsChain (instr_in code) (length code) 0 all
    → (all ≡ instructions_of code)
    × (end_of code 0 ≡ length code)
