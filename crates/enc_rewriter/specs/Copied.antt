-- Code whose user texts are named by other offsets: it means the same with the texts of those (ECMA-335 III.1.9,
-- III.4.16).
use Rattle.std.specs.Prelude.{◌≡◌, ℕ, Bool, true, List, ◌+◌, ◌-◌, ◌<◌, ◌^◌, ◌++◌, length, map, take, drop, Option, Some}
use Rattle.std.specs.List.{list_all}
use Rattle.std.specs.Int.{w32, to_le_bytes}
use Rattle.enc_opcodes.specs.Body.{instruction_told, text_is_there}
use Rattle.enc_opcodes.specs.Instruction.{Instruction, rest_of, end_of}
use Rattle.enc_rewriter.specs.Values.{units_told}

-- the user text of an instruction is there
abbrev pub names_text : (ℕ → Option (List ℕ)) → ℕ × Instruction ℕ → Bool
names_text texts x = text_is_there texts x.1.arg

-- from a place on, the code says with new texts what other code says with its own, and each text is there
pub record SaysSame (old new : ℕ → Option (List ℕ)) (code says : List ℕ) (at : ℕ) : Type 0 where
  pub told : map (instruction_told new) (rest_of says at) ≡ map (instruction_told old) (rest_of code at)
  pub ends : end_of says at ≡ end_of code at
  pub there : list_all (names_text new) (rest_of says at) ≡ true

-- code is said anew up to a place: whatever is said behind that, what stands before it says the same
pub record IsCopied (old new : ℕ → Option (List ℕ)) (code says : List ℕ) (at : ℕ) : Type 0 where
  pub size : length says ≡ at
  pub ends : end_of code at ≡ end_of code 0
  pub before : (rest : List ℕ) → SaysSame old new code (says ++ rest) at → SaysSame old new code (says ++ rest) 0

-- behind bytes stands the instruction of a place, with the token of a text that says what the one at an offset does
abbrev pub IsNamed : (ℕ → Option (List ℕ)) → (ℕ → Option (List ℕ)) → List ℕ → ℕ → ℕ → ℕ → List ℕ → List ℕ → Type 0
IsNamed old new code at end offset before after =
    (x : ℕ) × (x < 2 ^ 24) × (new x ≡ Some (units_told (old offset)))
    × (after ≡ (before ++ take (end - 4 - at) (drop at code)) ++ to_le_bytes w32 (0x70000000 + x))
