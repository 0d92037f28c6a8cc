-- The bytes of code and of data sections in which tokens are moved (ECMA-335 II.25.4.5, II.25.4.6, III.1.9).
use Rattle.std.specs.Prelude.{◌≡◌, ℕ, zero, suc, ◌-◌, Bool, ◌||◌, List, [], ◌++◌, length, map, take, drop, is_some, ◌==◌, if◌then◌else◌}
use Rattle.std.specs.Int.{w32, to_le_bytes}
use Rattle.enc_base.specs.Token.{token_of, number_of}
use Rattle.enc_base.specs.declared.token.Token.{Token}
use Rattle.enc_il.specs.Seen.{all_sections}
use Rattle.enc_opcodes.specs.declared.code.Clause.{Clause}
use Rattle.enc_opcodes.specs.Body.{handler_meant}
use Rattle.enc_opcodes.specs.Clause.{clause_size, clause_in, clauses_of}
use Rattle.enc_opcodes.specs.Instruction.{rest_of}
use Rattle.enc_token_map.specs.Body.{instruction_moved, handler_moved}

-- from a place on, code has the instructions of other code with its tokens moved
abbrev pub IsMovedFrom : (Token → Token) → List ℕ → List ℕ → ℕ → Type 0
IsMovedFrom f code moved at = rest_of moved at ≡ map (instruction_moved f) (rest_of code at)

-- code is moved up to a place: whatever is moved behind that, what stands before it is moved too
pub record IsMovedUpTo (f : Token → Token) (code moved : List ℕ) (at : ℕ) : Type 0 where
  pub size : length moved ≡ at
  pub before : (rest : List ℕ) → IsMovedFrom f code (moved ++ rest) at → IsMovedFrom f code (moved ++ rest) 0

-- bytes with those of code behind them, from a place up to another, and then a number of four bytes
abbrev pub with_number : List ℕ → List ℕ → ℕ → ℕ → ℕ → List ℕ
with_number bytes code at n x = (bytes ++ take (n - at) (drop at code)) ++ to_le_bytes w32 x

-- a clause of this kind has no class: its last four bytes are an offset, or nothing (II.25.4.6)
abbrev pub has_no_class : ℕ → Bool
has_no_class kind = kind == 1 || kind == 2 || kind == 4

-- the last four bytes of a clause, as a number, with the class moved
abbrev pub extra_moved : (Token → Token) → Clause → ℕ
extra_moved f c = if has_no_class c.kind then c.extra else number_of (f (token_of c.extra))

-- the bytes of the clause at the front, with its class moved
unfoldable pub clause_moved : (Token → Token) → Bool → List ℕ → List ℕ
clause_moved f fat bytes = take (clause_size fat - 4) bytes ++ to_le_bytes w32 (extra_moved f (clause_in fat bytes))

-- those of so many clauses
unfoldable pub clauses_moved : (Token → Token) → Bool → ℕ → List ℕ → List ℕ
clauses_moved f fat zero bytes = []
clauses_moved f fat (suc n) bytes = clause_moved f fat bytes ++ clauses_moved f fat n (drop (clause_size fat) bytes)

-- sections mean the clauses of others with their classes moved, and are whole where those are
pub record AreMoved (f : Token → Token) (sections moved : List ℕ) : Type 0 where
  pub means : map handler_meant (clauses_of moved) ≡ map (handler_moved f) (map handler_meant (clauses_of sections))
  pub whole : is_some (all_sections moved) ≡ is_some (all_sections sections)
