-- Bodies that are written: a tiny or a fat header, the code, and fat sections of clauses (ECMA-335 II.25.4).
use Rattle.std.specs.Prelude.{◌≡◌, ℕ, zero, suc, ◌+◌, ◌-◌, ◌*◌, ◌/◌, ◌%◌, ◌^◌, ◌<◌, Bool, true, false, not, ◌&&◌, List, [], ◌∷◌, ◌++◌, length, flat_map, take, drop, replicate, Some, IsTrue, nat_lt, nat_le, ◌==◌, if◌then◌else◌}
use Rattle.std.specs.List.{list_all}
use Rattle.std.specs.Int.{w16, w32, to_le_bytes}
use Rattle.enc_base.specs.Token.{number_of}
use Rattle.enc_opcodes.specs.declared.code.Clause.{Clause}
use Rattle.enc_base.specs.Numbers.{padded}
use Rattle.enc_opcodes.specs.Body.{Code, nil_or, body_at}
use Rattle.enc_opcodes.specs.Clause.{clauses_of}

-- how many bytes a range has; its end counts modulo 2^32
abbrev pub range_length : ℕ × ℕ → ℕ
range_length r = (r.1 + (2 ^ 32 - r.0)) % 2 ^ 32

-- a clause of a fat section: six numbers of four bytes (II.25.4.6)
unfoldable pub clause_bytes : Clause → List ℕ
clause_bytes c =
    to_le_bytes w32 c.kind
    ++ to_le_bytes w32 c.tries.0 ++ to_le_bytes w32 (range_length c.tries)
    ++ to_le_bytes w32 c.handler.0 ++ to_le_bytes w32 (range_length c.handler)
    ++ to_le_bytes w32 c.extra

-- as many clauses as a section's size of three bytes can say
unfoldable pub most_clauses : ℕ
most_clauses = 699050

-- the size that a section's header says: its own four bytes and the clauses'
abbrev pub size_bytes : ℕ → List ℕ
size_bytes n = n % 0x100 ∷ n / 0x100 % 0x100 ∷ n / 0x10000 ∷ []

-- a fat section of clauses; another may follow it (II.25.4.5)
unfoldable pub data_section_written : Bool → List Clause → List ℕ
data_section_written more clauses =
    (if more then 0xC1 else 0x41) ∷ (size_bytes (4 + 24 * length clauses) ++ flat_map clause_bytes clauses)

-- sections with all clauses, each with as many as it takes; each takes one, so there are at most as many as clauses
unfoldable pub sections_for : ℕ → List Clause → List ℕ
sections_for zero clauses = []
sections_for (suc n) clauses = if nat_le (length clauses) most_clauses then data_section_written false clauses
    else data_section_written true (take most_clauses clauses) ++ sections_for n (drop most_clauses clauses)

-- without clauses there is no section
unfoldable pub sections_written : List Clause → List ℕ
sections_written [] = []
sections_written (c ∷ rest) = sections_for (suc (length rest)) (c ∷ rest)

-- a tiny header says enough: at most 63 bytes of code, 8 values on the stack, no locals and no clauses (II.25.4.2)
unfoldable pub is_tiny : Code → List Clause → Bool
is_tiny c [] = nat_lt (length c.code) 64 && c.max == 8 && not c.init && c.locals.row == 0
is_tiny c (x ∷ rest) = false

-- the flags of a fat header: fat, more sections where there are clauses, init, and its size of three fours (II.25.4.4)
abbrev pub flags_written : Bool → List Clause → ℕ
flags_written init clauses = 0x3003 + (if length clauses == 0 then 0 else 8) + (if init then 0x10 else 0)

-- zeros up to the next multiple of four
abbrev pub padding_after : ℕ → List ℕ
padding_after n = replicate (padded n - n) 0

-- the code of a fat body, padded where sections follow
abbrev pub code_written : Code → List Clause → List ℕ
code_written c [] = c.code
code_written c (x ∷ rest) = c.code ++ padding_after (length c.code) ++ sections_written (x ∷ rest)

unfoldable pub fat_written : Code → List Clause → List ℕ
fat_written c clauses =
    to_le_bytes w16 (flags_written c.init clauses)
    ++ to_le_bytes w16 c.max
    ++ to_le_bytes w32 (length c.code)
    ++ to_le_bytes w32 (number_of (nil_or c.locals))
    ++ code_written c clauses

abbrev pub tiny_written : Code → List ℕ
tiny_written c = (length c.code * 4 + 2) ∷ c.code

unfoldable pub body_written : Code → List Clause → List ℕ
body_written c clauses = if is_tiny c clauses then tiny_written c else fat_written c clauses

-- a fat body begins at a multiple of four
unfoldable pub place_for : ℕ → Code → List Clause → ℕ
place_for n c clauses = if is_tiny c clauses then n else padded n

-- the bytes with a body behind them
unfoldable pub with_body : List ℕ → Code → List Clause → List ℕ
with_body bytes c clauses = bytes ++ replicate (place_for (length bytes) c clauses - length bytes) 0
    ++ body_written c clauses

-- a body that is written: its numbers fit their bytes, and so does the length of its sections
pub record IsWritable (c : Code) (clauses : List Clause) : Type 0 where
  pub max : c.max < 2 ^ 16
  pub table : c.locals.table < 0x100
  pub row : c.locals.row < 2 ^ 24
  pub size : length c.code < 2 ^ 32
  pub sections : 28 * length clauses < 2 ^ 32

-- a clause whose numbers fit four bytes
abbrev pub clause_fits : Clause → Bool
clause_fits c = nat_lt c.kind (2 ^ 32) && nat_lt c.tries.0 (2 ^ 32) && nat_lt c.tries.1 (2 ^ 32)
    && nat_lt c.handler.0 (2 ^ 32)
    && nat_lt c.handler.1 (2 ^ 32) && nat_lt c.extra (2 ^ 32)

-- the body as it is read back: with its own sections, and its local signature nil where that names no row
abbrev pub code_again : Code → List Clause → Code
code_again c clauses = record {
  max = c.max;
  init = c.init;
  locals = nil_or c.locals;
  code = c.code;
  sections = sections_written clauses;
}

-- a written body is read back, whatever stands before and behind it, at any place of an image that keeps the
-- multiples of four
abbrev pub BodyIsRead : Type 0
BodyIsRead = (bytes rest : List ℕ) (c : Code) (clauses : List Clause) (first : ℕ) → IsWritable c clauses → first % 4 ≡ 0
    → body_at (with_body bytes c clauses ++ rest) (place_for (length bytes) c clauses)
    (first + place_for (length bytes) c clauses)
    ≡ Some (code_again c clauses)

-- and its clauses are those that were written
abbrev pub ClausesAreRead : Type 0
ClausesAreRead = (clauses : List Clause) → IsTrue (list_all clause_fits clauses)
    → clauses_of (sections_written clauses) ≡ clauses
