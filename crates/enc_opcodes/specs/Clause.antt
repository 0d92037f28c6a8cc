-- The exception clauses of a method's body, in the data sections behind its code (ECMA-335 II.25.4.5, II.25.4.6).
use Rattle.std.specs.Prelude.{ℕ, zero, suc, ◌+◌, ◌*◌, ◌/◌, ◌%◌, ◌^◌, Bool, true, false, List, [], ◌∷◌, length, flat_map, drop, Option, Some, None, option_map, unwrap_or, ◌==◌, if◌then◌else◌}
use Rattle.std.specs.Int.{Width, w8, w16, w32}
use Rattle.enc_base.specs.Numbers.{little_endian_at}
use Rattle.enc_opcodes.specs.declared.code.Clause.{Clause}
use Rattle.enc_opcodes.specs.Instruction.{◌>>=◌, range_at}

-- a data section: whether its clauses are the fat ones, whether another section follows it, how many clauses it has,
-- and their bytes
pub record Section : Type 0 where
  pub fat : Bool
  pub more : Bool
  pub count : ℕ
  pub clauses : List ℕ

-- the bytes of a clause
abbrev pub clause_size : Bool → ℕ
clause_size true = 24
clause_size false = 12

-- the clauses of a section are as many as its size has room for. A fat section's size is of three bytes, a small
-- one's of one
abbrev pub counted_in : Bool → ℕ → ℕ → ℕ → ℕ
counted_in true a b c = ((c * 256 + b) * 256 + a) / 24
counted_in false a b c = a / 12

-- the section with these clauses, and the bytes behind them, which end the section whatever its size says
abbrev pub with_clauses : Bool → Bool → ℕ → List ℕ → Option (Section × List ℕ)
with_clauses fat more count rest =
    option_map (λ (bytes : List ℕ). (
      record { fat = fat; more = more; count = count; clauses = bytes },
      drop (clause_size fat * count) rest,
    ))
    (range_at rest 0 (clause_size fat * count))

-- the section behind a kind byte: 1, with 40 added where its clauses are fat and 80 where another section follows
unfoldable pub section_of_kind : ℕ → ℕ → ℕ → ℕ → List ℕ → Option (Section × List ℕ)
section_of_kind kind a b c rest =
    if kind == 0x01 then with_clauses false false (counted_in false a b c) rest
    else if kind == 0x41 then with_clauses true false (counted_in true a b c) rest
    else if kind == 0x81 then with_clauses false true (counted_in false a b c) rest
    else if kind == 0xC1 then with_clauses true true (counted_in true a b c) rest
    else None

-- the section at the front, and the bytes behind it. All sections are whole multiples of four bytes, so the next
-- begins there
unfoldable pub section_in : List ℕ → Option (Section × List ℕ)
section_in (kind ∷ a ∷ b ∷ c ∷ rest) = section_of_kind kind a b c rest
section_in _ = None

-- a section and those that follow, and the bytes behind the last: each takes four bytes and more, so there are at
-- most as many as bytes
abbrev pub section_followed : Section × List ℕ → (List ℕ → Option (List Section × List ℕ))
    → Option (List Section × List ℕ)
section_followed x next = if x.0.more then option_map (λ (y : List Section × List ℕ). (x.0 ∷ y.0, y.1)) (next x.1)
    else Some (x.0 ∷ [], x.1)

unfoldable pub sections_in : ℕ → List ℕ → Option (List Section × List ℕ)
sections_in zero bytes = None
sections_in (suc n) bytes = section_in bytes >>= λ x. section_followed x (sections_in n)

-- the sections at the front of these bytes, none where one isn't whole
unfoldable pub data_sections : List ℕ → List Section
data_sections bytes = unwrap_or (option_map (λ (x : List Section × List ℕ). x.0) (sections_in (length bytes) bytes)) []

-- a number at a place, 0 where it doesn't stand whole there
abbrev pub number_or_zero : Width → List ℕ → ℕ → ℕ
number_or_zero w bytes at = unwrap_or (little_endian_at w bytes at) 0

-- where a range begins and where it ends, one past its last byte
abbrev pub range_of : ℕ → ℕ → ℕ × ℕ
range_of start len = (start, (start + len) % 2 ^ 32)

-- the clause at the front: flags, try offset and length, handler offset and length, class token or filter offset
unfoldable pub clause_in : Bool → List ℕ → Clause
clause_in true bytes = record {
  kind = number_or_zero w32 bytes 0;
  tries = range_of (number_or_zero w32 bytes 4) (number_or_zero w32 bytes 8);
  handler = range_of (number_or_zero w32 bytes 12) (number_or_zero w32 bytes 16);
  extra = number_or_zero w32 bytes 20;
}
clause_in false bytes = record {
  kind = number_or_zero w16 bytes 0;
  tries = range_of (number_or_zero w16 bytes 2) (number_or_zero w8 bytes 4);
  handler = range_of (number_or_zero w16 bytes 5) (number_or_zero w8 bytes 7);
  extra = number_or_zero w32 bytes 8;
}

unfoldable pub clauses_in : Bool → ℕ → List ℕ → List Clause
clauses_in fat zero bytes = []
clauses_in fat (suc n) bytes = clause_in fat bytes ∷ clauses_in fat n (drop (clause_size fat) bytes)

-- all clauses of a body's sections, in order
unfoldable pub clauses_of : List ℕ → List Clause
clauses_of bytes = flat_map (λ (s : Section). clauses_in s.fat s.count s.clauses) (data_sections bytes)
