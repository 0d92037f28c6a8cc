-- A cell by its number.
use Rattle.std.proofs.Common.{◌≡◌, ℕ, ◌+◌, ◌*◌, ◌/◌, ◌%◌, ◌<◌, true, List, Some, ap, arith}
use Rattle.std.specs.Prelude.{is_some, option_map}
use Rattle.enc_base.specs.declared.token.Token.{Token}
use Rattle.enc_plain.specs.Cell.{blob}
use Rattle.enc_plain.specs.Module.{Module, cell_of}
use Rattle.enc_memory_module.specs.Plain.{cell_number, blob_said, blob_in}

low_part : (r t i : ℕ) → t < 256 → i < 256 → (r * 65536 + t * 256 + i) % 256 ≡ i
low_part r t i a b = omega (arith, a, b)

table_part : (r t i : ℕ) → t < 256 → i < 256 → (r * 65536 + t * 256 + i) / 256 % 256 ≡ t
table_part r t i a b = omega (arith, a, b)

row_part : (r t i : ℕ) → t < 256 → i < 256 → (r * 65536 + t * 256 + i) / 65536 ≡ r
row_part r t i a b = omega (arith, a, b)

-- the blob in a cell is that of its number
pub blob_stands : (m : Module) (t : Token) (i : ℕ) (bytes : List ℕ) → t.table < 256 → i < 256 → cell_of m t i ≡ Some (blob bytes) → blob_in m (cell_number t i) ≡ Some bytes
unfolding blob_in
blob_stands m t i bytes a b is = rw (low_part t.row t.table i a b, table_part t.row t.table i a b, row_part t.row t.table i a b) (ap blob_said is)

pub blob_told : (m : Module) (t : Token) (i : ℕ) (bytes : List ℕ) → t.table < 256 → i < 256 → cell_of m t i ≡ Some (blob bytes) → cell_of m t i ≡ option_map blob (blob_in m (cell_number t i))
blob_told m t i bytes a b is = rw (blob_stands m t i bytes a b is) is

pub blob_is_some : (m : Module) (t : Token) (i : ℕ) (bytes : List ℕ) → t.table < 256 → i < 256 → cell_of m t i ≡ Some (blob bytes) → is_some (blob_in m (cell_number t i)) ≡ true
blob_is_some m t i bytes a b is = ap is_some (blob_stands m t i bytes a b is)
