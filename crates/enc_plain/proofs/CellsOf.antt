-- The rows of a module, as they are asked for without knowing that they are there.
use Rattle.std.proofs.Common.{◌≡◌, ℕ, zero, suc, Bool, true, false, List, [], ◌∷◌, length, Option, Some, None, refl, arith, sym, ap, ◌∙◌}
use Rattle.std.specs.Prelude.{slice_get, option_map, option_and_then, is_some, nat_lt, nat_le, ◌&&◌}
use Rattle.std.proofs.lemmas.Bool.Decides.{nat_tests}
use Rattle.enc_base.specs.Token.{nil}
use Rattle.enc_base.specs.declared.token.Token.{Token}
use Rattle.enc_plain.specs.Cell.{Cell, number, text, blob, refer}
use Rattle.enc_plain.specs.Module.{Module, Row, rows_in, row_at, row_of, has_row, cells_of, cell_of}
use Rattle.enc_plain.specs.Rows.{cell_at, number_of_cell, bytes_of_cell, token_of_cell, number_at, bytes_at, token_at}

none_below : (i : ℕ) → false ≡ nat_le (suc i) 0
none_below i = grind (arith, nat_tests)

one_less : (i n : ℕ) → nat_le (suc i) n ≡ nat_le (suc (suc i)) (suc n)
one_less i n = grind (arith, nat_tests)

there : (rows : List Row) (i : ℕ) → is_some (slice_get rows i) ≡ nat_le (suc i) (length rows)
there [] i = none_below i
there (x ∷ xs) zero = grind (arith, nat_tests)
there (x ∷ xs) (suc i) = there xs i ∙ one_less i (length xs)

some_row : (i : ℕ) (b : Bool) → (nat_lt 0 (suc i) && b) ≡ b
some_row i b = grind (arith, nat_tests)

some_mapped : (o : Option Row) → is_some o ≡ is_some (option_map (λ (r : Row). r.cells) o)
some_mapped None = refl
some_mapped (Some r) = refl

row_there : (rows : List Row) (n : ℕ) → (nat_lt 0 n && nat_le n (length rows)) ≡ is_some (option_map (λ (r : Row). r.cells) (row_at rows n))
row_there rows zero = refl
row_there rows (suc i) = some_row i (nat_le (suc i) (length rows)) ∙ sym (there rows i) ∙ some_mapped (slice_get rows i)

-- a module has a row where it has cells for it
pub has_cells : (m : Module) (t : Token) → has_row m t ≡ is_some (cells_of m t)
unfolding has_row row_of
has_cells m t = row_there (rows_in m t.table) t.row

cell_in : (o : Option Row) (i : ℕ) → option_and_then (λ (cells : List Cell). slice_get cells i) (option_map (λ (r : Row). r.cells) o) ≡ option_and_then (λ (r : Row). slice_get r.cells i) o
cell_in None i = refl
cell_in (Some r) i = refl

-- the cell that stands in a module's column
pub cell_there : (m : Module) (t : Token) (i : ℕ) → cell_at (cells_of m) t i ≡ cell_of m t i
unfolding cell_of
cell_there m t i = cell_in (row_of m t) i

none_of : (o : Option (List Cell)) (i : ℕ) → is_some o ≡ false → option_and_then (λ (cells : List Cell). slice_get cells i) o ≡ None
none_of None i h = refl
none_of (Some cells) i h = absurd cc

-- a row that isn't there has no cells
pub cell_absent : (m : Module) (t : Token) (i : ℕ) → has_row m t ≡ false → cell_at (cells_of m) t i ≡ None
cell_absent m t i h = none_of (cells_of m t) i (sym (has_cells m t) ∙ h)

pub number_there : (m : Module) (t : Token) (i n : ℕ) → cell_of m t i ≡ Some (number n) → n ≡ number_at (cells_of m) t i
unfolding number_at
number_there m t i n h = sym (ap number_of_cell (cell_there m t i ∙ h))

pub number_absent : (m : Module) (t : Token) (i : ℕ) → has_row m t ≡ false → 0 ≡ number_at (cells_of m) t i
unfolding number_at
number_absent m t i h = sym (ap number_of_cell (cell_absent m t i h))

pub text_there : (m : Module) (t : Token) (i : ℕ) (bytes : List ℕ) → cell_of m t i ≡ Some (text bytes) → bytes ≡ bytes_at (cells_of m) t i
unfolding bytes_at
text_there m t i bytes h = sym (ap bytes_of_cell (cell_there m t i ∙ h))

pub blob_there : (m : Module) (t : Token) (i : ℕ) (bytes : List ℕ) → cell_of m t i ≡ Some (blob bytes) → bytes ≡ bytes_at (cells_of m) t i
unfolding bytes_at
blob_there m t i bytes h = sym (ap bytes_of_cell (cell_there m t i ∙ h))

pub bytes_absent : (m : Module) (t : Token) (i : ℕ) → has_row m t ≡ false → [] ≡ bytes_at (cells_of m) t i
unfolding bytes_at
bytes_absent m t i h = sym (ap bytes_of_cell (cell_absent m t i h))

stored_is : (o : Option (List ℕ)) → is_some o ≡ true → o ≡ Some (bytes_of_cell (option_map blob o))
stored_is None h = absurd cc
stored_is (Some bytes) h = refl

pub stored_there : (m : Module) (t : Token) (i : ℕ) (o : Option (List ℕ)) → cell_of m t i ≡ option_map blob o → is_some o ≡ true → o ≡ Some (bytes_at (cells_of m) t i)
unfolding bytes_at
stored_there m t i o h some = rw (cell_there m t i, h) (stored_is o some)

pub token_there : (m : Module) (t : Token) (i : ℕ) (u : Token) → cell_of m t i ≡ Some (refer u) → u ≡ token_at (cells_of m) t i
unfolding token_at
token_there m t i u h = sym (ap token_of_cell (cell_there m t i ∙ h))

pub token_absent : (m : Module) (t : Token) (i : ℕ) → has_row m t ≡ false → nil ≡ token_at (cells_of m) t i
unfolding token_at
token_absent m t i h = sym (ap token_of_cell (cell_absent m t i h))
