-- The parts of a PDB, and rows of EncMap beside them: what they hold, and that their indices fit.
use Rattle.std.proofs.Common.{◌≡◌, ℕ, ◌+◌, ◌*◌, Bool, true, false, List, [], ◌∷◌, ◌++◌, length, map, refl, sym, ap, subst, ◌∙◌, arith}
use Rattle.std.specs.Prelude.{◌^◌, ◌==◌, nat_lt, slice_get, slice_index, if◌then◌else◌}
use Rattle.std.specs.List.{list_all}
use Rattle.std.proofs.lemmas.Bool.{and_parts}
use Rattle.std.proofs.lemmas.Bool.Decides.{nat_tests}
use Rattle.enc_meta.specs.Built.{Built}
use Rattle.enc_plain.specs.Debug.{PlainPdb}
use Rattle.enc_rows.specs.Written.{rows_at, count_at, counts_of, shape_of, fits, index_fits, row_indices_fit, IndicesFit}
use Rattle.enc_rows.proofs.Layouts.{count_is}
use Rattle.enc_schema.specs.Schema.{columns_in}
use Rattle.enc_base.specs.Tables as tables
use Rattle.enc_schema.specs.Widths.{Shape, narrow, index_width}
use Rattle.enc_schema.specs.declared.column.Column.{Column}
use Rattle.enc_ppdb.specs.Written.{HoldPdb}
use Rattle.enc_pdb_writer.specs.Holding.{map_cells, MoreNamed, HoldPdbDelta}
use Rattle.enc_pdb_writer.specs.Listed.{has_short_row}

empty : {X : Type 0} (xs : List X) → length xs ≡ 0 → xs ≡ []
empty [] h = refl
empty (x ∷ xs) h = absurd (omega (arith, h))

-- the rows of the three tables, and of all others
pub documents_same : (old new : List (List (List ℕ))) (more : List (List ℕ)) → MoreNamed old new more → rows_at new 0x30 ≡ rows_at old 0x30
documents_same old new more pushed = pushed 0x30

methods_same : (old new : List (List (List ℕ))) (more : List (List ℕ)) → MoreNamed old new more → rows_at new 0x31 ≡ rows_at old 0x31
methods_same old new more pushed = pushed 0x31

named_rows : (p : PlainPdb) (count : ℕ) (h : Built) (old new : List (List (List ℕ))) (more : List (List ℕ)) → HoldPdb p count h old → MoreNamed old new more → rows_at new 0x1F ≡ more
named_rows p count h old new more held pushed = pushed 0x1F ∙ ap (λ (rows : List (List ℕ)). rows ++ more) (empty (rows_at old 0x1F) (held.others 0x1F refl refl))

other_rows : (p : PlainPdb) (count table : ℕ) (h : Built) (old new : List (List (List ℕ))) (more : List (List ℕ)) → HoldPdb p count h old → MoreNamed old new more → (table == tables.document) ≡ false → (table == tables.method_debug_information) ≡ false
    → (table == tables.enc_map) ≡ false → rows_at new table ≡ []
other_rows p count table h old new more held pushed a b c =
    pushed table ∙ ap (λ (t : Bool). if t then rows_at old table ++ more else rows_at old table) c ∙ empty (rows_at old table) (held.others table a b)

-- with EncMap's rows the parts hold the delta
pub delta_held : (p : PlainPdb) (numbers : List ℕ) (h : Built) (old new : List (List (List ℕ))) → HoldPdb p (length numbers) h old → MoreNamed old new (map map_cells numbers) → HoldPdbDelta p numbers h new
delta_held p numbers h old new held pushed = record {
  starts = held.starts;
  documents = ap length (documents_same old new (map map_cells numbers) pushed) ∙ held.documents;
  document = λ n d cells at row. held.document n d cells at (ap (λ (rows : List (List ℕ)). slice_get rows n) (sym (documents_same old new (map map_cells numbers) pushed)) ∙ row);
  methods = ap length (methods_same old new (map map_cells numbers) pushed) ∙ held.methods;
  method = λ n cells row. held.method n cells (ap (λ (rows : List (List ℕ)). slice_get rows n) (sym (methods_same old new (map map_cells numbers) pushed)) ∙ row);
  named = named_rows p (length numbers) h old new (map map_cells numbers) held pushed;
  others = λ table a b c. ap length (other_rows p (length numbers) table h old new (map map_cells numbers) held pushed a b c);
}

-- a number fits the same column in both shapes
abbrev SameFit : Shape → Shape → List Column → Type 0
SameFit s t [] = Unit {0}
SameFit s t (column ∷ columns) = ((n : ℕ) → index_fits s column n ≡ index_fits t column n) × SameFit s t columns

row_same : (s t : Shape) (columns : List Column) (cells : List ℕ) → SameFit s t columns → row_indices_fit s columns cells ≡ row_indices_fit t columns cells
unfolding row_indices_fit
row_same s t [] [] same = refl
row_same s t [] (n ∷ cells) same = refl
row_same s t (column ∷ columns) [] same = refl
row_same s t (column ∷ columns) (n ∷ cells) same = rw (same.0 n, row_same s t columns cells same.1) refl

all_same : (s t : Shape) (columns : List Column) (rows : List (List ℕ)) → SameFit s t columns → list_all (row_indices_fit s columns) rows ≡ list_all (row_indices_fit t columns) rows
all_same s t columns [] same = refl
all_same s t columns (row ∷ rows) same = rw (row_same s t columns row same, all_same s t columns rows same) refl

document_columns : (s t : Shape) → SameFit s t (columns_in 0x30)
unfolding columns_in index_fits
document_columns s t = (λ n. refl, (λ n. refl, (λ n. refl, (λ n. refl, tt))))

method_columns : (old new : List (List (List ℕ))) → count_at new 0x30 ≡ count_at old 0x30 → SameFit (shape_of new false 0) (shape_of old false 0) (columns_in 0x31)
unfolding columns_in index_fits fits index_width
method_columns old new same =
    let counts : slice_index (counts_of new) 0x30 ≡ slice_index (counts_of old) 0x30 = count_is new 0x30 (omega arith) ∙ same ∙ sym (count_is old 0x30 (omega arith)) in
    (λ n. ap (λ (c : ℕ). nat_lt n (2 ^ (8 * narrow (nat_lt c 0x10000)))) counts, (λ n. refl, tt))

map_fits : (s : Shape) (m : ℕ) → has_short_row m ≡ true → row_indices_fit s (columns_in 0x1F) (map_cells m) ≡ true
unfolding columns_in row_indices_fit index_fits fits map_cells
map_fits s m short =
    let low : nat_lt (0x31 * 0x1000000 + m) (2 ^ 32) ≡ true = grind (arith, nat_tests, short) in
    rw low refl

maps_fit : (s : Shape) (numbers : List ℕ) → list_all has_short_row numbers ≡ true → list_all (row_indices_fit s (columns_in 0x1F)) (map map_cells numbers) ≡ true
maps_fit s [] short = refl
maps_fit s (m ∷ numbers) short =
    let parts = and_parts (has_short_row m) (list_all has_short_row numbers) short in
    rw (map_fits s m parts.0, maps_fit s numbers parts.1) refl

table_fits : (p : PlainPdb) (numbers : List ℕ) (h : Built) (old new : List (List (List ℕ))) (table : ℕ) (a b c : Bool) → (table == 0x30) ≡ a → (table == 0x31) ≡ b → (table == 0x1F) ≡ c
    → HoldPdb p (length numbers) h old → MoreNamed old new (map map_cells numbers) → list_all has_short_row numbers ≡ true → IndicesFit old false
    → list_all (row_indices_fit (shape_of new false 0) (columns_in table)) (rows_at new table) ≡ true
table_fits p numbers h old new table true b c is x y held pushed short fit =
    let e : 0x30 ≡ table = grind (arith, nat_tests, is) in
    subst (λ t. list_all (row_indices_fit (shape_of new false 0) (columns_in t)) (rows_at new t) ≡ true) e
    (all_same (shape_of new false 0) (shape_of old false 0) (columns_in 0x30) (rows_at new 0x30) (document_columns (shape_of new false 0) (shape_of old false 0))
    ∙ ap (list_all (row_indices_fit (shape_of old false 0) (columns_in 0x30))) (documents_same old new (map map_cells numbers) pushed) ∙ fit.each 0x30)
table_fits p numbers h old new table false true c x is y held pushed short fit =
    let e : 0x31 ≡ table = grind (arith, nat_tests, is) in
    subst (λ t. list_all (row_indices_fit (shape_of new false 0) (columns_in t)) (rows_at new t) ≡ true) e
    (all_same (shape_of new false 0) (shape_of old false 0) (columns_in 0x31) (rows_at new 0x31) (method_columns old new (ap length (documents_same old new (map map_cells numbers) pushed)))
    ∙ ap (list_all (row_indices_fit (shape_of old false 0) (columns_in 0x31))) (methods_same old new (map map_cells numbers) pushed) ∙ fit.each 0x31)
table_fits p numbers h old new table false false true x y is held pushed short fit =
    let e : 0x1F ≡ table = grind (arith, nat_tests, is) in
    subst (λ t. list_all (row_indices_fit (shape_of new false 0) (columns_in t)) (rows_at new t) ≡ true) e
    (ap (list_all (row_indices_fit (shape_of new false 0) (columns_in 0x1F))) (named_rows p (length numbers) h old new (map map_cells numbers) held pushed) ∙ maps_fit (shape_of new false 0) numbers short)
table_fits p numbers h old new table false false false x y z held pushed short fit =
    ap (list_all (row_indices_fit (shape_of new false 0) (columns_in table))) (other_rows p (length numbers) table h old new (map map_cells numbers) held pushed x y z)

-- and their indices fit
pub delta_fits : (p : PlainPdb) (numbers : List ℕ) (h : Built) (old new : List (List (List ℕ))) → HoldPdb p (length numbers) h old → MoreNamed old new (map map_cells numbers) → list_all has_short_row numbers ≡ true → IndicesFit old false → IndicesFit new false
delta_fits p numbers h old new held pushed short fit = record {
  each = λ table. table_fits p numbers h old new table (table == 0x30) (table == 0x31) (table == 0x1F) refl refl refl held pushed short fit;
}
