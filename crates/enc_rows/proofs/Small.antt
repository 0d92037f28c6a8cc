-- Numbers of one byte fit every column, and few rows of them are few bytes.
use Rattle.std.proofs.Common.{◌≡◌, ℕ, zero, suc, ◌+◌, ◌*◌, ◌/◌, ◌%◌, ◌^◌, ◌<◌, ◌≤◌, Bool, true, false, inl, inr, List, [], ◌∷◌, length, refl, arith, lt-ltb, ltb-true, eqb-true}
use Rattle.std.specs.Prelude.{nat_lt, IsTrue, ◌==◌, ◌&&◌, if◌then◌else◌}
use Rattle.std.proofs.Math.Nat.{mul-le-mul_right}
use Rattle.std.specs.List.{list_all}
use Rattle.std.proofs.lemmas.Bool.{and_parts, and_from}
use Rattle.enc_schema.specs.declared.column.Column.{Column}
use Rattle.enc_schema.specs.declared.column.Column.TheVariants.{Num8, Num16, Num32, Text, Guid, Blob, Index, Coded, Run}
use Rattle.enc_schema.specs.Schema.{columns_in}
use Rattle.enc_schema.specs.Widths.{Shape, width_of, row_width}
use Rattle.enc_schema.proofs.Kept.{row_few}
use Rattle.enc_meta.specs.declared.span.Span.{Span}
use Rattle.enc_rows.specs.Sums.{sum_below}
use Rattle.enc_rows.specs.Layout.{one, has_table, tables_below, rows_begin, rows_of, table_bytes, table_start}
use Rattle.enc_rows.proofs.Below.{sum_none, sum_suc}
use Rattle.enc_rows.proofs.Layouts.{count_is, stream_length}
use Rattle.enc_rows.specs.Written.{rows_at, count_at, stream_of, valid_of, layout_written, shape_of, has_cells, fits, row_fits, index_fits, row_indices_fit, AreRows, AllFit, IndicesFit}
use Rattle.enc_rows.proofs.Lengths.{Sizes, sizes}

abbrev pub small : List ℕ → Bool
small row = list_all (λ (n : ℕ). nat_lt n 0x100) row

below_any : (width space n : ℕ) → Sizes width space → n < 0x100 → n < 2 ^ (8 * width)
below_any width space n (inl e) low = rw e.0 low
below_any width space n (inr (inl e)) low = rw e.0 (omega arith)
below_any width space n (inr (inr e)) low = rw e.0 (omega arith)

cell_small : (s : Shape) (c : Column) (n : ℕ) → n < 0x100 → IsTrue (fits s c n)
unfolding fits
cell_small s c n low = lt-ltb _ _ (below_any (width_of s c) _ n (sizes s c) low)

-- a test of a row, column by column, that holds of each small number holds of small rows
row_by : (fit : Column → ℕ → Bool) (all : List Column → List ℕ → Bool) → all [] [] ≡ true → ((c : Column) (n : ℕ) (columns : List Column) (cells : List ℕ) → all (c ∷ columns) (n ∷ cells) ≡ (fit c n && all columns cells)) → ((c : Column) (n : ℕ) → n < 0x100 → IsTrue (fit c n)) → (columns : List Column) (cells : List ℕ) → length cells ≡ length columns → IsTrue (small cells) → IsTrue (all columns cells)
row_by fit all none more each [] [] len low = none
row_by fit all none more each [] (n ∷ cells) len low = absurd (omega arith)
row_by fit all none more each (c ∷ columns) [] len low = absurd (omega arith)
row_by fit all none more each (c ∷ columns) (n ∷ cells) len low =
    let parts = and_parts (nat_lt n 0x100) (small cells) low in
    rw (more c n columns cells) (and_from _ _ (each c n (ltb-true _ _ parts.0)) (row_by fit all none more each columns cells (omega arith) parts.1))

rows_by : (all : List ℕ → Bool) (columns : List Column) (rows : List (List ℕ)) → ((cells : List ℕ) → length cells ≡ length columns → IsTrue (small cells) → IsTrue (all cells)) → IsTrue (list_all (has_cells columns) rows) → IsTrue (list_all small rows) → IsTrue (list_all all rows)
rows_by all columns [] each have low = refl
rows_by all columns (row ∷ rows) each have low =
    let has = and_parts (has_cells columns row) (list_all (has_cells columns) rows) have in
    let parts = and_parts (small row) (list_all small rows) low in
    and_from _ _ (each row (eqb-true _ _ has.0) parts.0) (rows_by all columns rows each has.1 parts.1)

row_small : (s : Shape) (columns : List Column) (cells : List ℕ) → length cells ≡ length columns → IsTrue (small cells) → IsTrue (row_fits s columns cells)
unfolding row_fits
row_small s = row_by (fits s) (row_fits s) refl (λ c n columns cells. refl) (cell_small s)

pub small_fits : (all : List (List (List ℕ))) (jtd : Bool) (flags : ℕ) → AreRows all → ((k : ℕ) → IsTrue (list_all small (rows_at all k))) → AllFit all jtd flags
small_fits all jtd flags rows low = record { each = λ t. rows_by (row_fits (shape_of all jtd flags) (columns_in t)) (columns_in t) (rows_at all t) (row_small (shape_of all jtd flags) (columns_in t)) (rows.cells t) (low t) }

-- so they do whatever the heap bits
index_small : (s : Shape) (c : Column) (n : ℕ) → n < 0x100 → IsTrue (index_fits s c n)
unfolding index_fits
index_small s Text n low = refl
index_small s Guid n low = refl
index_small s Blob n low = refl
index_small s Num8 n low = cell_small s Num8 n low
index_small s Num16 n low = cell_small s Num16 n low
index_small s Num32 n low = cell_small s Num32 n low
index_small s (Index t) n low = cell_small s (Index t) n low
index_small s (Coded k) n low = cell_small s (Coded k) n low
index_small s (Run t) n low = cell_small s (Run t) n low

row_indices_small : (s : Shape) (columns : List Column) (cells : List ℕ) → length cells ≡ length columns → IsTrue (small cells) → IsTrue (row_indices_fit s columns cells)
unfolding row_indices_fit
row_indices_small s = row_by (index_fits s) (row_indices_fit s) refl (λ c n columns cells. refl) (index_small s)

pub small_indices_fit : (all : List (List (List ℕ))) (jtd : Bool) → AreRows all → ((k : ℕ) → IsTrue (list_all small (rows_at all k))) → IndicesFit all jtd
small_indices_fit all jtd rows low = record { each = λ t. rows_by (row_indices_fit (shape_of all jtd 0) (columns_in t)) (columns_in t) (rows_at all t) (row_indices_small (shape_of all jtd 0) (columns_in t)) (rows.cells t) (low t) }

-- a sum of numbers none of which is more than b
sum_few : (f : ℕ → ℕ) (b n : ℕ) → ((k : ℕ) → k < n → f k ≤ b) → sum_below f n ≤ n * b
sum_few f b zero h = rw (sum_none f) (omega arith)
sum_few f b (suc n) h = rw (sum_suc f n) (omega (arith, sum_few f b n (λ k lt. h k (omega arith)), h n (omega arith)))

one_few : (b : Bool) → one b ≤ 1
one_few true = omega arith
one_few false = omega arith

begin_few : (valid flags : ℕ) → rows_begin valid flags ≤ 284
unfolding rows_begin tables_below
begin_few valid flags =
    let tables = sum_few (λ k. one (has_table valid k)) 1 64 (λ k lt. one_few (has_table valid k)) in
    by_bit (flags / 0x40 % 2 == 1) (sum_below (λ k. one (has_table valid k)) 64) tables
  where
    by_bit : (b : Bool) (n : ℕ) → n ≤ 64 * 1 → 24 + 4 * n + (if b then 4 else 0) ≤ 284
    by_bit true n h = omega arith
    by_bit false n h = omega arith

eight_rows : (m n w : ℕ) → m ≡ n → n ≤ 8 → w ≤ 36 → m * w ≤ 288
eight_rows m n w e few wide =
    let a : n * w ≤ 8 * w = mul-le-mul_right w few in
    rw e (omega (arith, a))

-- at most eight rows of each table take fewer than 20,000 bytes
pub stream_few : (all : List (List (List ℕ))) (span : Span) (jtd : Bool) (flags : ℕ) → AreRows all → ((k : ℕ) → count_at all k ≤ 8) → length (stream_of all jtd flags) ≤ 20000
unfolding table_start
stream_few all span jtd flags rows few =
    let l = layout_written all span jtd flags in
    let bytes = sum_few (table_bytes l) 288 64 (λ k lt. eight_rows (rows_of l k) (count_at all k) (row_width l.shape k) (count_is all k lt) (few k) (row_few l.shape k)) in
    rw (stream_length all span jtd flags rows) (omega (arith, bytes, begin_few (valid_of all) flags))
