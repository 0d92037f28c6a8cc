-- The rows of a module take no more bytes than they weigh.
use Rattle.std.proofs.Common.{◌≡◌, ℕ, zero, suc, ◌+◌, ◌*◌, ◌<◌, ◌≤◌, Bool, true, false, inl, inr, List, [], ◌∷◌, ◌++◌, length, flat_map, replicate, refl, sym, ap, subst, ◌∙◌, arith, length-append}
use Rattle.std.specs.Prelude.{sum_by, if◌then◌else◌, nat_lt, ◌==◌, ◌/◌, ◌%◌}
use Rattle.std.specs.Int.{w32, to_le_bytes}
use Rattle.std.proofs.Math.Nat.{mul-le-mul, mul-add}
use Rattle.std.proofs.lemmas.Bool.Decides.{nat_tests}
use Rattle.std.proofs.lemmas.List.Sums.{sum_by-cons}
use Rattle.enc_meta.specs.Heaps.{Counted}
use Rattle.enc_plain.specs.Module.{Module}
use Rattle.enc_plain.specs.Sound.{IsSound, is_part, row_count}
use Rattle.enc_schema.specs.declared.column.Column.{Column}
use Rattle.enc_schema.specs.declared.column.Column.TheVariants.{Num8, Num16, Num32, Text, Guid, Blob, Index, Coded, Run}
use Rattle.enc_schema.specs.Children.{is_child_table, ptr_of}
use Rattle.enc_schema.specs.Schema.{columns_in}
use Rattle.enc_schema.specs.Widths.{Shape, width_of, space_of}
use Rattle.enc_base.specs.Tables as tables
use Rattle.enc_rows.specs.Sums.{below, sum_below}
use Rattle.enc_rows.specs.Written.{rows_at, count_at, valid_of, shape_of, table_written, count_written, more_data, header_written, stream_of, AreRows}
use Rattle.enc_rows.proofs.Below.{sum_none, sum_suc, sum_more}
use Rattle.enc_rows.proofs.Lengths.{Sizes, sizes, rows_length}
use Rattle.enc_rows.proofs.Stands.{pieces_length}
use Rattle.enc_rewriter.specs.Numbers.{is_in_row_order, rows_of_one, ptr_rows, HoldRows}
use Rattle.enc_rewriter.specs.Placed.{Placed}
use Rattle.enc_rewriter.specs.Weight.{column_weight, row_weight, rows_weight}
use Rattle.enc_rewriter.proofs.KidsCounted.{all_kids_many}
use Rattle.enc_rewriter.proofs.KidsListed.{length_of_one}
use Rattle.enc_rewriter.proofs.PtrRows.{by_other, ptr_columns_are}
use Rattle.enc_plain.specs.Sound.{all_kids}

-- sums
sum_within : (f g : ℕ → ℕ) (n : ℕ) → ((k : ℕ) → k < n → f k ≤ g k) → sum_below f n ≤ sum_below g n
sum_within f g zero each = omega (arith, sum_none f, sum_none g)
sum_within f g (suc n) each = omega (arith, sum_suc f n, sum_suc g n, sum_within f g n (λ k low. each k (omega (arith, low))), each n (omega arith))

sum_both : (f g : ℕ → ℕ) (n : ℕ) → sum_below (λ k. f k + g k) n ≡ sum_below f n + sum_below g n
sum_both f g zero = omega (arith, sum_none f, sum_none g, sum_none (λ k. f k + g k))
sum_both f g (suc n) = omega (arith, sum_suc f n, sum_suc g n, sum_suc (λ k. f k + g k) n, sum_both f g n)

sum_shift : (f : ℕ → ℕ) (n : ℕ) → sum_below (λ k. f (k + 1)) n + f 0 ≡ sum_below f (n + 1)
sum_shift f zero = omega (arith, sum_none (λ k. f (k + 1)), sum_more f 0, sum_none f)
sum_shift f (suc n) =
    let e : suc n ≡ n + 1 = omega arith in
    rw (sum_suc (λ k. f (k + 1)) n, e) (omega (arith, sum_shift f n, sum_more f (n + 1)))

-- a column takes no more than it weighs
four_most : (width space : ℕ) → Sizes width space → space ≤ 4
four_most width space (inl e) = omega (arith, e.1)
four_most width space (inr (inl e)) = omega (arith, e.1)
four_most width space (inr (inr e)) = omega (arith, e.1)

column_light : (s : Shape) (c : Column) → space_of s c ≤ column_weight c
column_light s Num8 = omega arith
column_light s Num16 = omega arith
column_light s Num32 = omega arith
column_light s Text = four_most (width_of s Text) (space_of s Text) (sizes s Text)
column_light s Guid = four_most (width_of s Guid) (space_of s Guid) (sizes s Guid)
column_light s Blob = four_most (width_of s Blob) (space_of s Blob) (sizes s Blob)
column_light s (Index t) = four_most (width_of s (Index t)) (space_of s (Index t)) (sizes s (Index t))
column_light s (Coded kind) = four_most (width_of s (Coded kind)) (space_of s (Coded kind)) (sizes s (Coded kind))
column_light s (Run t) = four_most (width_of s (Run t)) (space_of s (Run t)) (sizes s (Run t))

columns_light : (s : Shape) (cs : List Column) → sum_by (space_of s) cs ≤ sum_by column_weight cs
columns_light s [] = omega arith
columns_light s (c ∷ cs) = omega (arith, sum_by-cons (space_of s) c cs, sum_by-cons column_weight c cs, column_light s c, columns_light s cs)

-- the bytes of a table
abbrev table_size : List (List (List ℕ)) → Shape → ℕ → ℕ
table_size rows s t = count_at rows t * sum_by (space_of s) (columns_in t)

table_length : (rows : List (List (List ℕ))) (s : Shape) (t : ℕ) → AreRows rows → length (table_written rows s t) ≡ table_size rows s t
unfolding table_written
table_length rows s t are = rows_length s (columns_in t) (rows_at rows t) (are.cells t)

-- what a table's own rows weigh, and what those of a Ptr table do for its child table
abbrev own : Module → ℕ → ℕ
own m t = row_count m t * sum_by column_weight (columns_in t)

abbrev extra : Module → ℕ → ℕ
extra m t = row_count m t * (if is_child_table t then 4 else 0)

-- the bytes of a table that is no part of a module
abbrev rest_size : List (List (List ℕ)) → Shape → ℕ → ℕ
rest_size rows s t = if is_part t then 0 else table_size rows s t

-- a Ptr table stands before its child table
next_child : (child : ℕ) → is_child_table child ≡ true → ptr_of child + 1 ≡ child
next_child child is = by_table (child == tables.field) (child == tables.method_def) (child == tables.param) (child == tables.event) (child == tables.property) refl refl refl refl refl is
  where
    by_table : (a b c d e : Bool) → (child == tables.field) ≡ a → (child == tables.method_def) ≡ b → (child == tables.param) ≡ c → (child == tables.event) ≡ d → (child == tables.property) ≡ e
        → nat_lt 0 (if a then tables.field_ptr else if b then tables.method_ptr else if c then tables.param_ptr else if d then tables.event_ptr else if e then tables.property_ptr else 0) ≡ true
        → (if a then tables.field_ptr else if b then tables.method_ptr else if c then tables.param_ptr else if d then tables.event_ptr else if e then tables.property_ptr else 0) + 1 ≡ child
    by_table a b c d e ea eb ec ed ee is = grind (arith, nat_tests, ea, eb, ec, ed, ee, is)

-- it has at most as many rows
ptr_many : (m : Module) (child : ℕ) → IsSound m → is_child_table child ≡ true → length (ptr_rows m child) ≤ row_count m child
unfolding ptr_rows
ptr_many m child sound is = by_order (is_in_row_order (all_kids m child))
  where
    by_order : (b : Bool) → length (if b then [] else rows_of_one (all_kids m child)) ≤ row_count m child
    by_order true = omega arith
    by_order false = omega (arith, length_of_one (all_kids m child), all_kids_many m child sound.owners.owned is)

ptr_size : (m : Module) (h : Counted) (p : Placed) (rows : List (List (List ℕ))) (s : Shape) (child : ℕ) → IsSound m → HoldRows m h p rows → is_child_table child ≡ true
    → table_size rows s (ptr_of child) ≤ extra m (ptr_of child + 1)
ptr_size m h p rows s child sound said is =
    let many : count_at rows (ptr_of child) ≤ row_count m child = subst (λ (r : List (List ℕ)). length r ≤ row_count m child) (sym (said.ptrs child is)) (ptr_many m child sound is) in
    let wide : sum_by (space_of s) (columns_in (ptr_of child)) ≤ 4 = subst (λ (cs : List Column). sum_by (space_of s) cs ≤ 4) (sym (ptr_columns_are child is)) (omega (arith, sum_by-cons (space_of s) (Index child) [], column_light s (Index child))) in
    let more : extra m child ≡ row_count m child * 4 = ap (λ (b : Bool). row_count m child * (if b then 4 else 0)) is in
    let next : extra m (ptr_of child + 1) ≡ extra m child = ap (extra m) (next_child child is) in
    omega (arith, mul-le-mul many wide, more, next)

none_size : (m : Module) (rows : List (List (List ℕ))) (s : Shape) (t : ℕ) → rows_at rows t ≡ [] → table_size rows s t ≤ extra m (t + 1)
none_size m rows s t none =
    let e : table_size rows s t ≡ 0 = ap (λ (r : List (List ℕ)). length r * sum_by (space_of s) (columns_in t)) none ∙ omega arith in
    omega (arith, e)

rest_light : (m : Module) (h : Counted) (p : Placed) (rows : List (List (List ℕ))) (s : Shape) (t : ℕ) (part : Bool) → IsSound m → HoldRows m h p rows → is_part t ≡ part
    → (if part then 0 else table_size rows s t) ≤ extra m (t + 1)
rest_light m h p rows s t true sound said e = omega arith
rest_light m h p rows s t false sound said e =
    by_other (λ t. table_size rows s t ≤ extra m (t + 1)) (λ child is. ptr_size m h p rows s child sound said is) (none_size m rows s tables.enc_log said.log) (none_size m rows s tables.enc_map said.map) t e

table_light : (m : Module) (h : Counted) (p : Placed) (rows : List (List (List ℕ))) (s : Shape) (t : ℕ) (part : Bool) → HoldRows m h p rows → is_part t ≡ part
    → table_size rows s t ≤ own m t + (if part then 0 else table_size rows s t)
table_light m h p rows s t true said e =
    let many : count_at rows t ≡ row_count m t = (said.parts t e).count in
    let most : count_at rows t ≤ row_count m t = omega (arith, many) in
    omega (arith, mul-le-mul most (columns_light s (columns_in t)))
table_light m h p rows s t false said e = omega arith

weight_apart : (m : Module) (t : ℕ) → row_count m t * row_weight t ≡ own m t + extra m t
unfolding row_weight
weight_apart m t = mul-add (row_count m t) (sum_by column_weight (columns_in t)) (if is_child_table t then 4 else 0)

sum_same : (f g : ℕ → ℕ) (n : ℕ) → ((k : ℕ) → f k ≡ g k) → sum_below f n ≡ sum_below g n
sum_same f g zero each = omega (arith, sum_none f, sum_none g)
sum_same f g (suc n) each = omega (arith, sum_suc f n, sum_suc g n, sum_same f g n each, each n)

tables_light : (m : Module) (h : Counted) (p : Placed) (rows : List (List (List ℕ))) (s : Shape) → IsSound m → HoldRows m h p rows → sum_below (table_size rows s) 64 ≤ rows_weight m
unfolding rows_weight
tables_light m h p rows s sound said =
    let rest = rest_size rows s in
    let a : sum_below (table_size rows s) 64 ≤ sum_below (λ t. own m t + rest t) 64 = sum_within (table_size rows s) (λ t. own m t + rest t) 64 (λ t low. table_light m h p rows s t (is_part t) said refl) in
    let b = sum_both (own m) rest 64 in
    let c : sum_below rest 63 ≤ sum_below (λ t. extra m (t + 1)) 63 = sum_within rest (λ t. extra m (t + 1)) 63 (λ t low. rest_light m h p rows s t (is_part t) sound said refl) in
    let d : sum_below rest 64 ≡ sum_below rest 63 + rest 63 = sum_suc rest 63 in
    let last : rest 63 ≡ 0 = refl in
    let f = sum_shift (extra m) 63 in
    let g = sum_both (own m) (extra m) 64 in
    let w : sum_below (λ t. row_count m t * row_weight t) 64 ≡ sum_below (λ t. own m t + extra m t) 64 = sum_same (λ t. row_count m t * row_weight t) (λ t. own m t + extra m t) 64 (λ t. weight_apart m t) in
    omega (arith, a, b, c, d, last, f, g, w)

-- and so the table stream
count_few : (rows : List (List (List ℕ))) (t : ℕ) → length (count_written rows t) ≤ 4
count_few rows t = by_some (nat_lt 0 (count_at rows t))
  where
    by_some : (b : Bool) → length (if b then to_le_bytes w32 (count_at rows t) else []) ≤ 4
    by_some true = omega arith
    by_some false = omega arith

pieces_few : (f : ℕ → List ℕ) (n : ℕ) → ((k : ℕ) → length (f k) ≤ 4) → sum_below (λ k. length (f k)) n ≤ 4 * n
pieces_few f zero each = omega (arith, sum_none (λ k. length (f k)))
pieces_few f (suc n) each = omega (arith, sum_suc (λ k. length (f k)) n, pieces_few f n each, each n)

more_few : (flags : ℕ) → length (more_data flags) ≤ 4
more_few flags = by_bit (flags / 0x40 % 2 == 1)
  where
    by_bit : (b : Bool) → length {A = ℕ} (if b then replicate 4 0 else []) ≤ 4
    by_bit true = omega arith
    by_bit false = omega arith

header_length : (valid flags : ℕ) → length (header_written valid flags) ≡ 24
header_length valid flags = refl

pub stream_light : (m : Module) (h : Counted) (p : Placed) (rows : List (List (List ℕ))) (jtd : Bool) (flags : ℕ) → IsSound m → AreRows rows → HoldRows m h p rows
    → length (stream_of rows jtd flags) ≤ 284 + rows_weight m
unfolding stream_of
stream_light m h p rows jtd flags sound are said =
    let s = shape_of rows jtd flags in
    let head = header_written (valid_of rows) flags in
    let counts = flat_map (count_written rows) (below 64) in
    let all = flat_map (table_written rows s) (below 64) in
    let a = length-append (head ++ counts ++ more_data flags) all in
    let b = length-append (head ++ counts) (more_data flags) in
    let c = length-append head counts in
    let d : length counts ≡ sum_below (λ t. length (count_written rows t)) 64 = pieces_length (count_written rows) (λ t. length (count_written rows t)) 64 (λ k low. refl) in
    let e : length all ≡ sum_below (table_size rows s) 64 = pieces_length (table_written rows s) (table_size rows s) 64 (λ k low. table_length rows s k are) in
    omega (arith, a, b, c, d, e, header_length (valid_of rows) flags, pieces_few (count_written rows) 64 (count_few rows), more_few flags, tables_light m h p rows s sound said)
