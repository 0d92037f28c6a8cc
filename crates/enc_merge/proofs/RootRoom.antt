-- The metadata of the merged delta has fewer than 2^32 bytes.
use Rattle.std.proofs.Common.{◌≡◌, ℕ, zero, suc, ◌+◌, ◌*◌, ◌<◌, ◌≤◌, Bool, true, false, inl, inr, List, [], ◌∷◌, ◌++◌, length, flat_map, replicate, refl, sym, ap, ◌∙◌, arith, length-append}
use Rattle.std.specs.Prelude.{◌^◌, ◌==◌, sum_by, codes, if◌then◌else◌, nat_lt, nat_le, ◌/◌, ◌%◌}
use Rattle.std.specs.List.{list_all}
use Rattle.std.specs.Int.{w32, to_le_bytes}
use Rattle.std.proofs.Math.Nat.{mul-le-mul}
use Rattle.std.proofs.lemmas.Bool.{cases_Bool}
use Rattle.std.proofs.lemmas.Bool.Decides.{nat_tests}
use Rattle.std.proofs.lemmas.List.{length-map}
use Rattle.std.proofs.lemmas.List.Sums.{sum_by-cons}
use Rattle.enc_base.specs.Numbers.{padded}
use Rattle.enc_base.specs.declared.token.Token.{Token}
use Rattle.enc_meta.specs.Heaps.{Counted}
use Rattle.enc_meta.specs.Joined.{guid_entries}
use Rattle.enc_emit.specs.Written.{root_size}
use Rattle.enc_plain.specs.Chain.{Chain}
use Rattle.enc_rows.specs.Source.{Source}
use Rattle.enc_rows.specs.Sums.{below, sum_below}
use Rattle.enc_rows.specs.Written.{rows_at, count_at, valid_of, shape_of, table_written, count_written, more_data, header_written, stream_of, heap_bits, AreRows}
use Rattle.enc_rows.proofs.Below.{all_false, sum_none, sum_suc}
use Rattle.enc_rows.proofs.Lengths.{Sizes, sizes, rows_length}
use Rattle.enc_rows.proofs.Stands.{pieces_length}
use Rattle.enc_schema.specs.Schema.{schema, list_at, columns_in}
use Rattle.enc_schema.specs.Widths.{Shape, width_of, space_of}
use Rattle.enc_schema.specs.declared.column.Column.{Column}
use Rattle.enc_delta.specs.Delta.{of_table}
use Rattle.enc_delta.specs.Rules.{heaps_after}
use Rattle.enc_delta.proofs.Unbroken.{landed}
use Rattle.enc_agg.specs.Extend.{extended}
use Rattle.enc_agg.specs.Seen.{History}
use Rattle.enc_merged_delta.specs.Merged.{after_both, guids_joined, has_tokens}
use Rattle.enc_merged_delta.proofs.HeapLengths.{few_guids, guids_long, room}
use Rattle.enc_merge.specs.Writing.{AreLast, AreBothTables, Both, heaps_put, tokens_of}
use Rattle.enc_merge.proofs.TokenRows.{as_many}

-- a column takes at most four bytes, and a table has at most nine
four_most : (width space : ℕ) → Sizes width space → space ≤ 4
four_most width space (inl e) = omega (arith, e.1)
four_most width space (inr (inl e)) = omega (arith, e.1)
four_most width space (inr (inr e)) = omega (arith, e.1)

column_few : (s : Shape) (c : Column) → space_of s c ≤ 4
column_few s c = four_most (width_of s c) (space_of s c) (sizes s c)

columns_few : (s : Shape) (cs : List Column) → sum_by (space_of s) cs ≤ 4 * length cs
columns_few s [] = omega arith
columns_few s (c ∷ cs) = omega (arith, sum_by-cons (space_of s) c cs, column_few s c, columns_few s cs)

is_narrow : ℕ → Bool
is_narrow table = nat_le (length (list_at schema table)) 9

all_narrow : list_all is_narrow (below 64) ≡ true
unfolding is_narrow below
all_narrow = refl

narrow : (table : ℕ) → table < 64 → length (list_at schema table) ≤ 9
unfolding is_narrow
narrow table low = elim (cases_Bool (is_narrow table)) [
  | inl few ↦ grind (arith, nat_tests, few)
  | inr many ↦ let bad : false ≡ true = sym (all_false is_narrow table 64 low many) ∙ all_narrow in absurd cc
]

row_few : (s : Shape) (table : ℕ) → table < 64 → sum_by (space_of s) (columns_in table) ≤ 36
unfolding columns_in
row_few s table low =
    let few = columns_few s (list_at schema table) in
    let nine = narrow table low in
    omega (arith, few, nine)

-- the rows of the tables with tokens are as many as these, and the others have fewer than 2^24 each
abbrev table_size : List (List (List ℕ)) → Shape → ℕ → ℕ
table_size rows s t = count_at rows t * sum_by (space_of s) (columns_in t)

abbrev own_size : List Token → ℕ → ℕ
own_size ts t = 36 * length (of_table t ts)

abbrev other_size : ℕ → ℕ
other_size t = if has_tokens t then 0 else 0x24000000

table_few : (x : Both) (numbers : List ℕ) (rows : List (List (List ℕ))) (s : Shape) (t : ℕ) → AreRows rows → AreBothTables x numbers rows → t < 64
    → table_size rows s t ≤ own_size (tokens_of numbers) t + other_size t
table_few x numbers rows s t are held low = by (has_tokens t) refl
  where
    by : (b : Bool) → has_tokens t ≡ b → table_size rows s t ≤ own_size (tokens_of numbers) t + (if b then 0 else 0x24000000)
    by true has =
        let many = as_many x (of_table t (tokens_of numbers)) (rows_at rows t) (held.listed t has) in
        let most : count_at rows t ≤ length (of_table t (tokens_of numbers)) = omega (arith, many) in
        omega (arith, mul-le-mul most (row_few s t low))
    by false none =
        let few = are.few t in
        let most : count_at rows t ≤ 0x1000000 = omega (arith, few) in
        omega (arith, mul-le-mul most (row_few s t low))

sum_within : (f g : ℕ → ℕ) (n : ℕ) → ((k : ℕ) → k < n → f k ≤ g k) → sum_below f n ≤ sum_below g n
sum_within f g zero each = omega (arith, sum_none f, sum_none g)
sum_within f g (suc n) each = omega (arith, sum_suc f n, sum_suc g n, sum_within f g n (λ k low. each k (omega (arith, low))), each n (omega arith))

sum_both : (f g : ℕ → ℕ) (n : ℕ) → sum_below (λ k. f k + g k) n ≡ sum_below f n + sum_below g n
sum_both f g zero = omega (arith, sum_none f, sum_none g, sum_none (λ k. f k + g k))
sum_both f g (suc n) = omega (arith, sum_suc f n, sum_suc g n, sum_suc (λ k. f k + g k) n, sum_both f g n)

sum_times : (a : ℕ) (f : ℕ → ℕ) (n : ℕ) → sum_below (λ k. a * f k) n ≡ a * sum_below f n
sum_times a f zero = rw (sum_none f) (sum_none (λ k. a * f k) ∙ omega arith)
sum_times a f (suc n) = rw (sum_suc f n, sum_suc (λ k. a * f k) n, sum_times a f n) (omega arith)

others_sum : sum_below other_size 64 ≡ 0x6C000000
unfolding sum_below
others_sum = refl

-- each token is of one table
abbrev one_of : ℕ → ℕ → ℕ
one_of table t = if table == t then 1 else 0

none_below : (table n : ℕ) → n ≤ table → sum_below (one_of table) n ≡ 0
none_below table zero low = sum_none (one_of table)
none_below table (suc n) low =
    let apart : (table == n) ≡ false = grind (arith, nat_tests, low) in
    let last : one_of table n ≡ 0 = rw apart refl in
    omega (arith, sum_suc (one_of table) n, none_below table n (omega (arith, low)), last)

one_table : (table n : ℕ) → sum_below (one_of table) n ≤ 1
one_table table zero = omega (arith, sum_none (one_of table))
one_table table (suc n) = elim (cases_Bool (table == n)) [
  | inl same ↦
      let is : table ≡ n = grind (arith, nat_tests, same) in
      let last : one_of table n ≡ 1 = rw same refl in
      omega (arith, sum_suc (one_of table) n, none_below table n (omega (arith, is)), last)
  | inr apart ↦
      let last : one_of table n ≡ 0 = rw apart refl in
      omega (arith, sum_suc (one_of table) n, one_table table n, last)
]

table_more : (u : Token) (ts : List Token) (t : ℕ) → length (of_table t (u ∷ ts)) ≡ one_of u.table t + length (of_table t ts)
table_more u ts t = by (u.table == t) refl
  where
    by : (b : Bool) → (u.table == t) ≡ b → length (of_table t (u ∷ ts)) ≡ (if b then 1 else 0) + length (of_table t ts)
    by true is = rw is (omega arith)
    by false is = rw is (omega arith)

sum_same : (f g : ℕ → ℕ) (n : ℕ) → ((k : ℕ) → f k ≡ g k) → sum_below f n ≡ sum_below g n
sum_same f g zero each = omega (arith, sum_none f, sum_none g)
sum_same f g (suc n) each = omega (arith, sum_suc f n, sum_suc g n, sum_same f g n each, each n)

zeros_sum : (n : ℕ) → sum_below (λ k. 0) n ≡ 0
zeros_sum zero = sum_none (λ k. 0)
zeros_sum (suc n) = omega (arith, sum_suc (λ k. 0) n, zeros_sum n)

tokens_sum : (ts : List Token) (n : ℕ) → sum_below (λ t. length (of_table t ts)) n ≤ length ts
tokens_sum [] n = let zeros = zeros_sum n in omega (arith, zeros)
tokens_sum (u ∷ ts) n =
    let same = sum_same (λ t. length (of_table t (u ∷ ts))) (λ t. one_of u.table t + length (of_table t ts)) n (λ t. table_more u ts t) in
    let both = sum_both (one_of u.table) (λ t. length (of_table t ts)) n in
    omega (arith, same, both, one_table u.table n, tokens_sum ts n)

tables_few : (x : Both) (numbers : List ℕ) (rows : List (List (List ℕ))) (s : Shape) → AreRows rows → AreBothTables x numbers rows → length numbers < 2 ^ 24 → sum_below (table_size rows s) 64 ≤ 0x90000000
tables_few x numbers rows s are held few =
    let a = sum_within (table_size rows s) (λ t. own_size (tokens_of numbers) t + other_size t) 64 (λ t low. table_few x numbers rows s t are held low) in
    let b = sum_both (own_size (tokens_of numbers)) other_size 64 in
    let e = sum_times 36 (λ t. length (of_table t (tokens_of numbers))) 64 in
    let m = tokens_sum (tokens_of numbers) 64 in
    let n : length (tokens_of numbers) ≡ length numbers = length-map numbers _ in
    let o = others_sum in
    omega (arith, a, b, e, m, n, o, few)

-- the table stream
count_few : (rows : List (List (List ℕ))) (t : ℕ) → length (count_written rows t) ≤ 4
count_few rows t = by_some (nat_lt 0 (count_at rows t))
  where
    by_some : (b : Bool) → length (if b then to_le_bytes w32 (count_at rows t) else []) ≤ 4
    by_some true = omega arith
    by_some false = omega arith

pieces_few : (f : ℕ → List ℕ) (n : ℕ) → ((k : ℕ) → length (f k) ≤ 4) → sum_below (λ k. length (f k)) n ≤ 4 * n
pieces_few f zero each = omega (arith, sum_none (λ k. length (f k)))
pieces_few f (suc n) each = omega (arith, sum_suc (λ k. length (f k)) n, pieces_few f n each, each n)

more_few : (flags : ℕ) → length (more_data flags) ≤ 4
more_few flags = by_bit (flags / 0x40 % 2 == 1)
  where
    by_bit : (b : Bool) → length {A = ℕ} (if b then replicate 4 0 else []) ≤ 4
    by_bit true = omega arith
    by_bit false = omega arith

header_length : (valid flags : ℕ) → length (header_written valid flags) ≡ 24
header_length valid flags = refl

table_length : (rows : List (List (List ℕ))) (s : Shape) (t : ℕ) → AreRows rows → length (table_written rows s t) ≡ table_size rows s t
unfolding table_written
table_length rows s t are = rows_length s (columns_in t) (rows_at rows t) (are.cells t)

stream_few : (rows : List (List (List ℕ))) (jtd : Bool) (flags : ℕ) → AreRows rows → sum_below (table_size rows (shape_of rows jtd flags)) 64 ≤ 0x90000000 → length (stream_of rows jtd flags) ≤ 284 + 0x90000000
unfolding stream_of
stream_few rows jtd flags are few =
    let s = shape_of rows jtd flags in
    let head = header_written (valid_of rows) flags in
    let counts = flat_map (count_written rows) (below 64) in
    let all = flat_map (table_written rows s) (below 64) in
    let a = length-append (head ++ counts ++ more_data flags) all in
    let b = length-append (head ++ counts) (more_data flags) in
    let x = length-append head counts in
    let d : length counts ≡ sum_below (λ t. length (count_written rows t)) 64 = pieces_length (count_written rows) (λ t. length (count_written rows t)) 64 (λ k low. refl) in
    let e : length all ≡ sum_below (table_size rows s) 64 = pieces_length (table_written rows s) (table_size rows s) 64 (λ k low. table_length rows s k are) in
    omega (arith, a, b, x, d, e, header_length (valid_of rows) flags, pieces_few (count_written rows) 64 (count_few rows), more_few flags, few)

-- the heaps
abbrev heaps_length : Counted → ℕ
heaps_length h = length h.strings + length h.users + length h.blobs + length h.guids

after_heaps : (c : Chain) (a b : Source) → (after_both c a b).heaps ≡ heaps_after (extended c a) b
unfolding extended
after_heaps c a b = refl

heaps_few : (h : History) (x : Both) → AreLast h x → heaps_length (heaps_put x) ≤ 3 * 2 ^ 29 + 2 ^ 24
unfolding heaps_put
heaps_few h x are =
    let kept = (landed (extended x.chain x.first) x.second are.second.lands.early).heaps in
    let have = room x.chain x.first x.second kept in
    let t = have.strings in
    let u = have.users in
    let v = have.blobs in
    let few = few_guids (extended x.chain x.first) x.second kept in
    let long : length (guids_joined (after_both x.chain x.first x.second).heaps) ≡ 16 * guid_entries (heaps_after (extended x.chain x.first) x.second) =
    guids_long (after_both x.chain x.first x.second).heaps ∙ ap (λ heaps. 16 * guid_entries heaps) (after_heaps x.chain x.first x.second) in
    let strings = length-append x.first.heaps.strings x.second.heaps.strings in
    let users = length-append x.first.heaps.users x.second.heaps.users in
    let blobs = length-append x.first.heaps.blobs x.second.heaps.blobs in
    omega (arith, t, u, v, few, long, strings, users, blobs)

-- the root
padded_few : (n : ℕ) → padded n ≤ n + 3
unfolding padded
padded_few n = omega arith

size_few : (stream : List ℕ) (h : Counted) → root_size true stream h ≤ length stream + heaps_length h + 142
size_few stream h =
    let name : length (codes "#JTD") ≡ 4 = refl in
    omega (arith, name, padded_few (length (codes "#JTD") + 1), padded_few (length {A = ℕ} []), padded_few (length stream), padded_few (length h.strings), padded_few (length h.users), padded_few (length h.guids), padded_few (length h.blobs))

pub root_fits : (h : History) (x : Both) (numbers : List ℕ) (rows : List (List (List ℕ))) → AreLast h x → AreRows rows → AreBothTables x numbers rows → length numbers < 2 ^ 24
    → root_size true (stream_of rows true (heap_bits rows)) (heaps_put x) < 2 ^ 32
root_fits h x numbers rows last are held few =
    let stream = stream_few rows true (heap_bits rows) are (tables_few x numbers rows (shape_of rows true (heap_bits rows)) are held few) in
    let size = size_few (stream_of rows true (heap_bits rows)) (heaps_put x) in
    let heaps = heaps_few h x last in
    omega (arith, stream, size, heaps)
