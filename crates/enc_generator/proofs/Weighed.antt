-- What the heaps of a module of few light rows take, and what it weighs.
use Rattle.std.proofs.Common.{◌≡◌, ℕ, zero, suc, ◌+◌, ◌*◌, ◌≤◌, Bool, true, false, List, [], ◌∷◌, ◌++◌, length, Option, Some, None, refl, ap, ◌∙◌, arith, length-append, if◌then◌else◌}
use Rattle.std.specs.Prelude.{slice_get, sum_by, flat_map, nat_lt, nat_le, option_and_then}
use Rattle.std.specs.List.{list_all}
use Rattle.std.proofs.lemmas.Bool.{and_parts}
use Rattle.std.proofs.lemmas.Bool.Decides.{nat_tests}
use Rattle.std.proofs.lemmas.List.Sums.{sum_by-cons, sum_by-append}
use Rattle.enc_base.specs.Numbers.{spelled, one_byte, two_bytes, four_bytes}
use Rattle.enc_base.specs.Token.{nth_row}
use Rattle.enc_base.specs.declared.token.Token.{Token}
use Rattle.enc_meta.specs.Built.{Built, is_kept, is_guid_kept, with_value, with_entry, text_bytes, user_bytes, blob_bytes, joined_end, joined_size}
use Rattle.enc_schema.specs.Children.{is_child_table}
use Rattle.enc_schema.specs.Schema.{list_at, schema, columns_in}
use Rattle.enc_schema.specs.declared.column.Column.{Column}
use Rattle.enc_base.specs.Tables.{method_def, field_rva}
use Rattle.enc_opcodes.specs.Body.{Body}
use Rattle.enc_plain.specs.Cell.{Cell, text, blob, guid, body, field}
use Rattle.enc_plain.specs.Module.{Module, Row, rows_in, row_of, cell_of}
use Rattle.enc_plain.specs.Sound.{row_count}
use Rattle.enc_rows.specs.Sums.{below, sum_below}
use Rattle.enc_rewriter.proofs.Gathered.{starts_after}
use Rattle.enc_rewriter.specs.Values.{values_for, values_if, with_one, with_all, values_at, values_of_row, values_of_table, all_values, no_starts, no_heaps, heaps_for, heap_size}
use Rattle.enc_rewriter.specs.Weight.{column_weight, row_weight, rows_weight, heaps_weight, body_weight, bodies_weight, field_weight, fields_weight, module_weight}
use Rattle.enc_rewriter.specs.declared.pass.Pass.{Pass}
use Rattle.enc_rewriter.specs.declared.pass.Pass.TheVariants as pass
use Rattle.enc_generator.proofs.Sums.{AllHave, brought, sums_of_few, flat_few, below_few, within_all, list_brought}
use Rattle.enc_generator.proofs.Light.{cell_load, cells_load, light_load, AreLightRows, IsLittle}

-- what a value takes in the heap of a pass, and what all do
abbrev pub cost : Pass → List ℕ → ℕ
cost pass.Texts v = length (text_bytes v)
cost pass.Users v = length (user_bytes v)
cost pass.Blobs v = length (blob_bytes v)
cost pass.Guids v = 16

abbrev pub costs : Pass → List (List ℕ) → ℕ
costs p values = sum_by (cost p) values

abbrev pub heaps_load : Built → ℕ
heaps_load h = costs pass.Texts h.texts + costs pass.Users h.users + costs pass.Blobs h.blobs + 16 * length h.guids

-- one value more takes no more than its own bytes
value_more : (f : List ℕ → ℕ) (values : List (List ℕ)) (v : List ℕ) → sum_by f (with_value values v) ≤ sum_by f values + f v
unfolding with_value
value_more f values v = by (is_kept values v)
  where
    by : (b : Bool) → sum_by f (if b then values else values ++ v ∷ []) ≤ sum_by f values + f v
    by true = omega arith
    by false = let n = sum_by-append f values (v ∷ []) in omega (arith, n)

entry_more : (guids : List (List ℕ)) (g : List ℕ) → length (with_entry guids g) ≤ length guids + 1
unfolding with_entry
entry_more guids g = by (is_guid_kept guids g)
  where
    by : (b : Bool) → length (if b then guids else guids ++ g ∷ []) ≤ length guids + 1
    by true = omega arith
    by false = let n = length-append guids (g ∷ []) in omega (arith, n)

pub one_more : (p : Pass) (h : Built) (v : List ℕ) → heaps_load (with_one p h v) ≤ heaps_load h + cost p v
one_more pass.Texts h v = let n = value_more (cost pass.Texts) h.texts v in omega (arith, n)
one_more pass.Users h v = let n = value_more (cost pass.Users) h.users v in omega (arith, n)
one_more pass.Blobs h v = let n = value_more (cost pass.Blobs) h.blobs v in omega (arith, n)
one_more pass.Guids h v = let n = entry_more h.guids v in omega (arith, n)

all_more : (p : Pass) (h : Built) (values : List (List ℕ)) → heaps_load (with_all p h values) ≤ heaps_load h + costs p values
unfolding with_all
all_more p h [] = omega arith
all_more p h (v ∷ values) =
    let own = one_more p h v in
    let rest = all_more p (with_one p h v) values in
    let n = sum_by-cons (cost p) v values in
    omega (arith, own, rest, n)

nothing_yet : heaps_load no_heaps ≡ 0
unfolding no_heaps
nothing_yet = refl

pub heaps_by : (m : Module) → heaps_load (heaps_for m) ≤ costs pass.Texts (all_values pass.Texts m) + costs pass.Users (all_values pass.Users m) + costs pass.Blobs (all_values pass.Blobs m) + costs pass.Guids (all_values pass.Guids m)
unfolding heaps_for
heaps_by m =
    let none = nothing_yet in
    let texts = all_more pass.Texts no_heaps (all_values pass.Texts m) in
    let users = all_more pass.Users (with_all pass.Texts no_heaps (all_values pass.Texts m)) (all_values pass.Users m) in
    let blobs = all_more pass.Blobs (with_all pass.Users (with_all pass.Texts no_heaps (all_values pass.Texts m)) (all_values pass.Users m)) (all_values pass.Blobs m) in
    let guids = all_more pass.Guids (with_all pass.Blobs (with_all pass.Users (with_all pass.Texts no_heaps (all_values pass.Texts m)) (all_values pass.Users m)) (all_values pass.Blobs m)) (all_values pass.Guids m) in
    omega (arith, none, texts, users, blobs, guids)

starts_none : (m : Module) → (heaps_for m).starts ≡ no_starts
unfolding heaps_for no_heaps
starts_none m = starts_after pass.Guids _ _ ∙ starts_after pass.Blobs _ _ ∙ starts_after pass.Users _ _ ∙ starts_after pass.Texts no_heaps (all_values pass.Texts m)

-- a heap behind no others takes one byte more than its values
size_by : (p : Pass) (h : Built) → h.starts ≡ no_starts → heap_size p h ≤ 1 + heaps_load h
unfolding joined_end
size_by pass.Texts h none = rw none (omega arith)
size_by pass.Users h none = rw none (omega arith)
size_by pass.Blobs h none = rw none (omega arith)
size_by pass.Guids h none = rw none (omega arith)

joined_by : (h : Built) → h.starts ≡ no_starts → joined_size h ≤ 3 + heaps_load h
unfolding joined_size joined_end
joined_by h none = rw none (omega arith)

-- a cell has no values that take more than it does
pub spelled_few : (n : ℕ) → length (spelled n) ≤ 4
spelled_few n = by (nat_lt n 0x80) (nat_lt n 0x4000)
  where
    by : (a b : Bool) → length (if a then one_byte n else if b then two_bytes n else four_bytes n) ≤ 4
    by true b = omega arith
    by false true = omega arith
    by false false = omega arith

pub text_cost : (v : List ℕ) → cost pass.Texts v ≡ length v + 1
text_cost v = length-append v (0 ∷ [])

pub blob_cost : (v : List ℕ) → cost pass.Blobs v ≤ length v + 4
blob_cost v = let n = length-append (spelled (length v)) v in let few = spelled_few (length v) in omega (arith, n, few)

users_cost : (o : Option Body) → costs pass.Users (values_for pass.Users (body o)) ≤ cell_load (body o)
users_cost None = omega arith
users_cost (Some b) = omega arith

cell_costs : (p : Pass) (c : Cell) → costs p (values_for p c) ≤ cell_load c
cell_costs pass.Texts (text v) = let n = text_cost v in omega (arith, n)
cell_costs pass.Users (body o) = users_cost o
cell_costs pass.Blobs (blob v) = let n = blob_cost v in omega (arith, n)
cell_costs pass.Guids (guid v) = omega arith
cell_costs p c = omega arith

abbrev row_load : Row → ℕ
row_load r = cells_load r.cells

abbrev rows_load : List Row → ℕ
rows_load rows = sum_by row_load rows

cell_by : (p : Pass) (o : Option Cell) → costs p (values_if p o) ≤ brought cell_load o
cell_by p None = omega arith
cell_by p (Some c) = cell_costs p c

-- so no row, no table and no module has
row_by : (p : Pass) (o : Option Row) (n : ℕ) → sum_by (cost p) (flat_map (λ i. values_if p (option_and_then (λ (r : Row). slice_get r.cells i) o)) (below n)) ≤ brought row_load o
unfolding below
row_by p None n = flat_few (cost p) (λ i. values_if p None) cell_load [] 0 n (λ i. omega arith)
row_by p (Some r) n = flat_few (cost p) (λ i. values_if p (slice_get r.cells i)) cell_load r.cells 0 n (λ i. let e : 0 + i ≡ i = omega arith in rw e (cell_by p (slice_get r.cells i)))

row_costs : (p : Pass) (m : Module) (u : Token) → costs p (values_of_row p m u) ≤ brought row_load (row_of m u)
unfolding values_of_row values_at cell_of
row_costs p m u = row_by p (row_of m u) (length (columns_in u.table))

nth_is : (m : Module) (t n : ℕ) → row_of m (nth_row t n) ≡ slice_get (rows_in m t) n
unfolding row_of
nth_is m t n = let e : n + 1 ≡ suc n = omega arith in rw e refl

table_costs : (p : Pass) (m : Module) (t : ℕ) → costs p (values_of_table p m t) ≤ rows_load (list_at m.tables t)
unfolding values_of_table below
table_costs p m t = flat_few (cost p) (λ n. values_of_row p m (nth_row t n)) row_load (rows_in m t) 0 (row_count m t) (λ n.
    let e : 0 + n ≡ n = omega arith in
    rw e (rw (nth_is m t n) at (row_costs p m (nth_row t n))))

tables_costs : (p : Pass) (m : Module) (n : ℕ) → costs p (flat_map (values_of_table p m) (below n)) ≤ sum_by rows_load m.tables
unfolding below
tables_costs p m n = flat_few (cost p) (values_of_table p m) rows_load m.tables 0 n (λ t.
    let e : 0 + t ≡ t = omega arith in
    rw e (rw (list_brought rows_load m.tables t refl) at (table_costs p m t)))

all_costs : (p : Pass) (m : Module) → costs p (all_values p m) ≤ sum_by rows_load m.tables
unfolding all_values
all_costs p m = tables_costs p m 64

-- light rows take little
row_few : (rows : List Row) → AreLightRows rows → AllHave (λ (r : Row). row_load r ≤ 128) rows
row_few [] light = tt
row_few (r ∷ rows) light = (light_load r.cells light.0, row_few rows light.1)

rows_few : (tables : List (List Row)) → AllHave AreLightRows tables → AllHave (AllHave (λ (r : Row). row_load r ≤ 128)) tables
rows_few [] light = tt
rows_few (rows ∷ tables) light = (row_few rows light.0, rows_few tables light.1)

all_load : (n : ℕ) (m : Module) → IsLittle n m → sum_by rows_load m.tables ≤ 128 * n
all_load n m little =
    let all = sums_of_few row_load 128 m.tables (rows_few m.tables little.rows) in
    let few = little.few in
    omega (arith, all, few)

pub heaps_few : (n : ℕ) (m : Module) → IsLittle n m → heaps_load (heaps_for m) ≤ 512 * n
heaps_few n m little =
    let all = all_load n m little in
    let heaps = heaps_by m in
    let texts = all_costs pass.Texts m in
    let users = all_costs pass.Users m in
    let blobs = all_costs pass.Blobs m in
    let guids = all_costs pass.Guids m in
    omega (arith, all, heaps, texts, users, blobs, guids)

pub size_few : (p : Pass) (n : ℕ) (m : Module) → IsLittle n m → heap_size p (heaps_for m) ≤ 1 + 512 * n
size_few p n m little =
    let size = size_by p (heaps_for m) (starts_none m) in
    let few = heaps_few n m little in
    omega (arith, size, few)

-- rows by their columns
columns_few : list_all (λ (cs : List Column). nat_le (sum_by column_weight cs) 36) schema ≡ true
columns_few = refl

few_at : (lists : List (List Column)) (t : ℕ) → list_all (λ (cs : List Column). nat_le (sum_by column_weight cs) 36) lists ≡ true → sum_by column_weight (list_at lists t) ≤ 36
few_at [] t all = omega arith
few_at (cs ∷ lists) zero all = let own = (and_parts (nat_le (sum_by column_weight cs) 36) _ all).0 in grind (arith, nat_tests, own)
few_at (cs ∷ lists) (suc t) all = few_at lists t (and_parts (nat_le (sum_by column_weight cs) 36) _ all).1

row_weighs : (t : ℕ) → row_weight t ≤ 40
unfolding row_weight columns_in
row_weighs t = by (is_child_table t)
  where
    by : (b : Bool) → sum_by column_weight (list_at schema t) + (if b then 4 else 0) ≤ 40
    by true = let few = few_at schema t columns_few in omega (arith, few)
    by false = let few = few_at schema t columns_few in omega (arith, few)

times : (a b : ℕ) → b ≤ 40 → a * b ≤ 40 * a
times a b h = grind (arith, h)

table_weighs : (m : Module) (t : ℕ) → row_count m t * row_weight t ≤ 40 * length (list_at m.tables t)
table_weighs m t = times (row_count m t) (row_weight t) (row_weighs t)

scaled : (lists : List (List Row)) → sum_by (λ (rows : List Row). 40 * length rows) lists ≡ 40 * sum_by (λ (rows : List Row). length rows) lists
scaled [] = refl
scaled (rows ∷ lists) =
    let a = sum_by-cons (λ (rows : List Row). 40 * length rows) rows lists in
    let b = sum_by-cons (λ (rows : List Row). length rows) rows lists in
    let rest = scaled lists in
    omega (arith, a, b, rest)

rows_weigh : (n : ℕ) (m : Module) → IsLittle n m → rows_weight m ≤ 40 * n
unfolding rows_weight
rows_weigh n m little =
    let all = below_few (λ t. row_count m t * row_weight t) (λ (rows : List Row). 40 * length rows) m.tables 64 (λ t. rw (list_brought (λ (rows : List Row). 40 * length rows) m.tables t refl) at (table_weighs m t)) in
    let scale = scaled m.tables in
    let few = little.few in
    omega (arith, all, scale, few)

-- bodies and fields
first_few : (f : Option Cell → ℕ) → f None ≡ 0 → ((c : Cell) → f (Some c) ≤ cell_load c) → (o : Option Row) → f (option_and_then (λ (r : Row). slice_get r.cells 0) o) ≤ brought row_load o
first_few f none each None = omega (arith, none)
first_few f none each (Some r) = by r.cells
  where
    by : (cells : List Cell) → f (slice_get cells 0) ≤ cells_load cells
    by [] = omega (arith, none)
    by (c ∷ cells) = let n = sum_by-cons cell_load c cells in let own = each c in omega (arith, n, own)

firsts_few : (f : Option Cell → ℕ) (n : ℕ) (m : Module) (t k : ℕ) → f None ≡ 0 → ((c : Cell) → f (Some c) ≤ cell_load c) → IsLittle n m → sum_below (λ i. f (cell_of m (nth_row t i) 0)) k ≤ 128 * n
unfolding cell_of
firsts_few f n m t k none each little =
    let own = below_few (λ i. f (cell_of m (nth_row t i) 0)) row_load (rows_in m t) k (λ i. rw (← (nth_is m t i)) (first_few f none each (row_of m (nth_row t i)))) in
    let all = within_all rows_load m.tables t refl in
    let few = all_load n m little in
    omega (arith, own, all, few)

body_few : (c : Cell) → body_weight (Some c) ≤ cell_load c
body_few (body None) = omega arith
body_few (body (Some b)) = omega arith
body_few c = omega arith

field_few : (c : Cell) → field_weight (Some c) ≤ cell_load c
field_few (field there) = omega arith
field_few c = omega arith

bodies_weigh : (n : ℕ) (m : Module) → IsLittle n m → bodies_weight m ≤ 128 * n
unfolding bodies_weight
bodies_weigh n m little = firsts_few body_weight n m method_def (row_count m method_def) refl body_few little

fields_weigh : (n : ℕ) (m : Module) → IsLittle n m → fields_weight m ≤ 128 * n
unfolding fields_weight
fields_weigh n m little = firsts_few field_weight n m field_rva (row_count m field_rva) refl field_few little

-- a module of few light rows weighs little
pub module_weighs : (n : ℕ) (m : Module) → IsLittle n m → module_weight m (heaps_for m) ≤ 65547 + 808 * n
unfolding module_weight heaps_weight
module_weighs n m little =
    let rows = rows_weigh n m little in
    let joined = joined_by (heaps_for m) (starts_none m) in
    let heaps = heaps_few n m little in
    let bodies = bodies_weigh n m little in
    let fields = fields_weigh n m little in
    let bare : length m.resources ≡ 0 = ap (λ (bytes : List ℕ). length bytes) little.bare in
    omega (arith, rows, joined, heaps, bodies, fields, bare)
