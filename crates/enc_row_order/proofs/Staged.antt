-- What a stage gives: the rows of each table, each once.
use Rattle.std.proofs.Common.{◌≡◌, ℕ, zero, suc, ◌+◌, ◌<◌, ◌≤◌, ◌^◌, Bool, true, false, List, [], ◌∷◌, ◌++◌, length, map, get_or, Some, refl, sym, ap, subst}
use Rattle.std.proofs.Common.{◌∙◌, arith, inl, inr}
use Rattle.std.specs.Prelude.{◌==◌, ◌||◌, slice_get, unwrap_or, if◌then◌else◌}
use Rattle.std.specs.List.{list_all}
use Rattle.std.specs.List.Sorted.{IsPermutation}
use Rattle.std.proofs.lemmas.Bool.{cases_lt, eqb-true}
use Rattle.std.proofs.lemmas.List.Sorted.{IsPermutation-refl}
use Rattle.enc_plain.specs.Module.{Module, rows_in}
use Rattle.enc_plain.specs.Sound.{IsSound, row_count}
use Rattle.enc_rows.specs.Sums.{below}
use Rattle.enc_rows.proofs.Listed.{get_below, get_past, length_below}
use Rattle.enc_schema.specs.Children.{is_child_table, owner_table}
use Rattle.enc_schema.specs.Schema.{list_at}
use Rattle.enc_base.specs.Tables as tables
use Rattle.enc_base.specs.Tables.{table_count}
use Rattle.enc_row_order.specs.Depth.{depth}
use Rattle.enc_row_order.specs.Keyed.{sorted_key, entry_row, numbered_row, entries_numbered}
use Rattle.enc_row_order.specs.declared.sorting.KeyedRow.{KeyedRow}
use Rattle.enc_row_order.specs.Orders.{Orders, standing_rows, kids_listed, keyed_rows, order_key, goes_by_owner, by_depth, by_owner, by_method, by_key, by_param}
use Rattle.enc_row_order.specs.Orders.{by_attribute, new_order}
use Rattle.enc_row_order.specs.Places.{is_row_within}
use Rattle.enc_row_order.specs.Sorted.{sorted_by}
use Rattle.enc_row_order.specs.Stages.{stage_of, is_ordered, ordered_rows, AreOrdersOf}
use Rattle.enc_row_order.specs.declared.stage.Stage.{Stage}
use Rattle.enc_row_order.specs.declared.stage.Stage.TheVariants as stage
use Rattle.enc_row_order.proofs.Moved.{past_all}
use Rattle.enc_row_order.proofs.OneOrder.{sorted_permutes, sorted_map}
use Rattle.enc_row_order.proofs.Permuted.{kids_permute, rows_long, rows_fit, rows_fit_all, rows_few}
use Rattle.enc_row_order.proofs.Pointwise.{same_orders}
use Rattle.enc_row_order.proofs.Rowed.{more_mapped}

-- a stage orders some tables, and all others stay
methods : (m : Module) (before : Orders) (table : ℕ) (b : Bool) → (table == tables.param) ≡ b
    → (if b then kids_listed m (before tables.method_def) table else before table)
    ≡ (if b then kids_listed m (before (owner_table table)) table else before table)
methods m before table true e = let is : table ≡ tables.param = eqb-true table tables.param e in rw is refl
methods m before table false e = refl

pub stage_is : (stage : Stage) (m : Module) (before : Orders) (table : ℕ)
    → stage_of stage m before table ≡ (if is_ordered stage table then ordered_rows stage m before table else before table)
unfolding by_depth by_owner by_method by_key by_param by_attribute
stage_is stage.Depth m before table = refl
stage_is stage.Owner m before table = refl
stage_is stage.Method m before table = methods m before table (table == tables.param) refl
stage_is stage.Key m before table = refl
stage_is stage.Param m before table = refl
stage_is stage.Attribute m before table = refl

pub stage_orders : (stage : Stage) (m : Module) (before : Orders) (table : ℕ) (rows : List ℕ) → is_ordered stage table ≡ true
    → rows ≡ ordered_rows stage m before table → rows ≡ stage_of stage m before table
stage_orders stage m before table rows on is =
    is ∙ sym (stage_is stage m before table ∙ ap (λ b. if b then ordered_rows stage m before table else before table) on)

pub stage_keeps : (stage : Stage) (m : Module) (before : Orders) (table : ℕ) (rows : List ℕ) → is_ordered stage table ≡ false
    → rows ≡ before table → rows ≡ stage_of stage m before table
stage_keeps stage m before table rows off is =
    is ∙ sym (stage_is stage m before table ∙ ap (λ b. if b then ordered_rows stage m before table else before table) off)

-- tables of members and of parameters are those of children
pub members_own : (table : ℕ) → goes_by_owner table ≡ true → is_child_table table ≡ true
members_own table h = by (table == tables.field) (table == tables.method_def) (table == tables.event) (table == tables.property) refl refl refl refl h
  where
    by : (a b c d : Bool) → (table == tables.field) ≡ a → (table == tables.method_def) ≡ b → (table == tables.event) ≡ c → (table == tables.property) ≡ d
        → (a || b || c || d) ≡ true → is_child_table table ≡ true
    by true b c d e f g i h = let is : table ≡ tables.field = eqb-true table tables.field e in rw is refl
    by false true c d e f g i h = let is : table ≡ tables.method_def = eqb-true table tables.method_def f in rw is refl
    by false false true d e f g i h = let is : table ≡ tables.event = eqb-true table tables.event g in rw is refl
    by false false false true e f g i h = let is : table ≡ tables.property = eqb-true table tables.property i in rw is refl
    by false false false false e f g i h = absurd cc

pub params_own : (table : ℕ) → (table == tables.param) ≡ true → is_child_table table ≡ true
params_own table h = let is : table ≡ tables.param = eqb-true table tables.param h in rw is refl

keyed_permute : (m : Module) (before : Orders) (table : ℕ) → IsPermutation (standing_rows m table) (keyed_rows before m table)
unfolding keyed_rows
keyed_permute m before table = sorted_permutes (order_key before m table) (standing_rows m table)

pub ordered_permute : (stage : Stage) (m : Module) (tables : List (List ℕ)) (table : ℕ) → IsSound m → AreOrdersOf m tables → is_ordered stage table ≡ true
    → IsPermutation (standing_rows m table) (ordered_rows stage m (list_at tables) table)
ordered_permute stage.Depth m lists table sound are on = sorted_permutes (depth m) (standing_rows m table)
ordered_permute stage.Owner m lists table sound are on =
    kids_permute m table (members_own table on) (list_at lists (owner_table table)) sound.owners.owned (are.each (owner_table table))
ordered_permute stage.Method m lists table sound are on =
    kids_permute m table (params_own table on) (list_at lists (owner_table table)) sound.owners.owned (are.each (owner_table table))
ordered_permute stage.Key m lists table sound are on = keyed_permute m (list_at lists) table
ordered_permute stage.Param m lists table sound are on = keyed_permute m (list_at lists) table
ordered_permute stage.Attribute m lists table sound are on = keyed_permute m (list_at lists) table

pub stage_permutes : (stage : Stage) (m : Module) (tables : List (List ℕ)) → IsSound m → AreOrdersOf m tables → (table : ℕ)
    → IsPermutation (standing_rows m table) (stage_of stage m (list_at tables) table)
stage_permutes stage m lists sound are table =
    subst (IsPermutation (standing_rows m table)) (sym (stage_is stage m (list_at lists) table)) (by (is_ordered stage table) refl)
  where
    by : (b : Bool) → is_ordered stage table ≡ b
        → IsPermutation (standing_rows m table) (if b then ordered_rows stage m (list_at lists) table else list_at lists table)
    by true on = ordered_permute stage m lists table sound are on
    by false off = are.each table

-- what a stage orders is short, and lists rows
pub ordered_few : (stage : Stage) (m : Module) (tables : List (List ℕ)) (table : ℕ) (rows : List ℕ) → IsSound m → AreOrdersOf m tables
    → is_ordered stage table ≡ true → rows ≡ ordered_rows stage m (list_at tables) table → length rows < 2 ^ 24
ordered_few stage m lists table rows sound are on is =
    subst (λ xs. length xs < 2 ^ 24) (sym is)
    (rows_few m table (ordered_rows stage m (list_at lists) table) sound (ordered_permute stage m lists table sound are on))

pub ordered_fit : (stage : Stage) (m : Module) (tables : List (List ℕ)) (table : ℕ) (rows : List ℕ) → IsSound m → AreOrdersOf m tables
    → is_ordered stage table ≡ true → rows ≡ ordered_rows stage m (list_at tables) table → list_all (is_row_within (length rows)) rows ≡ true
ordered_fit stage m lists table rows sound are on is =
    subst (λ xs. list_all (is_row_within (length xs)) xs ≡ true) (sym is)
    (rows_fit_all m table (ordered_rows stage m (list_at lists) table) (ordered_permute stage m lists table sound are on))

-- a list of all tables is an order of all rows
nothing : (xs : List ℕ) → length xs ≡ 0 → xs ≡ []
nothing [] e = refl
nothing (x ∷ xs) e = absurd (omega (arith, e))

past_none : (m : Module) (rows : List ℕ) (t : ℕ) → IsSound m → table_count ≤ t → IsPermutation (standing_rows m t) rows → rows ≡ []
past_none m rows t sound past moved =
    let none : rows_in m t ≡ [] = past_all m.tables t (omega (arith, past, sound.owners.tables.all)) in
    nothing rows (rows_long m t rows moved ∙ ap length none)

listed_at : (m : Module) (f : Orders) (t : ℕ) → IsSound m → ((table : ℕ) → IsPermutation (standing_rows m table) (f table))
    → list_at (map f (below table_count)) t ≡ f t
listed_at m f t sound each = elim (cases_lt t table_count) [
  | inl low ↦ ap (λ o. unwrap_or o []) (get_below f table_count t low)
  | inr past ↦ ap (λ o. unwrap_or o []) (get_past f table_count t past) ∙ sym (past_none m (f t) t sound past (each t))
]

pub all_tables : (m : Module) (f : Orders) (lists : List (List ℕ)) → IsSound m → ((table : ℕ) → IsPermutation (standing_rows m table) (f table))
    → lists ≡ map f (below table_count) → list_at lists ≡ f
all_tables m f lists sound each is = ap (λ xs. list_at xs) is ∙ same_orders (list_at (map f (below table_count))) f (λ t. listed_at m f t sound each)

pub all_orders : (m : Module) (f : Orders) (lists : List (List ℕ)) → IsSound m → ((table : ℕ) → IsPermutation (standing_rows m table) (f table))
    → lists ≡ map f (below table_count) → AreOrdersOf m lists
all_orders m f lists sound each is = record {
  count = ap length is ∙ length_below f table_count;
  each = λ t. subst (IsPermutation (standing_rows m t)) (sym (ap (λ o. o t) (all_tables m f lists sound each is))) (each t);
}

-- a list of tables, one more
pub no_tables : (f : Orders) (lists : List (List ℕ)) → lists ≡ [] → lists ≡ map f (below 0)
unfolding below
no_tables f lists none = none

pub more_tables : (f : Orders) (n : ℕ) (old new : List (List ℕ)) (rows : List ℕ) → old ≡ map f (below n) → rows ≡ f n → new ≡ old ++ rows ∷ []
    → new ≡ map f (below (n + 1))
more_tables f n old new rows before is after = after ∙ ap (λ xs. xs ++ rows ∷ []) before ∙ ap (λ r. map f (below n) ++ r ∷ []) is ∙ more_mapped f n

-- before all stages
pub own_order : (m : Module) (table : ℕ) → IsPermutation (standing_rows m table) (standing_rows m table)
own_order m table = IsPermutation-refl (standing_rows m table)

pub own_rows : (m : Module) (table count : ℕ) (rows : List ℕ) → count ≡ row_count m table → rows ≡ map (λ n. n + 1) (below count) → rows ≡ standing_rows m table
unfolding standing_rows
own_rows m table count rows same is = is ∙ ap (λ k. map (λ n. n + 1) (below k)) same

pub own_few : (m : Module) (table count : ℕ) (rows : List ℕ) → IsSound m → count ≡ row_count m table → rows ≡ map (λ n. n + 1) (below count)
    → length rows < 2 ^ 24
own_few m table count rows sound same is =
    rows_few m table rows sound (subst (IsPermutation (standing_rows m table)) (sym (own_rows m table count rows same is)) (own_order m table))

pub own_fit : (m : Module) (table count : ℕ) (rows : List ℕ) → count ≡ row_count m table → rows ≡ map (λ n. n + 1) (below count)
    → list_all (is_row_within (length rows)) rows ≡ true
own_fit m table count rows same is =
    rows_fit_all m table rows (subst (IsPermutation (standing_rows m table)) (sym (own_rows m table count rows same is)) (own_order m table))

-- behind all stages
pub all_staged : (m : Module) (o0 o1 o2 o3 o4 o5 o6 : Orders) → o0 ≡ standing_rows m → o1 ≡ by_depth m o0 → o2 ≡ by_owner m o1 → o3 ≡ by_method m o2
    → o4 ≡ by_key m o3 → o5 ≡ by_param m o4 → o6 ≡ by_attribute m o5 → o6 ≡ new_order m
unfolding new_order
all_staged m o0 o1 o2 o3 o4 o5 o6 e0 e1 e2 e3 e4 e5 e6 =
    e6 ∙ ap (by_attribute m) (e5 ∙ ap (by_param m) (e4 ∙ ap (by_key m) (e3 ∙ ap (by_method m) (e2 ∙ ap (by_owner m) (e1 ∙ ap (by_depth m) e0)))))

-- the rows of entries that are sorted by their keys
rows_back : (key : ℕ → ℕ) (rows : List ℕ) → map entry_row (map (numbered_row key) rows) ≡ rows
rows_back key [] = refl
rows_back key (r ∷ rows) = ap (λ xs. r ∷ xs) (rows_back key rows)

pub entries_sorted : (key : ℕ → ℕ) (rows : List ℕ) (entries : List KeyedRow) → entries ≡ map (numbered_row key) rows
    → map entry_row (sorted_by sorted_key entries) ≡ sorted_by key rows
entries_sorted key rows entries is =
    ap (λ xs. map entry_row (sorted_by sorted_key xs)) is ∙ ap (map entry_row) (sym (sorted_map (numbered_row key) sorted_key rows))
    ∙ rows_back key (sorted_by key rows)

pub keyed_sorted : (m : Module) (before : Orders) (table : ℕ) (entries : List KeyedRow) (rows : List ℕ)
    → entries ≡ map (numbered_row (order_key before m table)) (standing_rows m table) → rows ≡ map entry_row (sorted_by sorted_key entries)
    → rows ≡ keyed_rows before m table
unfolding keyed_rows
keyed_sorted m before table entries rows is sorted = sorted ∙ entries_sorted (order_key before m table) (standing_rows m table) entries is

-- a type's depth among all
get_listed : (f : ℕ → ℕ) (xs : List ℕ) (i x d : ℕ) → slice_get xs i ≡ Some x → get_or (map f xs) i d ≡ f x
get_listed f [] i x d e = absurd cc
get_listed f (y ∷ ys) zero x d e = let is : y ≡ x = cc in ap f is
get_listed f (y ∷ ys) (suc i) x d e = get_listed f ys i x d e

long_map : (f : ℕ → ℕ) (xs : List ℕ) → length (map f xs) ≡ length xs
long_map f [] = refl
long_map f (x ∷ xs) = ap suc (long_map f xs)

pub depths_long : (m : Module) (f : ℕ → ℕ) (table : ℕ) (depths : List ℕ) → depths ≡ map f (standing_rows m table) → length depths ≡ row_count m table
unfolding standing_rows
depths_long m f table depths is =
    ap length is ∙ long_map f (map (λ n. n + 1) (below (row_count m table))) ∙ length_below (λ n. n + 1) (row_count m table)

pub depth_at : (m : Module) (f : ℕ → ℕ) (table : ℕ) (depths : List ℕ) (i d : ℕ) → depths ≡ map f (standing_rows m table) → i < length depths
    → get_or depths i d ≡ f (i + 1)
unfolding standing_rows
depth_at m f table depths i d is low =
    ap (λ xs. get_or xs i d) is
    ∙ get_listed f (map (λ n. n + 1) (below (row_count m table))) i (i + 1) d
    (get_below (λ n. n + 1) (row_count m table) i (omega (arith, low, depths_long m f table depths is)))

-- the first types with their depths
abbrev pub front_entries : List ℕ → ℕ → List KeyedRow
front_entries keys n = map (λ i. record { key = get_or keys i 0; row = i + 1 }) (below n)

pub no_front : (keys : List ℕ) (entries : List KeyedRow) → entries ≡ [] → entries ≡ front_entries keys 0
unfolding below
no_front keys entries none = none

pub more_front : (keys : List ℕ) (i : ℕ) (old new : List KeyedRow) (k : ℕ) → old ≡ front_entries keys i → k ≡ get_or keys i 0
    → new ≡ old ++ record { key = k; row = i + 1 } ∷ [] → new ≡ front_entries keys (i + 1)
more_front keys i old new k before is after =
    after ∙ ap (λ xs. xs ++ record { key = k; row = i + 1 } ∷ []) before
    ∙ ap (λ (j : ℕ). let e : KeyedRow = record { key = j; row = i + 1 } in front_entries keys i ++ e ∷ []) is
    ∙ more_mapped (λ j. let e : KeyedRow = record { key = get_or keys j 0; row = j + 1 } in e) i

pub all_front : (keys : List ℕ) (i : ℕ) (entries : List KeyedRow) → i ≡ length keys → entries ≡ front_entries keys i → entries ≡ entries_numbered keys
unfolding entries_numbered
all_front keys i entries all is = is ∙ ap (front_entries keys) all

agree : {X : Type 0} (f g : ℕ → X) (n : ℕ) → ((i : ℕ) → i < n → f i ≡ g i) → map f (below n) ≡ map g (below n)
unfolding below
agree f g zero same = refl
agree {X} f g (suc n) same =
    let e : n + 1 ≡ suc n = omega arith in
    let step : map f (below (n + 1)) ≡ map g (below (n + 1)) =
    sym (more_mapped f n) ∙ ap (λ xs. xs ++ f n ∷ []) (agree f g n (λ i low. same i (omega (arith, low))))
    ∙ ap (λ x. map g (below n) ++ x ∷ []) (same n (omega arith)) ∙ more_mapped g n in
    subst (λ k. map f (below k) ≡ map g (below k)) e step

map_after : {X : Type 0} (f : ℕ → X) (xs : List ℕ) → map (λ i. f (i + 1)) xs ≡ map f (map (λ n. n + 1) xs)
map_after f [] = refl
map_after f (x ∷ xs) = ap (λ ys. f (x + 1) ∷ ys) (map_after f xs)

entries_are : (m : Module) (f : ℕ → ℕ) (table : ℕ) (keys : List ℕ) → keys ≡ map f (standing_rows m table) → length keys ≡ row_count m table
    → entries_numbered keys ≡ map (numbered_row f) (standing_rows m table)
unfolding entries_numbered standing_rows
entries_are m f table keys is long =
    agree (λ i. let e : KeyedRow = record { key = get_or keys i 0; row = i + 1 } in e) (λ i. numbered_row f (i + 1)) (length keys)
    (λ i low. ap (λ (k : ℕ). let e : KeyedRow = record { key = k; row = i + 1 } in e) (depth_at m f table keys i 0 is low))
    ∙ ap (λ n. map (λ i. numbered_row f (i + 1)) (below n)) long ∙ map_after (numbered_row f) (below (row_count m table))

pub depth_sorted : (m : Module) (table : ℕ) (keys : List ℕ) (entries : List KeyedRow) (rows : List ℕ) → keys ≡ map (depth m) (standing_rows m table)
    → entries ≡ entries_numbered keys → rows ≡ map entry_row (sorted_by sorted_key entries) → rows ≡ sorted_by (depth m) (standing_rows m table)
depth_sorted m table keys entries rows are is sorted =
    sorted ∙ entries_sorted (depth m) (standing_rows m table) entries (is ∙ entries_are m (depth m) table keys are (depths_long m (depth m) table keys are))

pub depths_few : (m : Module) (table : ℕ) (keys : List ℕ) → IsSound m → keys ≡ map (depth m) (standing_rows m table) → length keys < 2 ^ 24
depths_few m table keys sound are = omega (arith, depths_long m (depth m) table keys are, sound.counts.few table)

pub owners_fit : (m : Module) (before : List (List ℕ)) (table owners_table : ℕ) (owners : List ℕ) → AreOrdersOf m before → table ≡ owners_table
    → owners ≡ list_at before table → list_all (is_row_within (row_count m owners_table)) owners ≡ true
owners_fit m before table owners_table owners are same is =
    subst (λ xs. list_all (is_row_within (row_count m owners_table)) xs ≡ true) (sym (is ∙ ap (list_at before) same))
    (rows_fit m owners_table (list_at before owners_table) (are.each owners_table))
