-- The numbers by which rows go: of each key column, and all of them as one.
use Rattle.std.proofs.Common.{◌≡◌, ℕ, ◌+◌, ◌*◌, ◌^◌, ◌<◌, ◌≤◌, List, [], ◌∷◌, ◌++◌, length, get_or, map, Some, refl, sym, ap, ◌∙◌, arith}
use Rattle.enc_base.specs.declared.token.Token.{Token}
use Rattle.std.specs.Prelude.{Bool, true, false, ◌||◌, ◌==◌}
use Rattle.std.proofs.lemmas.Bool.{eqb-true}
use Rattle.enc_plain.specs.Sound.{can_name, row_count}
use Rattle.enc_plain.specs.Cell.{refer, number}
use Rattle.enc_plain.specs.Module.{Module, cell_of}
use Rattle.enc_plain.proofs.CellsOf.{token_there, number_there}
use Rattle.enc_rows.specs.Sums.{below}
use Rattle.enc_schema.specs.Schema.{column_in}
use Rattle.enc_schema.specs.declared.column.Coding.{Coding}
use Rattle.enc_schema.specs.declared.column.Column.TheVariants.{Num16, Index, Coded}
use Rattle.enc_row_order.specs.Keyed.{numbered_row}
use Rattle.enc_row_order.specs.declared.sorting.KeyedRow.{KeyedRow}
use Rattle.enc_row_order.specs.Orders.{Orders, moved_by, coded_value, column_key, key_columns, key_from, order_key, standing_rows}
use Rattle.enc_row_order.proofs.Rowed.{more_mapped}

pub index_key : (o : Orders) (m : Module) (u : Token) (i table : ℕ) (t v : Token) → column_in u.table i ≡ Some (Index table) → cell_of m u i ≡ Some (refer t)
    → v ≡ moved_by o t → v.row ≡ column_key o m u i (column_in u.table i)
index_key o m u i table t v column is moved =
    rw column (ap (λ (w : Token). w.row) (moved ∙ ap (moved_by o) (token_there m u i t is)))

pub coded_key : (o : Orders) (m : Module) (u : Token) (i : ℕ) (kind : Coding) (t v : Token) (n : ℕ) → column_in u.table i ≡ Some (Coded kind)
    → cell_of m u i ≡ Some (refer t) → v ≡ moved_by o t → n ≡ coded_value kind v → n ≡ column_key o m u i (column_in u.table i)
coded_key o m u i kind t v n column is moved e =
    rw column (e ∙ ap (coded_value kind) (moved ∙ ap (moved_by o) (token_there m u i t is)))

pub short_key : (o : Orders) (m : Module) (u : Token) (i n : ℕ) → column_in u.table i ≡ Some Num16 → cell_of m u i ≡ Some (number n)
    → n ≡ column_key o m u i (column_in u.table i)
short_key o m u i n column is = rw column (number_there m u i n is)

-- none, one or two columns
pub key_two : (o : Orders) (m : Module) (u : Token) (i j a b : ℕ) → key_columns u.table ≡ i ∷ j ∷ []
    → a ≡ column_key o m u i (column_in u.table i) → b ≡ column_key o m u j (column_in u.table j) → a * 0x100000000 + b ≡ order_key o m u.table u.row
unfolding order_key key_from
key_two o m u i j a b columns first second =
    let e : a * 0x100000000 + b ≡ (0 * 2 ^ 32 + a) * 2 ^ 32 + b = omega arith in
    rw columns (rw (← first, ← second) e)

pub key_one : (o : Orders) (m : Module) (u : Token) (i a : ℕ) → key_columns u.table ≡ i ∷ [] → a ≡ column_key o m u i (column_in u.table i)
    → a ≡ order_key o m u.table u.row
unfolding order_key key_from
key_one o m u i a columns first =
    let e : a ≡ 0 * 2 ^ 32 + a = omega arith in
    rw columns (rw (← first) e)

pub key_none : (o : Orders) (m : Module) (u : Token) → key_columns u.table ≡ [] → 0 ≡ order_key o m u.table u.row
unfolding order_key key_from
key_none o m u columns = rw columns refl

-- the rows with their numbers, one behind the other
abbrev pub entries_upto : (ℕ → ℕ) → ℕ → List KeyedRow
entries_upto key n = map (λ i. numbered_row key (i + 1)) (below n)

pub more_entries : (key : ℕ → ℕ) (n : ℕ) (old : List KeyedRow) (k : ℕ) → old ≡ entries_upto key n → k ≡ key (n + 1)
    → old ++ record { key = k; row = n + 1 } ∷ [] ≡ entries_upto key (n + 1)
more_entries key n old k before is =
    ap (λ xs. xs ++ record { key = k; row = n + 1 } ∷ []) before
    ∙ ap (λ (j : ℕ). let e : KeyedRow = record { key = j; row = n + 1 } in entries_upto key n ++ e ∷ []) is
    ∙ more_mapped (λ i. numbered_row key (i + 1)) n

map_twice : {A B C : Type 0} (f : B → C) (g : A → B) (xs : List A) → map (λ x. f (g x)) xs ≡ map f (map g xs)
map_twice f g [] = refl
map_twice f g (x ∷ xs) = ap (λ ys. f (g x) ∷ ys) (map_twice f g xs)

pub all_entries : (m : Module) (table : ℕ) (key : ℕ → ℕ) (n : ℕ) (entries : List KeyedRow) → entries ≡ entries_upto key n
    → n ≡ row_count m table → entries ≡ map (numbered_row key) (standing_rows m table)
unfolding standing_rows
all_entries m table key n entries is all =
    is ∙ map_twice (numbered_row key) (λ k. k + 1) (below n) ∙ ap (λ k. map (numbered_row key) (map (λ j. j + 1) (below k))) all

pub no_entries : (key : ℕ → ℕ) (entries : List KeyedRow) → entries ≡ [] → entries ≡ entries_upto key 0
unfolding below
no_entries key entries none = none

moved_table : (o : Orders) (t v : Token) → v ≡ moved_by o t → v.table ≡ t.table
unfolding moved_by
moved_table o t v moved = ap (λ (w : Token). w.table) moved

-- a token is of a table of the coding once it is moved, too
pub moved_named : (o : Orders) (kind : Coding) (t v : Token) → v ≡ moved_by o t → (t.row ≡ 0 → v.row ≡ 0)
    → ((t.row == 0) || can_name (Coded kind) t.table) ≡ true
    → ((v.row == 0) || can_name (Coded kind) v.table) ≡ true
moved_named o kind t v moved none named = by (t.row == 0) refl named
  where
    later : (b : Bool) → (b || true) ≡ true
    later true = refl
    later false = refl

    by : (b : Bool) → (t.row == 0) ≡ b → (b || can_name (Coded kind) t.table) ≡ true → ((v.row == 0) || can_name (Coded kind) v.table) ≡ true
    by true e h = let empty : v.row ≡ 0 = none (eqb-true t.row 0 e) in rw empty refl
    by false e h = rw (moved_table o t v moved) (rw h (later (v.row == 0)))

two_there : (xs : List ℕ) → 2 ≤ length xs → length xs < 3 → xs ≡ get_or xs 0 0 ∷ get_or xs 1 0 ∷ []
two_there [] low high = absurd (omega (arith, low))
two_there (x ∷ []) low high = absurd (omega (arith, low))
two_there (x ∷ y ∷ []) low high = refl
two_there (x ∷ y ∷ z ∷ xs) low high = absurd (omega (arith, high))

one_there : (xs : List ℕ) → 1 ≤ length xs → length xs < 2 → xs ≡ get_or xs 0 0 ∷ []
one_there [] low high = absurd (omega (arith, low))
one_there (x ∷ []) low high = refl
one_there (x ∷ y ∷ xs) low high = absurd (omega (arith, high))

none_there : (xs : List ℕ) → length xs < 1 → xs ≡ []
none_there [] high = refl
none_there (x ∷ xs) high = absurd (omega (arith, high))

pub keyed_two : (o : Orders) (m : Module) (u : Token) (xs : List ℕ) (a b : ℕ) → xs ≡ key_columns u.table → 2 ≤ length xs → length xs < 3
    → a ≡ column_key o m u (get_or xs 0 0) (column_in u.table (get_or xs 0 0))
    → b ≡ column_key o m u (get_or xs 1 0) (column_in u.table (get_or xs 1 0)) → a * 0x100000000 + b ≡ order_key o m u.table u.row
keyed_two o m u xs a b is low high first second = key_two o m u (get_or xs 0 0) (get_or xs 1 0) a b (sym is ∙ two_there xs low high) first second

pub keyed_one : (o : Orders) (m : Module) (u : Token) (xs : List ℕ) (a : ℕ) → xs ≡ key_columns u.table → 1 ≤ length xs → length xs < 2
    → a ≡ column_key o m u (get_or xs 0 0) (column_in u.table (get_or xs 0 0)) → a ≡ order_key o m u.table u.row
keyed_one o m u xs a is low high first = key_one o m u (get_or xs 0 0) a (sym is ∙ one_there xs low high) first

pub keyed_none : (o : Orders) (m : Module) (u : Token) (xs : List ℕ) → xs ≡ key_columns u.table → length xs < 1 → 0 ≡ order_key o m u.table u.row
keyed_none o m u xs is high = key_none o m u (sym is ∙ none_there xs high)
