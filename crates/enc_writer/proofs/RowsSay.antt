-- The rows of a delta, number by number, row by row and table by table.
use Rattle.std.proofs.Common.{◌≡◌, ℕ, zero, suc, ◌+◌, ◌-◌, ◌<◌, ◌≤◌, Bool, true, false, List, [], ◌∷◌, ◌++◌, length, Some, None, refl, sym, ap, ◌∙◌, subst, inl, inr, arith}
use Rattle.std.specs.Prelude.{◌^◌, ◌&&◌, ◌==◌, nat_lt, map, slice_get, slice_index, if◌then◌else◌}
use Rattle.std.specs.List.{list_all}
use Rattle.std.specs.BTreeMap.{BTreeMap, get}
use Rattle.std.specs.Ordering.{nat_cmp}
use Rattle.std.proofs.lemmas.Bool.{cases_eq, cases_lt}
use Rattle.std.proofs.lemmas.Bool.Decides.{nat_tests}
use Rattle.std.proofs.lemmas.List.{length-append}
use Rattle.enc_base.specs.Token.{nth_row}
use Rattle.enc_base.specs.declared.token.Token.{Token}
use Rattle.enc_meta.specs.Heaps.{Counted}
use Rattle.enc_plain.specs.Cell.{is_body}
use Rattle.enc_plain.specs.Chain.{Chain}
use Rattle.enc_plain.specs.Sound.{row_count, number_fits}
use Rattle.enc_plain.proofs.NamePlaces.{get_within}
use Rattle.enc_rows.specs.Sums.{below}
use Rattle.enc_rows.proofs.Listed.{get_below}
use Rattle.enc_rows.specs.Written.{rows_at}
use Rattle.enc_schema.specs.Schema.{schema, list_at, columns_in, column_in}
use Rattle.enc_schema.specs.declared.column.Column.{Column}
use Rattle.enc_schema.specs.declared.column.Column.TheVariants.{Num32}
use Rattle.enc_edit_list.specs.declared.edit.EditList.{EditList}
use Rattle.enc_rules.specs.Listed.{count_after}
use Rattle.enc_list_delta.specs.Delta.{is_edited, tokens_written}
use Rattle.enc_list_delta.specs.Holds.{MayFollow, SaysRow, SayRows, is_listed_table}
use Rattle.enc_list_delta.proofs.TokensAbout.{stands_after, old_about, new_about}
use Rattle.enc_list_delta.proofs.TokensWritten.{one_more, none_passing, one_of}
use Rattle.enc_list_delta.proofs.TokensUnbroken.{nothing_breaks, counts_fit}
use Rattle.enc_writer.specs.Writing.{MethodsPlaced, method_token, row_fits_wide, OthersStay, IsTableWritten, AreTablesWritten}
use Rattle.enc_writer.specs.RowsWriting.{joined_with, SaysNumber, DeltaFrontSays, DeltaRowSays, edited_below, RowsWritten}

-- no number yet, and one more
pub none_says : (c : Chain) (l : EditList) (il : List ℕ) (u : Token) → DeltaFrontSays c l il u 0 []
none_says c l il u = record { count = refl; each = λ i column x e f. absurd cc }

last_get : {A : Type 0} (xs : List A) (y x : A) (i : ℕ) → slice_get (xs ++ y ∷ []) i ≡ Some x → (i ≡ length xs → ⊥) → slice_get xs i ≡ Some x
last_get [] y x zero e other = absurd (other refl)
last_get [] y x (suc i) e other = absurd cc
last_get (z ∷ xs) y x zero e other = e
last_get (z ∷ xs) y x (suc i) e other = last_get xs y x i e (λ is. other (ap suc is))

last_here : {A : Type 0} (xs : List A) (y x : A) → slice_get (xs ++ y ∷ []) (length xs) ≡ Some x → y ≡ x
last_here [] y x e = cc
last_here (z ∷ xs) y x e = last_here xs y x e

same_column : (t i : ℕ) (c d : Column) → column_in t i ≡ Some c → column_in t i ≡ Some d → c ≡ d
same_column t i c d e f = let g = sym e ∙ f in cc

pub more_says : (c : Chain) (l : EditList) (il : List ℕ) (u : Token) (i : ℕ) (numbers new : List ℕ) (column : Column) (y : ℕ) → DeltaFrontSays c l il u i numbers → column_in u.table i ≡ Some column
    → SaysNumber c l il u i column y → new ≡ numbers ++ y ∷ [] → DeltaFrontSays c l il u (i + 1) new
more_says c l il u i numbers new column y so_far here says is =
    subst (λ xs. DeltaFrontSays c l il u (i + 1) xs) (sym is) (record {
      count = length-append numbers (y ∷ []) ∙ ap (λ n. n + 1) so_far.count;
      each = λ j d x at get. elim (cases_eq j (length numbers)) [
        | inl last ↦
            let k : j ≡ i = last ∙ so_far.count in
            let v : y ≡ x = last_here numbers y x (subst (λ n. slice_get (numbers ++ y ∷ []) n ≡ Some x) last get) in
            let e : column ≡ d = same_column u.table i column d here (subst (λ n. column_in u.table n ≡ Some d) k at) in
            subst (λ n. SaysNumber c l il u n d x) (sym k) (subst (λ a. SaysNumber c l il u i d a) v (subst (λ b. SaysNumber c l il u i b y) e says))
        | inr before ↦ so_far.each j d x at (last_get numbers y x j get before)
      ];
    })

-- a row of such numbers says what the edits give it, and fits
index_low : {A : Type 0} (xs : List A) (i : ℕ) (x : A) → slice_get xs i ≡ Some x → i < length xs
index_low [] i x h = absurd cc
index_low (y ∷ xs) zero x h = omega arith
index_low (y ∷ xs) (suc i) x h = omega (arith, index_low xs i x h)

pub row_says : (c : Chain) (l : EditList) (il : List ℕ) (u : Token) (numbers : List ℕ) → DeltaRowSays c l il u numbers → SaysRow c l (joined_with c l) il u (slice_index numbers)
unfolding columns_in
row_says c l il u numbers so = record {
  each = λ i column at.
      let low = index_low (columns_in u.table) i column at in
      (so.each i column (slice_index numbers i) at (get_within numbers i (omega (arith, low, so.count)))).says;
  body = λ is.
      let six : u.table ≡ 6 = grind (arith, nat_tests, is) in
      let first : column_in u.table 0 ≡ Some Num32 = rw six refl in
      let low = index_low (columns_in u.table) 0 Num32 first in
      let place : is_body u.table 0 ≡ true = rw six refl in
      (so.each 0 Num32 (slice_index numbers 0) first (get_within numbers 0 (omega (arith, low, so.count)))).body place;
}

all_fit : (columns : List Column) (numbers : List ℕ) → ((i : ℕ) (column : Column) (x : ℕ) → slice_get columns i ≡ Some column → slice_get numbers i ≡ Some x → number_fits column x ≡ true) → row_fits_wide columns numbers ≡ true
all_fit [] numbers each = refl
all_fit (d ∷ columns) [] each = refl
all_fit (d ∷ columns) (x ∷ numbers) each = rw (each 0 d x refl refl) (all_fit columns numbers (λ i e y at get. each (suc i) e y at get))

pub row_fits : (c : Chain) (l : EditList) (il : List ℕ) (u : Token) (numbers : List ℕ) → DeltaRowSays c l il u numbers → row_fits_wide (columns_in u.table) numbers ≡ true
row_fits c l il u numbers so = all_fit (columns_in u.table) numbers (λ i column x at get. (so.each i column x at get).fit)

-- no row yet, one more that is edited, and one that isn't
one_says : (c : Chain) (l : EditList) (heaps : List Counted) (il : List ℕ) (tokens : List Token) (rows : List (List ℕ)) (u : Token) (r : List ℕ) → SayRows c l heaps il tokens rows → SaysRow c l heaps il u (slice_index r)
    → SayRows c l heaps il (tokens ++ u ∷ []) (rows ++ r ∷ [])
unfolding SayRows
one_says c l heaps il [] [] u r say says = (says, _)
one_says c l heaps il (t ∷ tokens) (q ∷ rows) u r say says = (say.0, one_says c l heaps il tokens rows u r say.1 says)
one_says c l heaps il [] (q ∷ rows) u r say says = absurd say
one_says c l heaps il (t ∷ tokens) [] u r say says = absurd say

fit_more : (columns : List Column) (rows : List (List ℕ)) (r : List ℕ) → list_all (row_fits_wide columns) rows ≡ true → row_fits_wide columns r ≡ true → list_all (row_fits_wide columns) (rows ++ r ∷ []) ≡ true
fit_more columns [] r all one = rw one refl
fit_more columns (q ∷ rows) r all one = by (row_fits_wide columns q) all (λ more. fit_more columns rows r more one)
  where
    by : (b : Bool) → (b && list_all (row_fits_wide columns) rows) ≡ true → (list_all (row_fits_wide columns) rows ≡ true → list_all (row_fits_wide columns) (rows ++ r ∷ []) ≡ true)
        → (b && list_all (row_fits_wide columns) (rows ++ r ∷ [])) ≡ true
    by true h more = more h
    by false h more = absurd cc

suc_is : (n : ℕ) → suc n ≡ n + 1
suc_is n = omega arith

pub one_written : (c : Chain) (l : EditList) (il : List ℕ) (table n : ℕ) (rows : List (List ℕ)) (r : List ℕ) → RowsWritten c l il table n rows → is_edited c.plain l.edits (nth_row table n) ≡ true
    → DeltaRowSays c l il (nth_row table n) r → RowsWritten c l il table (n + 1) (rows ++ r ∷ [])
one_written c l il table n rows r so_far about so = record {
  say = subst (λ k. SayRows c l (joined_with c l) il (edited_below c l table k) (rows ++ r ∷ [])) (suc_is n)
      (one_more (λ ts. SayRows c l (joined_with c l) il ts (rows ++ r ∷ [])) (is_edited c.plain l.edits) table n
      (λ h. one_says c l (joined_with c l) il (edited_below c l table n) rows (nth_row table n) r so_far.say (row_says c l il (nth_row table n) r so))
      (λ h. let bad : true ≡ false = sym about ∙ h in absurd cc));
  fit = fit_more (columns_in table) rows r so_far.fit (row_fits c l il (nth_row table n) r so);
  few = let more = length-append rows (r ∷ []) in omega (arith, so_far.few, more);
}

pub none_written : (c : Chain) (l : EditList) (il : List ℕ) (table n : ℕ) (rows : List (List ℕ)) → RowsWritten c l il table n rows → is_edited c.plain l.edits (nth_row table n) ≡ false
    → RowsWritten c l il table (n + 1) rows
none_written c l il table n rows so_far about = record {
  say = subst (λ k. SayRows c l (joined_with c l) il (edited_below c l table k) rows) (suc_is n)
      (one_more (λ ts. SayRows c l (joined_with c l) il ts rows) (is_edited c.plain l.edits) table n (λ h. let bad : true ≡ false = sym h ∙ about in absurd cc) (λ h. so_far.say));
  fit = so_far.fit;
  few = omega (arith, so_far.few);
}

pub begin_written : (c : Chain) (l : EditList) (il : List ℕ) (table n : ℕ) (rows : List (List ℕ)) → rows ≡ [] → ((k : ℕ) → k < n → is_edited c.plain l.edits (nth_row table k) ≡ false) → RowsWritten c l il table n rows
unfolding SayRows
begin_written c l il table n rows is none = rw is (record {
  say = subst (λ ts. SayRows c l (joined_with c l) il ts []) (sym (none_passing (is_edited c.plain l.edits) table n none)) _;
  fit = refl;
  few = omega arith;
})

-- a method is edited where it has a place, and another row where the chain doesn't have it
pub old_row : (c : Chain) (l : EditList) (u : Token) → MayFollow c l → (u.table ≡ 6 → ⊥) → u.row ≤ row_count c.plain u.table → is_edited c.plain l.edits u ≡ false
old_row c l u may other old = by (is_edited c.plain l.edits u) refl
  where
    by : (b : Bool) → is_edited c.plain l.edits u ≡ b → is_edited c.plain l.edits u ≡ false
    by true h = absurd (other (old_about c l u (nothing_breaks c l may) h old))
    by false h = h

pub new_row : (c : Chain) (l : EditList) (u : Token) → row_count c.plain u.table < u.row → u.row ≤ count_after c l.edits u.table → is_edited c.plain l.edits u ≡ true
new_row c l u past high = new_about c l u past high

method_is : (u : Token) → u.table ≡ 6 → method_token u.row ≡ u
method_is u six = ap (λ t. record { table = t; row = u.row }) (sym six)

pub method_row : (c : Chain) (l : EditList) (heaps : List Counted) (il : List ℕ) (methods : BTreeMap ℕ ℕ) (u : Token) (x : ℕ) → MethodsPlaced c l heaps il methods → u.table ≡ 6 → get nat_cmp methods u.row ≡ Some x → is_edited c.plain l.edits u ≡ true
method_row c l heaps il methods u x placed six is = ap (is_edited c.plain l.edits) (sym (method_is u six)) ∙ placed.edited u.row x is

pub other_method : (c : Chain) (l : EditList) (heaps : List Counted) (il : List ℕ) (methods : BTreeMap ℕ ℕ) (u : Token) → MethodsPlaced c l heaps il methods → u.table ≡ 6 → get nat_cmp methods u.row ≡ None → is_edited c.plain l.edits u ≡ false
other_method c l heaps il methods u placed six is = ap (is_edited c.plain l.edits) (sym (method_is u six)) ∙ placed.others u.row is

-- an edited row's table has columns
abbrev has_columns : ℕ → Bool
has_columns table = nat_lt 0 (length (list_at schema table))

have_columns : list_all has_columns (map (λ k. k) (below 0x2D)) ≡ true
unfolding below
have_columns = refl

pub some_columns : (c : Chain) (l : EditList) (u : Token) → MayFollow c l → is_edited c.plain l.edits u ≡ true → nat_lt 0 (length (columns_in u.table)) ≡ true
unfolding columns_in
some_columns c l u may about =
    let s = stands_after c l u (nothing_breaks c l may) about in
    one_of has_columns (map (λ k. k) (below 0x2D)) u.table u.table have_columns (get_below (λ k. k) 0x2D u.table s.small)

pub few_rows : (c : Chain) (l : EditList) (il : List ℕ) (table n : ℕ) (rows : List (List ℕ)) → MayFollow c l → is_edited c.plain l.edits (nth_row table n) ≡ true → RowsWritten c l il table n rows → length rows < 2 ^ 24 - 1
few_rows c l il table n rows may about so_far =
    let s = stands_after c l (nth_row table n) (nothing_breaks c l may) about in
    let few = counts_fit c l may table in
    let high : n + 1 ≤ count_after c l.edits table = s.high in
    omega (arith, high, few, so_far.few)

-- the tables below the first have no rows
pub no_table : (c : Chain) (l : EditList) (heaps : List Counted) (il : List ℕ) (rows : List (List (List ℕ))) → ((k : ℕ) → rows_at rows k ≡ []) → AreTablesWritten c l heaps il 0 rows
no_table c l heaps il rows none = record { below = λ t low listed. absurd (omega (arith, low)); behind = λ t high. none t; unlisted = λ t listed. none t }

other_is : (k t : ℕ) → (k ≡ t → ⊥) → (k == t) ≡ false
other_is k t other = grind (arith, nat_tests, other)

below_next : (t table : ℕ) → t < table + 1 → (t ≡ table → ⊥) → t < table
below_next t table low other = omega (arith, low, other)

-- one table more
pub one_table : (c : Chain) (l : EditList) (heaps : List Counted) (il : List ℕ) (table : ℕ) (old new : List (List (List ℕ))) → AreTablesWritten c l heaps il table old → IsTableWritten c l heaps il table new
    → OthersStay table old new → is_listed_table table ≡ true → AreTablesWritten c l heaps il (table + 1) new
one_table c l heaps il table old new so_far written others listed = record {
  below = λ t low is. elim (cases_eq t table) [
    | inl e ↦ subst (λ k. IsTableWritten c l heaps il k new) (sym e) written
    | inr other ↦
        let stay = others t (other_is t table other) in
        let w = so_far.below t (below_next t table low other) is in
        record { say = rw stay w.say; fit = rw stay w.fit }
  ];
  behind = λ t high.
      let past : nat_lt t table ≡ false = grind (arith, nat_tests, high) in
      let other : (t == table) ≡ false = grind (arith, nat_tests, high) in
      others t other ∙ so_far.behind t past;
  unlisted = λ t is. elim (cases_eq t table) [
    | inl e ↦ let bad : false ≡ true = sym is ∙ ap is_listed_table e ∙ listed in absurd cc
    | inr other ↦ others t (other_is t table other) ∙ so_far.unlisted t is
  ];
}

pub skip_table : (c : Chain) (l : EditList) (heaps : List Counted) (il : List ℕ) (table : ℕ) (rows : List (List (List ℕ))) → AreTablesWritten c l heaps il table rows → is_listed_table table ≡ false
    → AreTablesWritten c l heaps il (table + 1) rows
skip_table c l heaps il table rows so_far unlisted = record {
  below = λ t low is. elim (cases_eq t table) [
    | inl e ↦ let bad : true ≡ false = sym is ∙ ap is_listed_table e ∙ unlisted in absurd cc
    | inr other ↦ so_far.below t (below_next t table low other) is
  ];
  behind = λ t high. let past : nat_lt t table ≡ false = grind (arith, nat_tests, high) in so_far.behind t past;
  unlisted = so_far.unlisted;
}

-- all rows of a table
pub table_written : (c : Chain) (l : EditList) (il : List ℕ) (table : ℕ) (rows : List (List (List ℕ))) → RowsWritten c l il table (count_after c l.edits table) (rows_at rows table) → IsTableWritten c l (joined_with c l) il table rows
unfolding tokens_written
table_written c l il table rows so = record { say = so.say; fit = so.fit }

-- what the row of a number is, by bounds
pub before_low : (c : Chain) (l : EditList) (table : ℕ) → row_count c.plain table ≤ count_after c l.edits table
unfolding count_after
before_low c l table = omega arith

pub edited_is : (c : Chain) (l : EditList) (u : Token) → MayFollow c l → (u.table ≡ 6 → ⊥) → u.row ≤ count_after c l.edits u.table → nat_lt (row_count c.plain u.table) u.row ≡ is_edited c.plain l.edits u
edited_is c l u may other high = elim (cases_lt (row_count c.plain u.table) u.row) [
  | inl past ↦ let e : nat_lt (row_count c.plain u.table) u.row ≡ true = grind (arith, nat_tests, past) in e ∙ sym (new_row c l u past high)
  | inr old ↦ let e : nat_lt (row_count c.plain u.table) u.row ≡ false = grind (arith, nat_tests, old) in e ∙ sym (old_row c l u may other old)
]

pub low_row : (c : Chain) (l : EditList) (table n : ℕ) → MayFollow c l → is_edited c.plain l.edits (nth_row table n) ≡ true → n + 1 < 2 ^ 24
low_row c l table n may about =
    let s = stands_after c l (nth_row table n) (nothing_breaks c l may) about in
    let few = counts_fit c l may table in
    let high : n + 1 ≤ count_after c l.edits table = s.high in
    omega (arith, high, few)

pub row_pushed : (c : Chain) (l : EditList) (il : List ℕ) (table n : ℕ) (old new : List (List (List ℕ))) (r : List ℕ) → RowsWritten c l il table n (rows_at old table) → is_edited c.plain l.edits (nth_row table n) ≡ true
    → DeltaRowSays c l il (nth_row table n) r → ((k : ℕ) → rows_at new k ≡ (if k == table then rows_at old k ++ r ∷ [] else rows_at old k)) → RowsWritten c l il table (n + 1) (rows_at new table)
row_pushed c l il table n old new r so_far about so pushed =
    let same : (table == table) ≡ true = grind (arith, nat_tests) in
    let at : rows_at new table ≡ rows_at old table ++ r ∷ [] = pushed table ∙ rw same refl in
    rw at (one_written c l il table n (rows_at old table) r so_far about so)
