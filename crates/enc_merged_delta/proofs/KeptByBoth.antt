-- What was there before both deltas says what it said after them: so the merged delta's updates break no rule.
use Rattle.std.proofs.Common.{◌≡◌, ℕ, ◌<◌, ◌≤◌, Bool, true, false, List, length, Option, Some, None, refl, sym, ap, ◌∙◌, arith}
use Rattle.std.specs.Prelude.{◌||◌, ◌&&◌, ◌==◌, IsSome, not, nat_lt, bytes_eq, if◌then◌else◌}
use Rattle.std.proofs.lemmas.Bool.Decides.{nat_tests}
use Rattle.std.proofs.lemmas.Option.{slice_get_within}
use Rattle.std.proofs.lemmas.Slice.Eq.{bytes_eq-Decides}
use Rattle.enc_base.specs.Order.{first_below}
use Rattle.enc_base.specs.declared.refusal.Place.{Place}
use Rattle.enc_base.specs.declared.refusal.Place.TheVariants as place
use Rattle.enc_base.specs.declared.token.Token.{Token}
use Rattle.enc_base.proofs.First.{silent}
use Rattle.enc_schema.specs.Schema.{columns_in, column_in}
use Rattle.enc_schema.specs.declared.column.Column.{Column}
use Rattle.enc_rows.specs.Source.{Source}
use Rattle.enc_plain.specs.Alike.{signatures_alike}
use Rattle.enc_plain.specs.Cell.{Kind, numbers, texts, blobs, guids, references, bodies, fields, kind_in}
use Rattle.enc_plain.specs.Chain.{Chain, rows_before}
use Rattle.enc_plain.specs.Module.{has_row, cells_of}
use Rattle.enc_plain.specs.Rows.{Rows, number_at, bytes_at, token_at}
use Rattle.enc_plain.specs.Sound.{HasTables}
use Rattle.enc_plain.proofs.AlikeLaws.{each_is_alike_itself}
use Rattle.enc_plain.proofs.Columns.{column_there}
use Rattle.enc_plain.proofs.KindsOf.{row_bounds, row_there}
use Rattle.enc_delta.specs.Delta.{listed, place_in}
use Rattle.enc_delta.specs.Rules.{broken, is_insert}
use Rattle.enc_delta.specs.Changes.{may_differ, is_signature_column, cell_is_kept, altered_at, altered_in, altered_cell}
use Rattle.enc_delta.specs.Rows.{rows_of_chain, rows_after}
use Rattle.enc_delta.proofs.Unbroken.{unbroken}
use Rattle.enc_agg.specs.Extend.{extended}
use Rattle.enc_agg.specs.Follows.{Follows, Lands}
use Rattle.enc_agg.proofs.Counting.{old_row}
use Rattle.enc_agg.proofs.Fitting.{count_is, fits}
use Rattle.enc_agg.proofs.Judged.{judged_rows}
use Rattle.enc_agg.proofs.KeptRows.{silent_of, row_stays, same_bytes, same_token}
use Rattle.enc_agg.proofs.Viewing.{other_cells}
use Rattle.enc_reference_depth.specs.Kept.{KeepsRows, Lasts}
use Rattle.enc_reference_depth.proofs.Twice.{kept_twice}
use Rattle.enc_merged_delta.specs.Laws.{KeepsMerged}
use Rattle.enc_merged_delta.specs.Merged.{MayMerge, after_both}
use Rattle.enc_merged_delta.proofs.BothModules.{sound_first, sound_both}
use Rattle.enc_merged_delta.proofs.BodiesSaid.{silent_rows}
use Rattle.enc_merged_delta.proofs.Counts.{tables_after}
use Rattle.enc_merged_delta.proofs.SameRows.{all_rows_are}
use Rattle.enc_merged_delta.proofs.Silent.{all_silent}

same_number : (r q : Rows) (t : Token) (i : ℕ) → r t ≡ q t → number_at r t i ≡ number_at q t i
unfolding number_at
same_number r q t i e = rw e refl

number_self : (n : ℕ) → (n == n) ≡ true
number_self n = grind (arith, nat_tests)

bytes_self : (xs : List ℕ) → bytes_eq xs xs ≡ true
bytes_self xs = (bytes_eq-Decides xs xs).1 refl

signature_self : (r : Rows) (table : ℕ) (xs : List ℕ) → signatures_alike r table xs xs ≡ true
unfolding signatures_alike
signature_self r table xs = rw (bytes_self xs) refl

-- a row that is the same says the same
kept_self : (old new : Rows) (t : Token) (i : ℕ) (o : Option Kind) → old t ≡ new t → cell_is_kept old new t i o ≡ true
kept_self old new t i None e = refl
kept_self old new t i (Some numbers) e = rw (same_number old new t i e) (number_self (number_at new t i))
kept_self old new t i (Some texts) e = rw (same_bytes old new t i e) (bytes_self (bytes_at new t i))
kept_self old new t i (Some blobs) e = rw (same_bytes old new t i e) (by (is_signature_column t.table i))
  where
    by : (b : Bool) → (if b then signatures_alike new t.table (bytes_at new t i) (bytes_at new t i) else bytes_eq (bytes_at new t i) (bytes_at new t i)) ≡ true
    by true = signature_self new t.table (bytes_at new t i)
    by false = bytes_self (bytes_at new t i)
kept_self old new t i (Some references) e = rw (same_token old new t i e) (each_is_alike_itself new (token_at new t i))
kept_self old new t i (Some guids) e = refl
kept_self old new t i (Some bodies) e = refl
kept_self old new t i (Some fields) e = refl

held : (p : Place) (a b : Bool) → broken (not a && not b) p ≡ None → a ≡ false → b ≡ true
held p a true h e = refl
held p true false h e = absurd cc
held p false false h e = absurd cc

-- a row that was there is no insert
not_insert : (c : Chain) (u : Token) → has_row c.plain u ≡ true → is_insert c u ≡ false
unfolding is_insert
not_insert c u there = let b = row_bounds c.plain u there in old (rows_before c u.table) u.row b.0 b.1
  where
    old : (n row : ℕ) → 0 < row → row ≤ n → (row == 0 || nat_lt n row) ≡ false
    old n row low high = grind (arith, nat_tests)

-- an updated row says what it said
updated : (c : Chain) (s : Source) (u : Token) (k i : ℕ) (o : Option Kind) → altered_cell c s ≡ None → has_row c.plain u ≡ true → place_in (listed s) u ≡ Some k → may_differ u.table i ≡ false
    → kind_in u.table i ≡ o → cell_is_kept (rows_of_chain c) (rows_after c s) u i o ≡ true
unfolding altered_cell altered_in altered_at
updated c s u k i None none there place differs kind = refl
updated c s u k i (Some x) none there place differs kind =
    let row : altered_in c s u ≡ None = silent_of (altered_in c s) s u k none place in
    let cells : first_below (altered_at c s u) (length (columns_in u.table)) ≡ None = rw (not_insert c u there) at row in
    let column = some_column (column_in u.table i) (column_there u.table i x kind) in
    let cell = held _ (may_differ u.table i) (cell_is_kept (rows_of_chain c) (rows_after c s) u i (kind_in u.table i))
    (silent (altered_at c s u) (length (columns_in u.table)) i cells (slice_get_within (columns_in u.table) i column.0 column.1)) differs in
    ap (cell_is_kept (rows_of_chain c) (rows_after c s) u i) (sym kind) ∙ cell
  where
    some_column : (o : Option Column) → IsSome o → (column : Column) × (o ≡ Some column)
    some_column (Some column) h = (column, refl)
    some_column None h = absurd cc

-- the rows by which a delta is judged are the module's after it
pub judged_all : (c : Chain) (s : Source) → HasTables c.plain → Lands c s → rows_after c s ≡ cells_of (extended c s).plain
judged_all c s has f = λ i t. judged_rows c s t has f i

kept_by : (c : Chain) (s : Source) (t : Token) (i : ℕ) (o : Option ℕ) → HasTables c.plain → Follows c s → has_row c.plain t ≡ true → may_differ t.table i ≡ false → place_in (listed s) t ≡ o
    → cell_is_kept (cells_of c.plain) (cells_of (extended c s).plain) t i (kind_in t.table i) ≡ true
kept_by c s t i None has f there differs is =
    kept_self (cells_of c.plain) (cells_of (extended c s).plain) t i (kind_in t.table i) (sym (other_cells c s t (fits c s has f.lands) is))
kept_by c s t i (Some k) has f there differs is =
    ap (λ rows. cell_is_kept (cells_of c.plain) rows t i (kind_in t.table i)) (sym (judged_all c s has f.lands))
    ∙ updated c s t k i (kind_in t.table i) (unbroken c s f.rules).altered there is differs refl

-- a delta that follows keeps the rows
pub keeps_rows : (c : Chain) (s : Source) → HasTables c.plain → Follows c s → KeepsRows c.plain (extended c s).plain
keeps_rows c s has f = record {
  there = λ t there. row_stays c s t (count_is c s has f.lands) there;
  each = λ t i there differs. kept_by c s t i (place_in (listed s) t) has f there differs refl;
}

-- what the first made lasts
pub first_lasts : (c : Chain) (a b : Source) → MayMerge c a b → Lasts (extended c a).plain (after_both c a b).plain
first_lasts c a b may = record {
  before = sound_first c a b may;
  after = sound_both c a b may;
  keeps = keeps_rows (extended c a) b (tables_after c a b may) may.second;
  shallow = may.shallow;
}

-- and so both keep the rows
pub both_keep : (c : Chain) (a b : Source) → MayMerge c a b → KeepsRows c.plain (after_both c a b).plain
both_keep c a b may =
    kept_twice c.plain (extended c a).plain (after_both c a b).plain may.sound (keeps_rows c a may.sound.owners.tables may.first) (first_lasts c a b may)

either_kept : (a b : Bool) (p : Place) → (a ≡ false → b ≡ true) → broken (not a && not b) p ≡ None
either_kept true b p h = refl
either_kept false b p h = rw (h refl) refl

-- E15
pub keeps_updates : KeepsMerged altered_cell
unfolding altered_cell altered_in altered_at
keeps_updates c a b s may says = silent_rows s (altered_in c s) (λ u there. by u (is_insert c u) refl)
  where
    cell : (u : Token) (i : ℕ) → has_row c.plain u ≡ true → altered_at c s u i ≡ None
    cell u i there = either_kept (may_differ u.table i) (cell_is_kept (rows_of_chain c) (rows_after c s) u i (kind_in u.table i)) (place.Cell u i) (λ differs.
        ap (λ rows. cell_is_kept (cells_of c.plain) rows u i (kind_in u.table i)) (all_rows_are c a b s may says) ∙ (both_keep c a b may).each u i there differs)

    by : (u : Token) (new : Bool) → is_insert c u ≡ new → (if new then None else first_below (altered_at c s u) (length (columns_in u.table))) ≡ None
    by u true is = refl
    by u false is =
        let old = old_row c u is in
        all_silent (altered_at c s u) (length (columns_in u.table)) (λ i low. cell u i (row_there c.plain u old.0 old.1))
