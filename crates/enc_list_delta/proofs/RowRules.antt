-- The rows of a delta that says what a list states break no rule on cells, updates and signatures.
use Rattle.std.proofs.Common.{◌≡◌, ℕ, zero, suc, ◌<◌, ◌≤◌, Bool, true, false, List, [], ◌∷◌, length, Option, Some, None, refl, sym, ap, ◌∙◌, arith, subst}
use Rattle.std.specs.Prelude.{◌&&◌, ◌==◌, not, is_some, nat_lt, bytes_eq, option_and_then, slice_get, if◌then◌else◌}
use Rattle.std.proofs.lemmas.Bool.Decides.{nat_tests}
use Rattle.enc_base.specs.Order.{first_below}
use Rattle.enc_base.specs.Token.{is_token, nth_row}
use Rattle.enc_base.specs.declared.refusal.Place.TheVariants as place
use Rattle.enc_base.specs.declared.token.Token.{Token}
use Rattle.enc_meta.specs.BuiltLaws.{heaps_joined}
use Rattle.enc_rows.specs.Layout.{rows_of}
use Rattle.enc_rows.specs.Source.{Source, raw_in}
use Rattle.enc_schema.specs.Schema.{columns_in, column_in, is_offset}
use Rattle.enc_base.specs.Tables as tables
use Rattle.enc_schema.specs.declared.column.Column.{Column}
use Rattle.enc_schema.specs.declared.column.Column.TheVariants.{Num8, Num16, Num32, Text, Guid, Blob, Index, Coded, Run}
use Rattle.enc_plain.specs.Cell.{Cell, Kind, numbers, texts, blobs, guids, references, bodies, fields, kind_of, is_body, is_field, kind_in, cell_count}
use Rattle.enc_plain.specs.Chain.{Chain}
use Rattle.enc_plain.specs.Module.{has_row, cells_of}
use Rattle.enc_plain.specs.Reading.{Reading, cell_read, cell_with}
use Rattle.enc_plain.specs.Rows.{Rows, bytes_at}
use Rattle.enc_plain.specs.Signatures.{signature_column, is_signature}
use Rattle.enc_plain.specs.Alike.{refs_alike, tokens_alike, signatures_alike}
use Rattle.enc_plain.specs.Sound.{row_count}
use Rattle.enc_plain.proofs.Columns.{in_cells}
use Rattle.enc_delta.specs.Delta.{listed, of_table}
use Rattle.enc_delta.specs.Rows.{rows_of_chain, rows_after}
use Rattle.enc_delta.specs.Rules.{broken, is_insert, rows_with, reading_after, is_index, cell_breaks, cell_fault, row_fault, table_fault, bad_index, bad_offset}
use Rattle.enc_delta.specs.Changes.{may_differ, is_signature_column, cell_is_kept, altered_at, altered_in, of_nth, altered_cell, bad_signature_at, bad_signature_in, bad_signature}
use Rattle.enc_agg.proofs.Viewing.{has_is}
use Rattle.enc_edit_list.specs.declared.edit.EditList.{EditList}
use Rattle.enc_rules.specs.Edited.{edited}
use Rattle.enc_memory_module.proofs.Agreed.{numbers_stay, bytes_stay, tokens_stay}
use Rattle.enc_memory_module.proofs.Grown.{count_is}
use Rattle.enc_list_delta.specs.Delta.{is_edited, tokens_written, cells_written}
use Rattle.enc_list_delta.specs.Holds.{MayFollow, heaps_written, reading_with, SaysCell, SaysDelta}
use Rattle.enc_list_delta.specs.Laws.{KeepsTo}
use Rattle.enc_list_delta.proofs.CellsRead.{ArePlaced, reading_is, rows_are, edited_row, many_cells, sound_edited}
use Rattle.enc_list_delta.proofs.ModuleRules.{same_bytes}
use Rattle.enc_list_delta.proofs.Placed.{placed}
use Rattle.enc_list_delta.proofs.SameRows.{same_function}
use Rattle.enc_list_delta.proofs.Tokens.{is_written}
use Rattle.enc_list_delta.proofs.TokensInserts.{all_silent, insert_is}

-- a rule on columns that asks of none whose numbers are places or runs
abbrev AsksCells : (Column → Bool) → Type 0
AsksCells asks = (column : Column) → asks column ≡ true → (column ≡ Num32 → ⊥) × (is_some (kind_of column) ≡ true)

indices_ask : AsksCells is_index
indices_ask (Index t) h = (λ e. absurd cc, refl)
indices_ask (Coded k) h = (λ e. absurd cc, refl)
indices_ask Num8 h = absurd cc
indices_ask Num16 h = absurd cc
indices_ask Num32 h = absurd cc
indices_ask Text h = absurd cc
indices_ask Guid h = absurd cc
indices_ask Blob h = absurd cc
indices_ask (Run t) h = absurd cc

offsets_ask : AsksCells is_offset
offsets_ask Text h = (λ e. absurd cc, refl)
offsets_ask Guid h = (λ e. absurd cc, refl)
offsets_ask Blob h = (λ e. absurd cc, refl)
offsets_ask Num8 h = absurd cc
offsets_ask Num16 h = absurd cc
offsets_ask Num32 h = absurd cc
offsets_ask (Index t) h = absurd cc
offsets_ask (Coded k) h = absurd cc
offsets_ask (Run t) h = absurd cc

-- places are numbers of four bytes
place_column : (t i : ℕ) (column : Column) → column_in t i ≡ Some column → (column ≡ Num32 → ⊥) → (is_body t i ≡ false) × (is_field t i ≡ false)
unfolding columns_in
place_column t i column is not = (by_body (is_body t i) refl, by_field (is_field t i) refl)
  where
    by_body : (b : Bool) → is_body t i ≡ b → b ≡ false
    by_body false x = refl
    by_body true x =
        let t6 : t ≡ 6 = grind (arith, nat_tests, x) in
        let i0 : i ≡ 0 = grind (arith, nat_tests, x) in
        let e : column_in 6 0 ≡ Some column = subst (λ j. column_in 6 j ≡ Some column) i0 (subst (λ u. column_in u i ≡ Some column) t6 is) in
        absurd (not cc)

    by_field : (b : Bool) → is_field t i ≡ b → b ≡ false
    by_field false x = refl
    by_field true x =
        let t6 : t ≡ 0x1D = grind (arith, nat_tests, x) in
        let i0 : i ≡ 0 = grind (arith, nat_tests, x) in
        let e : column_in 0x1D 0 ≡ Some column = subst (λ j. column_in 0x1D j ≡ Some column) i0 (subst (λ u. column_in u i ≡ Some column) t6 is) in
        absurd (not cc)

plain_read : (r : Reading) (u : Token) (i : ℕ) (column : Column) (x : ℕ) → is_body u.table i ≡ false → is_field u.table i ≡ false → cell_with r u i column x ≡ cell_read r column x
unfolding cell_with
plain_read r u i column x b f = rw (b, f) refl

some_at : {A : Type 0} (xs : List A) (i : ℕ) → i < length xs → is_some (slice_get xs i) ≡ true
some_at [] i low = absurd (omega (arith, low))
some_at (x ∷ xs) zero low = refl
some_at (x ∷ xs) (suc i) low = some_at xs i (omega (arith, low))

-- what a number says that a rule asks of
asked : (r : Reading) (u : Token) (i : ℕ) (column : Column) (x : ℕ) (cell : Option Cell) → is_some (kind_of column) ≡ true → SaysCell r u i column x cell → cell_with r u i column x ≡ cell
asked r u i (Run child) x cell kind h = absurd cc
asked r u i Num8 x cell kind h = h
asked r u i Num16 x cell kind h = h
asked r u i Num32 x cell kind h = h
asked r u i Text x cell kind h = h
asked r u i Guid x cell kind h = h
asked r u i Blob x cell kind h = h
asked r u i (Index t) x cell kind h = h
asked r u i (Coded k) x cell kind h = h

cell_good : (c : Chain) (l : EditList) (s : Source) (asks : Column → Bool) (u : Token) (n i : ℕ) (column : Column) → AsksCells asks → MayFollow c l → SaysDelta c l s
    → slice_get (tokens_written c l.edits u.table) n ≡ Some u → is_edited c.plain l.edits u ≡ true → column_in u.table i ≡ Some column → cell_breaks c s asks (nth_row u.table n) i column ≡ false
cell_good c l s asks u n i column plain may says there about is = by (asks column) refl
  where
    good : asks column ≡ true → is_some (cell_read (reading_after c s) column (raw_in s (nth_row u.table n) i)) ≡ true
    good asked_ =
        let all = placed c l s may says in
        let p = plain column asked_ in
        let row = says.code.2 u.table n u (all.tables u about) there in
        let b = place_column u.table i column is p.0 in
        let r = reading_with c l (heaps_joined c.heaps (heaps_written c l)) says.code.0 in
        let cells = cells_written c.plain l.edits u in
        let many : length cells ≡ cell_count u.table = many_cells (edited c.plain l.edits) u cells (sound_edited c l may).kinds (edited_row c l u may all.none about) in
        let low : i < length cells = omega (arith, many, in_cells u.table i column is p.1) in
        ap (λ (q : Reading). is_some (cell_read q column (raw_in s (nth_row u.table n) i))) (reading_is c l s all says)
        ∙ ap is_some (sym (plain_read r u i column (raw_in s (nth_row u.table n) i) b.0 b.1))
        ∙ ap is_some (asked r u i column (raw_in s (nth_row u.table n) i) (slice_get cells i) p.1 (row.each i column is))
        ∙ some_at cells i low

    by : (a : Bool) → asks column ≡ a → (asks column && not (is_some (cell_read (reading_after c s) column (raw_in s (nth_row u.table n) i)))) ≡ false
    by false is_ = rw is_ refl
    by true is_ = rw (is_, good is_) refl

cells_good : (asks : Column → Bool) (c : Chain) (l : EditList) (s : Source) → AsksCells asks → MayFollow c l → SaysDelta c l s → first_below (table_fault c s asks) tables.table_count ≡ None
unfolding table_fault row_fault cell_fault
cells_good asks c l s plain may says = all_silent (table_fault c s asks) tables.table_count (λ t low. all_silent (row_fault c s asks t) (rows_of s.layout t) (λ n few. at_row t n (slice_get (of_table t (listed s)) n) refl))
  where
    at_cell : (t n i : ℕ) (u : Token) (o : Option Column) → u.table ≡ t → slice_get (tokens_written c l.edits u.table) n ≡ Some u → is_edited c.plain l.edits u ≡ true → column_in t i ≡ o
        → option_and_then (λ (column : Column). broken (cell_breaks c s asks (nth_row t n) i column) (place.Cell u i)) o ≡ None
    at_cell t n i u None own there about is = refl
    at_cell t n i u (Some column) own there about is =
        let good = cell_good c l s asks u n i column plain may says there about (subst (λ v. column_in v i ≡ Some column) (sym own) is) in
        ap (λ b. broken b (place.Cell u i)) (subst (λ v. cell_breaks c s asks (nth_row v n) i column ≡ false) own good)

    at_row : (t n : ℕ) (o : Option Token) → slice_get (of_table t (listed s)) n ≡ o
        → option_and_then (λ (token : Token). first_below (cell_fault c s asks token (nth_row t n)) (length (columns_in t))) o ≡ None
    at_row t n None is = refl
    at_row t n (Some u) is =
        let there : slice_get (tokens_written c l.edits t) n ≡ Some u = subst (λ (ts : List Token). slice_get ts n ≡ Some u) ((placed c l s may says).tabled t) is in
        let w = is_written c l.edits t n u there in
        let own : slice_get (tokens_written c l.edits u.table) n ≡ Some u = subst (λ v. slice_get (tokens_written c l.edits v) n ≡ Some u) (sym w.own) there in
        all_silent (cell_fault c s asks u (nth_row t n)) (length (columns_in t)) (λ i few. at_cell t n i u (column_in t i) w.own own w.about refl)

pub keeps_indices : KeepsTo bad_index
unfolding bad_index
keeps_indices c l s may says = cells_good is_index c l s indices_ask may says

pub keeps_offsets : KeepsTo bad_offset
unfolding bad_offset
keeps_offsets c l s may says = cells_good is_offset c l s offsets_ask may says

-- tokens alike themselves
token_self : (t : Token) → is_token t t ≡ true
token_self t = grind (arith, nat_tests)

tokens_self : (rows : Rows) (t : Token) → tokens_alike rows t t ≡ true
unfolding tokens_alike refs_alike
tokens_self rows t = rw (token_self t) refl

signatures_self : (rows : Rows) (table : ℕ) (b : List ℕ) → signatures_alike rows table b b ≡ true
unfolding signatures_alike
signatures_self rows table b = rw (same_bytes b) refl

number_self : (n : ℕ) → (n == n) ≡ true
number_self n = grind (arith, nat_tests)

-- a column of a kind whose number is no place is no body's
kind_is : (t i : ℕ) (k : Kind) → kind_in t i ≡ Some k → (k ≡ bodies → ⊥) → is_body t i ≡ false
kind_is t i k is not = by (is_body t i) refl is
  where
    by : (b : Bool) → is_body t i ≡ b → (if b then Some bodies else if is_field t i then Some fields else option_and_then kind_of (column_in t i)) ≡ Some k → is_body t i ≡ false
    by false e h = e
    by true e h = let same : bodies ≡ k = cc in absurd (not (sym same))

-- E15: what was there says what it said
kept_cell : (c : Chain) (l : EditList) (s : Source) (u : Token) (i : ℕ) (o : Option Kind) → MayFollow c l → ArePlaced c l s → u.row ≤ row_count c.plain u.table → kind_in u.table i ≡ o
    → cell_is_kept (rows_of_chain c) (cells_of (edited c.plain l.edits)) u i o ≡ true
kept_cell c l s u i None may all low is = refl
kept_cell c l s u i (Some numbers) may all low is =
    rw (numbers_stay c l u i may.sound.owners.tables all.none (kind_is u.table i numbers is (λ e. absurd cc)) low) (number_self _)
kept_cell c l s u i (Some texts) may all low is =
    rw (bytes_stay c l u i may.sound.owners.tables all.none (kind_is u.table i texts is (λ e. absurd cc)) low) (same_bytes (bytes_at (cells_of c.plain) u i))
kept_cell c l s u i (Some blobs) may all low is =
    rw (bytes_stay c l u i may.sound.owners.tables all.none (kind_is u.table i blobs is (λ e. absurd cc)) low) (either (is_signature_column u.table i))
  where
    either : (b : Bool) → (if b then signatures_alike (cells_of (edited c.plain l.edits)) u.table (bytes_at (cells_of c.plain) u i) (bytes_at (cells_of c.plain) u i)
        else bytes_eq (bytes_at (cells_of c.plain) u i) (bytes_at (cells_of c.plain) u i)) ≡ true
    either true = signatures_self _ u.table (bytes_at (cells_of c.plain) u i)
    either false = same_bytes (bytes_at (cells_of c.plain) u i)
kept_cell c l s u i (Some references) may all low is =
    rw (tokens_stay c l u i may.sound.owners.tables all.none (kind_is u.table i references is (λ e. absurd cc)) low) (tokens_self _ _)
kept_cell c l s u i (Some guids) may all low is = refl
kept_cell c l s u i (Some bodies) may all low is = refl
kept_cell c l s u i (Some fields) may all low is = refl

either_kept : (a b : Bool) → b ≡ true → (not a && not b) ≡ false
either_kept true b h = refl
either_kept false b h = rw h refl

pub keeps_updates : KeepsTo altered_cell
unfolding altered_cell altered_in altered_at
keeps_updates c l s may says = all_silent (of_nth (altered_in c s) s) (length (listed s)) (λ k low. at k (slice_get (listed s) k) refl)
  where
    old_row : (u : Token) → is_edited c.plain l.edits u ≡ true → is_insert c u ≡ false → u.row ≤ row_count c.plain u.table
    old_row u about is = let e : nat_lt (row_count c.plain u.table) u.row ≡ false = sym (insert_is c l u (placed c l s may says).none about) ∙ is in grind (arith, nat_tests, e)

    silent_cell : (u : Token) (i : ℕ) → u.row ≤ row_count c.plain u.table → altered_at c s u i ≡ None
    silent_cell u i low =
        ap (λ rows. broken (not (may_differ u.table i) && not (cell_is_kept (rows_of_chain c) rows u i (kind_in u.table i))) (place.Cell u i)) (rows_are c l s may (placed c l s may says) says)
        ∙ ap (λ b. broken b (place.Cell u i)) (either_kept (may_differ u.table i) _ (kept_cell c l s u i (kind_in u.table i) may (placed c l s may says) low refl))

    by : (u : Token) (b : Bool) → is_edited c.plain l.edits u ≡ true → is_insert c u ≡ b → (if b then None else first_below (altered_at c s u) (length (columns_in u.table))) ≡ None
    by u true about is = refl
    by u false about is = all_silent (altered_at c s u) (length (columns_in u.table)) (λ i few. silent_cell u i (old_row u about is))

    at : (k : ℕ) (o : Option Token) → slice_get (listed s) k ≡ o → option_and_then (altered_in c s) o ≡ None
    at k None is = refl
    at k (Some u) is = by u (is_insert c u) ((placed c l s may says).listed_ k u is) refl

-- E21: the edited module's signatures are good, by its own rows
pub row_there : (c : Chain) (l : EditList) (s : Source) (u : Token) → MayFollow c l → ArePlaced c l s → is_edited c.plain l.edits u ≡ true → has_row (edited c.plain l.edits) u ≡ true
row_there c l s u may all about = has_is (edited c.plain l.edits) u ∙ ap is_some (edited_row c l u may all.none about)

pub counts_are : (c : Chain) (l : EditList) (s : Source) → MayFollow c l → ArePlaced c l s → rows_with c (listed s) ≡ row_count (edited c.plain l.edits)
counts_are c l s may all = same_function (rows_with c (listed s)) (row_count (edited c.plain l.edits)) (λ t. all.counts t ∙ sym (count_is c l t may.sound.owners.tables all.none))

pub keeps_signatures : KeepsTo bad_signature
unfolding bad_signature bad_signature_in bad_signature_at
keeps_signatures c l s may says = all_silent (of_nth (bad_signature_in c s) s) (length (listed s)) (λ k low. at k (slice_get (listed s) k) refl)
  where
    at_column : (u : Token) (o : Option ℕ) → is_edited c.plain l.edits u ≡ true → signature_column u.table ≡ o → option_and_then (bad_signature_at c s u) o ≡ None
    at_column u None about is = refl
    at_column u (Some i) about is =
        let all = placed c l s may says in
        let good = (sound_edited c l may).signatures.each u i (row_there c l s u may all about) is in
        ap (λ count. broken (not (is_signature count u.table (bytes_at (rows_after c s) u i))) (place.Cell u i)) (counts_are c l s may all)
        ∙ ap (λ rows. broken (not (is_signature (row_count (edited c.plain l.edits)) u.table (bytes_at rows u i))) (place.Cell u i)) (rows_are c l s may all says)
        ∙ ap (λ b. broken (not b) (place.Cell u i)) good

    at : (k : ℕ) (o : Option Token) → slice_get (listed s) k ≡ o → option_and_then (bad_signature_in c s) o ≡ None
    at k None is = refl
    at k (Some u) is = at_column u (signature_column u.table) ((placed c l s may says).listed_ k u is) refl
