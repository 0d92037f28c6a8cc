-- What each cell of a module says fits its column after a delta too.
use Rattle.std.proofs.Common.{◌≡◌, ℕ, ◌≤◌, Bool, true, false, [], Option, Some, None, refl, sym, ◌∙◌, inl, inr, arith}
use Rattle.std.specs.Prelude.{◌&&◌, ◌||◌, slice_get, unwrap_or, if◌then◌else◌}
use Rattle.std.proofs.lemmas.Bool.{cases_lt, or_cases}
use Rattle.enc_base.specs.Token.{nil, is_token}
use Rattle.enc_base.specs.declared.token.Token.{Token}
use Rattle.enc_base.proofs.SmallNumbers.{EachIsByte}
use Rattle.enc_meta.proofs.EntryLengths.{joined_zero, joined_long}
use Rattle.enc_schema.specs.declared.column.Column.{Column}
use Rattle.enc_schema.specs.Schema.{columns_in, column_in}
use Rattle.enc_rows.specs.Source.{Source, raw_in}
use Rattle.enc_plain.specs.Bodies.{code_loaded, body_loaded}
use Rattle.enc_plain.specs.Cell.{Cell, number, text, blob, guid, refer, body, field, fields, is_body, is_field, kind_in, cell_count}
use Rattle.enc_plain.specs.Chain.{Chain}
use Rattle.enc_plain.specs.Fits.{Fits}
use Rattle.enc_plain.specs.Module.{Module, has_row, cells_of, cell_of}
use Rattle.enc_plain.specs.Reading.{cell_read, cell_with}
use Rattle.enc_plain.specs.Rows.{cell_at, number_at}
use Rattle.enc_plain.specs.Sound.{can_name, is_reference, field_is_sound, cell_is_sound, HasTables, HasCounts, HasKinds, HasCells}
use Rattle.enc_plain.proofs.CellsOf.{cell_there, number_there}
use Rattle.enc_plain.proofs.KindsOf.{kind_of_cell, row_table}
use Rattle.enc_plain.proofs.LoadedBytes.{AreLoaded}
use Rattle.enc_plain.proofs.ReadCells.{ReadsFor, read_fits}
use Rattle.enc_delta.specs.Delta.{listed, place_in}
use Rattle.enc_delta.specs.Rules.{heaps_after, users_after, reading_after, broken_body}
use Rattle.enc_delta.specs.Changes.{bad_locals}
use Rattle.enc_delta.specs.Rows.{cell_after, cells_after}
use Rattle.enc_rows.proofs.Listed.{get_below, get_past}
use Rattle.enc_image.proofs.SoundCells.{raw_fits}
use Rattle.enc_image.proofs.SoundTables.{field_from, place_of}
use Rattle.enc_agg.specs.Extend.{changes_of, extended}
use Rattle.enc_agg.specs.Follows.{Lands}
use Rattle.enc_agg.proofs.KeptRows.{JudgedBy, row_stays}
use Rattle.enc_agg.proofs.SoundBodies.{method_kept, method_listed}
use Rattle.enc_agg.proofs.SoundFields.{field_kept}
use Rattle.enc_agg.proofs.SoundSignatures.{Counted as IsCounted}
use Rattle.enc_agg.proofs.Tokens.{PlaceRow}
use Rattle.enc_agg.proofs.Viewing.{listed_cells, kept_cell, kept_row, number_listed}

at_most : (a b : ℕ) → b ≡ a → a ≤ b
at_most a b h = omega arith

delta_reads : (c : Chain) (s : Source) → IsCounted c s → ReadsFor (extended c s).plain (reading_after c s)
unfolding reading_after
delta_reads c s counts = record { texts = λ n x h. joined_zero (heaps_after c s) n x h; guids = λ n x h. joined_long (heaps_after c s) n x h; rows = λ t part low. at_most _ _ (counts t) }

-- a cell of a row that the delta lists is what its number stands for
same_cell : (x y : Cell) → Some x ≡ Some y → y ≡ x
same_cell x y h = cc

cell_is : (c : Chain) (s : Source) (u : Token) (k i : ℕ) (column : Column) (x : Cell) → Fits c.plain (changes_of c s) → place_in (listed s) u ≡ Some k → column_in u.table i ≡ Some column → cell_of (extended c s).plain u i ≡ Some x → x ≡ unwrap_or (cell_with (reading_after c s) (record { table = u.table; row = k }) i column (raw_in s (record { table = u.table; row = k }) i)) (number 0)
unfolding cell_after
cell_is c s u k i column x fit place e is =
    let own : Token = record { table = u.table; row = k } in
    let there : cell_at (cells_of (extended c s).plain) u i ≡ Some x = cell_there (extended c s).plain u i ∙ is in
    let at : slice_get (cells_after c s own) i ≡ Some x = rw (listed_cells c s u k fit place) at there in
    elim (cases_lt i (cell_count u.table)) [
      | inl low ↦ let made = same_cell _ _ (sym (get_below (λ (n : ℕ). unwrap_or (cell_after c s own n) (number 0)) (cell_count u.table) i low) ∙ at) in rw e at made
      | inr past ↦ let none = sym (get_past (λ (n : ℕ). unwrap_or (cell_after c s own n) (number 0)) (cell_count u.table) i past) ∙ at in absurd cc
    ]

-- what the parts need of the delta
pub record Says (c : Chain) (s : Source) : Type 0 where
  pub follows : Lands c s
  pub judged : JudgedBy c s
  pub counts : IsCounted c s
  pub bodies : broken_body c s ≡ None
  pub locals : bad_locals c s ≡ None
  pub places : (u : Token) (k : ℕ) → place_in (listed s) u ≡ Some k → PlaceRow s u k
  pub stream : EachIsByte s.stream
  pub loaded : AreLoaded s.loaded

listed_body : (c : Chain) (s : Source) (u : Token) (column : Column) (k : ℕ) → Says c s → place_in (listed s) u ≡ Some k → u.table ≡ 0x06 → cell_is_sound (extended c s).plain u column (body (body_loaded s.loaded (users_after c s) (raw_in s (record { table = u.table; row = k }) 0))) ≡ true
unfolding body_loaded columns_in
listed_body c s u column k says place is =
    let own : Token = record { table = u.table; row = k } in
    let flags : number_at (cells_of (extended c s).plain) u 1 ≡ raw_in s own 1 = sym (number_there (extended c s).plain u 1 (raw_in s own 1) (number_listed c s u k 1 (raw_in s own 1) says.follows says.judged.fit place (rw is refl) refl)) in
    method_listed c s u column k (code_loaded s.loaded (raw_in s own 0)) says.judged says.counts says.loaded says.bodies says.locals (says.places u k place) place is flags refl

no_bytes : (m : Module) (u : Token) (column : Column) → cell_is_sound m u column (field []) ≡ true
unfolding field_is_sound
no_bytes m u column = refl

by_place : (c : Chain) (s : Source) (u : Token) (k i : ℕ) (column : Column) (b f : Bool) → Says c s → HasTables (extended c s).plain → HasCounts (extended c s).plain → has_row (extended c s).plain u ≡ true → place_in (listed s) u ≡ Some k → column_in u.table i ≡ Some column → is_body u.table i ≡ b → cell_is_sound (extended c s).plain u column (unwrap_or (if b then Some (body (body_loaded s.loaded (users_after c s) (raw_in s (record { table = u.table; row = k }) i))) else if f then Some (field []) else cell_read (reading_after c s) column (raw_in s (record { table = u.table; row = k }) i)) (number 0)) ≡ true
by_place c s u k i column true f says tables few there place e hb =
    let p = place_of u.table i 0x06 hb in
    rw p.1 (listed_body c s u column k says place p.0)
by_place c s u k i column false true says tables few there place e hb = no_bytes (extended c s).plain u column
by_place c s u k i column false false says tables few there place e hb =
    let own : Token = record { table = u.table; row = k } in
    let t = row_table (extended c s).plain u tables few there in
    read_fits (extended c s).plain u (reading_after c s) i column (raw_in s own i) (delta_reads c s says.counts) t.0 t.1 e (raw_fits s own i column says.stream e)

listed_cell : (c : Chain) (s : Source) (u : Token) (k i : ℕ) (column : Column) (x : Cell) → Says c s → HasTables (extended c s).plain → HasCounts (extended c s).plain → has_row (extended c s).plain u ≡ true → place_in (listed s) u ≡ Some k → column_in u.table i ≡ Some column → cell_of (extended c s).plain u i ≡ Some x → cell_is_sound (extended c s).plain u column x ≡ true
unfolding cell_with reading_after
listed_cell c s u k i column x says tables few there place e is =
    let made = cell_is c s u k i column x says.judged.fit place e is in
    rw made (by_place c s u k i column (is_body u.table i) (is_field u.table i) says tables few there place e refl)

-- and one of a row that it doesn't list is what it was
reference_kept : (c : Chain) (s : Source) (column : Column) (t : Token) → IsCounted c s → is_reference c.plain column t ≡ true → is_reference (extended c s).plain column t ≡ true
unfolding is_reference
reference_kept c s column t counts h =
    elim (or_cases (is_token t nil) (can_name column t.table && has_row c.plain t) h) [
      | inl none ↦ rw none refl
      | inr some ↦ let a = both_true (can_name column t.table) (has_row c.plain t) some in or_right (is_token t nil) _ (rw (a.0, row_stays c s t counts a.1) refl)
    ]
  where
    both_true : (a b : Bool) → (a && b) ≡ true → (a ≡ true) × (b ≡ true)
    both_true true b h = (refl, h)
    both_true false b h = absurd cc

    or_right : (a b : Bool) → b ≡ true → (a || b) ≡ true
    or_right true b h = refl
    or_right false b h = h

no_bodies_field : (c : Chain) (u : Token) (i : ℕ) → kind_in u.table i ≡ Some fields → u.table ≡ 0x1D
no_bodies_field c u i kind = (place_of u.table i 0x1D (field_from (is_body u.table i) (is_field u.table i) (column_in u.table i) kind)).0

cell_kept : (c : Chain) (s : Source) (u : Token) (i : ℕ) (column : Column) (x : Cell) → Says c s → HasKinds c.plain → HasCells c.plain → has_row c.plain u ≡ true → place_in (listed s) u ≡ None → column_in u.table i ≡ Some column → cell_of c.plain u i ≡ Some x → cell_is_sound c.plain u column x ≡ true → cell_is_sound (extended c s).plain u column x ≡ true
cell_kept c s u i column (number n) says kinds cells row none e is h = h
cell_kept c s u i column (text there) says kinds cells row none e is h = h
cell_kept c s u i column (blob there) says kinds cells row none e is h = h
cell_kept c s u i column (guid there) says kinds cells row none e is h = h
cell_kept c s u i column (refer t) says kinds cells row none e is h = reference_kept c s column t says.counts h
cell_kept c s u i column (body None) says kinds cells row none e is h = refl
cell_kept c s u i column (body (Some b)) says kinds cells row none e is h = method_kept c s u b says.judged says.counts none h
cell_kept c s u i column (field bytes) says kinds cells row none e is h =
    let kind = kind_of_cell c.plain u i column (field bytes) kinds row e is in
    field_kept c s u bytes says.judged says.counts kinds cells row (no_bodies_field c u i kind) none h

cell_by : (c : Chain) (s : Source) (u : Token) (i : ℕ) (column : Column) (x : Cell) (o : Option ℕ) → Says c s → HasTables (extended c s).plain → HasCounts (extended c s).plain → HasKinds c.plain → HasCells c.plain → place_in (listed s) u ≡ o → has_row (extended c s).plain u ≡ true → column_in u.table i ≡ Some column → cell_of (extended c s).plain u i ≡ Some x → cell_is_sound (extended c s).plain u column x ≡ true
cell_by c s u i column x (Some k) says tables few kinds cells place there e is = listed_cell c s u k i column x says tables few there place e is
cell_by c s u i column x None says tables few kinds cells place there e is =
    let row = kept_row c s u says.judged.fit place there in
    let old : cell_of c.plain u i ≡ Some x = sym (kept_cell c s u i says.judged.fit place) ∙ is in
    cell_kept c s u i column x says kinds cells row place e old (cells.each u i column x row e old)

pub cells_after_are : (c : Chain) (s : Source) → Says c s → HasTables (extended c s).plain → HasCounts (extended c s).plain → HasKinds c.plain → HasCells c.plain → HasCells (extended c s).plain
cells_after_are c s says tables few kinds cells = record { each = λ u i column x there e is. cell_by c s u i column x (place_in (listed s) u) says tables few kinds cells refl there e is }
