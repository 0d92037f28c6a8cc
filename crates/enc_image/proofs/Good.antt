-- Where no cell is refused, each cell is good.
use Rattle.std.proofs.Common.{◌≡◌, ℕ, zero, suc, ◌+◌, ◌<◌, Bool, true, false, length, Option, Some, None, refl, sym, arith}
use Rattle.std.specs.Prelude.{is_some, not, ◌&&◌, ◌==◌, option_map, option_and_then, if◌then◌else◌, nat_lt, nat_le}
use Rattle.std.proofs.lemmas.Bool.Decides.{nat_tests}
use Rattle.std.proofs.lemmas.Option.{slice_get_within}
use Rattle.enc_base.specs.Token.{nth_row}
use Rattle.enc_base.specs.declared.token.Token.{Token}
use Rattle.enc_base.specs.declared.refusal.Place.{Place}
use Rattle.enc_base.specs.Order.{or_else}
use Rattle.enc_base.proofs.First.{silent}
use Rattle.enc_schema.specs.declared.column.Column.{Column}
use Rattle.enc_schema.specs.declared.column.Column.TheVariants.{Index, Coded}
use Rattle.enc_schema.specs.declared.column.Coding.{Coding}
use Rattle.enc_schema.specs.Coding.{decoded}
use Rattle.enc_schema.specs.Children.{is_child_table}
use Rattle.enc_schema.specs.Schema.{columns_in, column_in, is_offset}
use Rattle.enc_rows.specs.Layout.{Layout, rows_of}
use Rattle.enc_rows.specs.Runs.{times_named}
use Rattle.enc_rows.specs.Fault.{is_past, is_bad_index, index_fault_at, owner_fault, index_fault_in_row, index_fault_in, index_fault}
use Rattle.enc_rows.specs.Source.{Source, raw_in}
use Rattle.enc_plain.specs.Reading.{Reading, within, index_token, cell_read}
use Rattle.enc_image.specs.Base.{cell_for, offset_fault_at, offset_fault_in_row, offset_fault_in, offset_fault, rows_from, rule, cells_fault}

neither : {A : Type 0} (a b : Option A) → or_else a b ≡ None → (a ≡ None) × (b ≡ None)
neither None None h = (refl, refl)
neither (Some x) b h = absurd cc
neither None (Some x) h = absurd cc

no_place : (n : ℕ) (p : Option Place) → rule n p ≡ None → p ≡ None
no_place n None h = refl
no_place n (Some x) h = absurd cc

-- no index is refused
pub no_index_fault : (s : Source) → cells_fault s ≡ None → index_fault (rows_from s) ≡ None
unfolding cells_fault
no_index_fault s h = no_place 7 _ (neither _ _ h).0

-- and no offset
pub no_offset_fault : (s : Source) → cells_fault s ≡ None → offset_fault s ≡ None
unfolding cells_fault
no_offset_fault s h = no_place 8 _ (neither _ _ (neither _ _ h).1).0

kept : (b c : Bool) → b ≡ true → (b && not c) ≡ false → c ≡ true
kept b true h e = refl
kept true false h e = sym e
kept false false h e = h

if_none : {A : Type 0} (b : Bool) (x : A) → (if b then Some x else None) ≡ None → b ≡ false
if_none true x h = absurd cc
if_none false x h = refl

-- an offset at which a silent rule looks is good
pub good_offset : (s : Source) (table r i : ℕ) (c : Column) → offset_fault s ≡ None → table < 0x2D → r < rows_of s.layout table → column_in table i ≡ Some c → is_offset c ≡ true → is_some (cell_for s c (raw_in s (nth_row table r) i)) ≡ true
unfolding offset_fault offset_fault_in offset_fault_in_row offset_fault_at
good_offset s table r i c none there row column speaks =
    let in_table = silent (offset_fault_in s) 0x2D table none there in
    let in_row = silent (offset_fault_in_row s table) (rows_of s.layout table) r in_table row in
    let in_cell = silent (offset_fault_at s (nth_row table r)) (length (columns_in table)) i in_row (slice_get_within (columns_in table) i c column) in
    kept (is_offset c) _ speaks (if_none _ _ (rw column at in_cell))

-- and no index is bad
pub good_index : (s : Source) (table r i : ℕ) (c : Column) → index_fault (rows_from s) ≡ None → table < 0x2D → r < rows_of s.layout table → column_in table i ≡ Some c → is_bad_index (rows_from s) table r i c ≡ false
unfolding index_fault index_fault_in index_fault_in_row index_fault_at
good_index s table r i c none there row column =
    let in_table = silent (index_fault_in (rows_from s)) 0x40 table none (omega arith) in
    let in_row = silent (index_fault_in_row (rows_from s) table) (rows_of s.layout table) r in_table row in
    let in_columns = (neither _ _ in_row).0 in
    let in_cell = silent (index_fault_at (rows_from s) table r) (length (columns_in table)) i in_columns (slice_get_within (columns_in table) i c column) in
    if_none _ _ (rw column at in_cell)

once : (b : Bool) (n : ℕ) → b ≡ true → (b && not (n == 1)) ≡ false → n ≡ 1
once b n h e = grind (arith, nat_tests)

-- and each row that has owners is named exactly once
pub named_once : (s : Source) (table r : ℕ) → index_fault (rows_from s) ≡ None → is_child_table table ≡ true → table < 0x2D → r < rows_of s.layout table → times_named (rows_from s) table (r + 1) ≡ 1
unfolding index_fault index_fault_in index_fault_in_row owner_fault
named_once s table r none child there row =
    let in_table = silent (index_fault_in (rows_from s)) 0x40 table none (omega arith) in
    let in_row = silent (index_fault_in_row (rows_from s) table) (rows_of s.layout table) r in_table row in
    once (is_child_table table) _ child (if_none _ _ (neither _ _ in_row).1)

index_within : (count : ℕ → ℕ) (table n : ℕ) → nat_lt (count table) n ≡ false → within count (index_token table n) ≡ Some (index_token table n)
index_within count table zero h = let yes0 : nat_le 0 (count 0) ≡ true = grind (arith, nat_tests) in rw yes0 refl
index_within count table (suc n) h = let there : nat_le (suc n) (count table) ≡ true = grind (arith, nat_tests) in rw there refl

-- an index that isn't bad stands for a cell
pub index_there : (r : Reading) (table n : ℕ) → nat_lt (r.count table) n ≡ false → is_some (cell_read r (Index table) n) ≡ true
unfolding cell_read
index_there r table n h = rw (index_within r.count table n h) refl

coded_within : (l : Layout) (o : Option Token) → is_past l o ≡ false → is_some (option_and_then (within (rows_of l)) o) ≡ true
coded_within l None h = absurd cc
coded_within l (Some t) h = let there : nat_le t.row (rows_of l t.table) ≡ true = grind (arith, nat_tests) in rw there refl

mapped : {A B : Type 0} (f : A → B) (o : Option A) → is_some o ≡ true → is_some (option_map f o) ≡ true
mapped f (Some x) h = refl
mapped f None h = h

-- and so does a coded one
pub coded_there : (s : Source) (kind : Coding) (n : ℕ) → is_past s.layout (decoded kind n) ≡ false → is_some (cell_for s (Coded kind) n) ≡ true
unfolding cell_read
coded_there s kind n h = mapped _ _ (coded_within s.layout (decoded kind n) h)
