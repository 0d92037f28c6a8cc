-- A moved number of a delta's row says the cell that the delta gives, by the heaps, rows and code of the merged one.
use Rattle.std.proofs.Common.{◌≡◌, ℕ, ◌+◌, ◌-◌, ◌≤◌, Bool, true, false, List, [], ◌∷◌, length, Option, Some, None, refl, ap, ◌∙◌, arith}
use Rattle.std.specs.Prelude.{nat_le, ◌&&◌, not, is_some, if◌then◌else◌, option_map, option_and_then}
use Rattle.std.proofs.lemmas.Bool.Decides.{nat_tests}
use Rattle.std.proofs.lemmas.Option.{slice_get_within}
use Rattle.enc_base.proofs.First.{silent}
use Rattle.enc_base.specs.Order.{first_below}
use Rattle.enc_base.specs.declared.refusal.Place.{Place}
use Rattle.enc_base.specs.declared.token.Token.{Token}
use Rattle.enc_meta.specs.Heaps.{Counted}
use Rattle.enc_meta.specs.Joined.{joined_text}
use Rattle.enc_schema.specs.Coding.{decoded}
use Rattle.enc_schema.specs.Schema.{column_in, columns_in, is_offset}
use Rattle.enc_schema.specs.declared.column.Column.{Column}
use Rattle.enc_schema.specs.declared.column.Column.TheVariants.{Num8, Num16, Num32, Text, Guid, Blob, Index, Coded, Run}
use Rattle.enc_rows.specs.Layout.{rows_of}
use Rattle.enc_rows.specs.Source.{Source, raw_in}
use Rattle.enc_plain.specs.Cell as cells
use Rattle.enc_plain.specs.Cell.{Cell, Kind, cell_count, is_body, is_field, kind_in, kind_of}
use Rattle.enc_plain.specs.Chain.{Chain}
use Rattle.enc_plain.specs.Reading.{Reading, cell_read, index_token, within}
use Rattle.enc_plain.specs.Sound.{number_fits}
use Rattle.enc_delta.specs.Rules.{broken, cell_fault, is_index, reading_after, row_fault, table_fault, bad_index, bad_offset}
use Rattle.enc_delta.proofs.Unbroken.{landed}
use Rattle.enc_agg.specs.Follows.{Lands}
use Rattle.enc_agg.proofs.Tokens.{PlaceRow}
use Rattle.enc_merged_delta.specs.Held.{in_column, text_moved}

-- what one reading reads the other does, where empty texts are told by 0
pub record Carried (old new : Reading) (heaps : List Counted) : Type 0 where
  pub text : (n : ℕ) (x : List ℕ) → old.text n ≡ Some x → joined_text heaps n ≡ Some x
  pub full : (n b : ℕ) (x : List ℕ) → old.text n ≡ Some (b ∷ x) → new.text n ≡ Some (b ∷ x)
  pub empty : new.text 0 ≡ Some []
  pub blob : (n : ℕ) (x : List ℕ) → old.blob n ≡ Some x → new.blob n ≡ Some x
  pub guid : (n : ℕ) (x : List ℕ) → old.guid n ≡ Some x → new.guid n ≡ Some x
  pub count : (t : ℕ) → old.count t ≤ new.count t

mapped : {A : Type 0} (o p : Option A) (f : A → Cell) (cell : Cell) → ((a : A) → o ≡ Some a → p ≡ Some a) → option_map f o ≡ Some cell → option_map f p ≡ Some cell
mapped None p f cell more e = absurd cc
mapped (Some a) p f cell more e = ap (option_map f) (more a refl) ∙ e

within_more : (f g : ℕ → ℕ) (t u : Token) → ((k : ℕ) → f k ≤ g k) → within f t ≡ Some u → within g t ≡ Some u
within_more f g t u le e = by (nat_le t.row (f t.table)) refl e
  where
    by : (b : Bool) → nat_le t.row (f t.table) ≡ b → (if b then Some t else None) ≡ Some u → (if nat_le t.row (g t.table) then Some t else None) ≡ Some u
    by true f e =
        let more = le t.table in
        let there : nat_le t.row (g t.table) ≡ true = grind (arith, nat_tests, f, more) in
        ap (λ (c : Bool). if c then Some t else None) there ∙ e
    by false f e = absurd cc

coded_more : (f g : ℕ → ℕ) (o : Option Token) (u : Token) → ((k : ℕ) → f k ≤ g k) → option_and_then (within f) o ≡ Some u → option_and_then (within g) o ≡ Some u
coded_more f g None u le e = absurd cc
coded_more f g (Some t) u le e = within_more f g t u le e

text_carried : (old new : Reading) (heaps : List Counted) (n : ℕ) (cell : Cell) (o : Option (List ℕ)) → Carried old new heaps → old.text n ≡ o
    → option_map cells.text o ≡ Some cell → option_map cells.text (new.text (text_moved (joined_text heaps n) n)) ≡ Some cell
text_carried old new heaps n cell None carried is e = absurd cc
text_carried old new heaps n cell (Some []) carried is e =
    ap (λ o. option_map cells.text (new.text (text_moved o n))) (carried.text n [] is) ∙ ap (option_map cells.text) carried.empty ∙ e
text_carried old new heaps n cell (Some (b ∷ x)) carried is e =
    ap (λ o. option_map cells.text (new.text (text_moved o n))) (carried.text n (b ∷ x) is) ∙ ap (option_map cells.text) (carried.full n b x is) ∙ e

pub cell_carried : (old new : Reading) (heaps : List Counted) (column : Column) (n : ℕ) (cell : Cell) → Carried old new heaps → cell_read old column n ≡ Some cell
    → cell_read new column (in_column heaps column n) ≡ Some cell
unfolding cell_read
cell_carried old new heaps Num8 n cell carried e = e
cell_carried old new heaps Num16 n cell carried e = e
cell_carried old new heaps Num32 n cell carried e = e
cell_carried old new heaps Text n cell carried e = text_carried old new heaps n cell (old.text n) carried refl e
cell_carried old new heaps Guid n cell carried e = mapped (old.guid n) (new.guid n) cells.guid cell (carried.guid n) e
cell_carried old new heaps Blob n cell carried e = mapped (old.blob n) (new.blob n) cells.blob cell (carried.blob n) e
cell_carried old new heaps (Index t) n cell carried e =
    mapped (within old.count (index_token t n)) (within new.count (index_token t n)) cells.refer cell (λ u. within_more old.count new.count (index_token t n) u carried.count) e
cell_carried old new heaps (Coded k) n cell carried e =
    mapped (option_and_then (within old.count) (decoded k n)) (option_and_then (within new.count) (decoded k n)) cells.refer cell (λ u. coded_more old.count new.count (decoded k n) u carried.count) e
cell_carried old new heaps (Run t) n cell carried e = absurd cc

-- a number that moves still fits
pub in_column_fits : (heaps : List Counted) (column : Column) (n : ℕ) → number_fits column n ≡ true → number_fits column (in_column heaps column n) ≡ true
in_column_fits heaps Text n e = by (joined_text heaps n)
  where
    by : (o : Option (List ℕ)) → number_fits Text (text_moved o n) ≡ true
    by None = refl
    by (Some []) = refl
    by (Some (b ∷ x)) = e
in_column_fits heaps Num8 n e = e
in_column_fits heaps Num16 n e = e
in_column_fits heaps Num32 n e = e
in_column_fits heaps Guid n e = e
in_column_fits heaps Blob n e = e
in_column_fits heaps (Index t) n e = e
in_column_fits heaps (Coded k) n e = e
in_column_fits heaps (Run t) n e = e

-- the cell of a column is there, where no rule on indices and offsets is broken
asked : (a b : Bool) (p : Place) → broken (a && not b) p ≡ None → a ≡ true → b ≡ true
asked a true p h e = refl
asked true false p h e = absurd cc
asked false false p h e = absurd cc

good_at : (c : Chain) (s : Source) (asks : Column → Bool) (u : Token) (k i : ℕ) (column : Column) → PlaceRow s u k → first_below (table_fault c s asks) 0x2D ≡ None
    → column_in u.table i ≡ Some column → asks column ≡ true → is_some (cell_read (reading_after c s) column (raw_in s (record { table = u.table; row = k }) i)) ≡ true
unfolding table_fault row_fault cell_fault
good_at c s asks u k i column place none there speaks =
    let e : k - 1 + 1 ≡ k = omega (arith, place.low) in
    let in_table = silent (table_fault c s asks) 0x2D u.table none place.table in
    let in_row = silent (row_fault c s asks u.table) (rows_of s.layout u.table) (k - 1) in_table (omega (arith, place.low, place.high)) in
    let in_cells = rw (place.token, e) at in_row in
    let in_cell = silent (cell_fault c s asks u (record { table = u.table; row = k })) (length (columns_in u.table)) i in_cells (slice_get_within (columns_in u.table) i column there) in
    asked (asks column) _ _ (rw there at in_cell) speaks

index_there : (c : Chain) (s : Source) (u : Token) (k i : ℕ) (column : Column) → Lands c s → PlaceRow s u k → column_in u.table i ≡ Some column → is_index column ≡ true
    → is_some (cell_read (reading_after c s) column (raw_in s (record { table = u.table; row = k }) i)) ≡ true
unfolding bad_index
index_there c s u k i column lands place there asks = good_at c s is_index u k i column place (landed c s lands.early).bad_index there asks

offset_there : (c : Chain) (s : Source) (u : Token) (k i : ℕ) (column : Column) → Lands c s → PlaceRow s u k → column_in u.table i ≡ Some column → is_offset column ≡ true
    → is_some (cell_read (reading_after c s) column (raw_in s (record { table = u.table; row = k }) i)) ≡ true
unfolding bad_offset
offset_there c s u k i column lands place there asks = good_at c s is_offset u k i column place (landed c s lands.early).bad_offset there asks

pub cell_there : (c : Chain) (s : Source) (u : Token) (k i : ℕ) (column : Column) → Lands c s → PlaceRow s u k → column_in u.table i ≡ Some column → is_some (kind_of column) ≡ true
    → is_some (cell_read (reading_after c s) column (raw_in s (record { table = u.table; row = k }) i)) ≡ true
unfolding cell_read
cell_there c s u k i Num8 lands place there some = refl
cell_there c s u k i Num16 lands place there some = refl
cell_there c s u k i Num32 lands place there some = refl
cell_there c s u k i Text lands place there some = offset_there c s u k i Text lands place there refl
cell_there c s u k i Guid lands place there some = offset_there c s u k i Guid lands place there refl
cell_there c s u k i Blob lands place there some = offset_there c s u k i Blob lands place there refl
cell_there c s u k i (Index t) lands place there some = index_there c s u k i (Index t) lands place there refl
cell_there c s u k i (Coded q) lands place there some = index_there c s u k i (Coded q) lands place there refl
cell_there c s u k i (Run t) lands place there some = absurd cc
