-- What the rows and cells of a chain with one delta more are.
use Rattle.std.proofs.Common.{◌≡◌, ℕ, zero, suc, ◌+◌, ◌≤◌, ◌-◌, ◌<◌, Bool, true, false, List, [], ◌∷◌, length, Option, Some, None, refl, sym, ap, subst, ◌∙◌, arith}
use Rattle.std.specs.Prelude.{is_some, not, ◌&&◌, option_map, option_and_then, unwrap_or, slice_get, IsTrue, IsSome, MatchOption, nat_lt, nat_le}
use Rattle.std.proofs.lemmas.Bool.Decides.{nat_tests}
use Rattle.std.proofs.lemmas.Option.{slice_get_within}
use Rattle.enc_base.specs.declared.token.Token.{Token}
use Rattle.enc_base.specs.declared.refusal.Place.{Place}
use Rattle.enc_base.specs.Order.{first_below}
use Rattle.enc_base.proofs.First.{silent}
use Rattle.enc_meta.specs.Joined.{joined_text, joined_blob, joined_guid}
use Rattle.enc_schema.specs.declared.column.Column.{Column}
use Rattle.enc_schema.specs.declared.column.Column.TheVariants.{Num8, Num16, Num32, Text, Guid, Blob, Index, Coded, Run}
use Rattle.enc_schema.specs.declared.column.Coding.{Coding}
use Rattle.enc_schema.specs.Coding.{decoded}
use Rattle.enc_schema.specs.Schema.{columns_in, column_in, is_offset}
use Rattle.enc_rows.specs.Layout.{rows_of}
use Rattle.enc_rows.specs.Layout as rows
use Rattle.enc_rows.specs.Source.{Source, raw_in}
use Rattle.enc_plain.specs.Cell.{Cell, Kind, number, text, blob, guid, refer, body, field, numbers, texts, blobs, guids, references, kind_of, kind_in, cell_count}
use Rattle.enc_plain.specs.Module.{Module, Row, rows_in, row_at, row_of, cells_of, has_row, cell_of}
use Rattle.enc_plain.specs.Chain.{Chain}
use Rattle.enc_plain.specs.Reading.{within, index_token, cell_read, cell_with}
use Rattle.enc_plain.specs.Bodies.{code_loaded, body_loaded, body_is_good}
use Rattle.enc_opcodes.specs.Body.{Code, texts_are_there}
use Rattle.enc_image.proofs.Texts.{good_texts}
use Rattle.enc_plain.specs.Apply.{apply}
use Rattle.enc_plain.specs.Fits.{Fits}
use Rattle.enc_plain.proofs.Applied.{applied}
use Rattle.enc_plain.proofs.AttachedTo.{cells_attached}
use Rattle.enc_delta.specs.Delta.{listed, place_in, of_table}
use Rattle.enc_delta.specs.Rules.{broken, heaps_after, rows_with, reading_after, is_index, cell_fault, row_fault, table_fault, bad_index, bad_offset, users_after, body_stands, broken_body_at, broken_body}
use Rattle.enc_rows.proofs.Listed.{get_below}
use Rattle.enc_plain.proofs.Columns.{HasPlainKind, plain_kind, column_with, text_column, blob_column, guid_column, in_cells, number_for, column_there}
use Rattle.enc_image.proofs.Rows.{made_from, within_is, coded_is}
use Rattle.enc_agg.specs.Extend.{changes_of, extended}
use Rattle.enc_delta.specs.Rows.{cell_after, cells_after}
use Rattle.enc_delta.specs.Pairs.{attached_of}
use Rattle.enc_agg.specs.Follows.{Lands, Follows}
use Rattle.enc_agg.specs.Seen.{token_meant}
use Rattle.enc_delta.proofs.Unbroken.{unbroken, landed}
use Rattle.enc_agg.proofs.Tokens.{cells_for_there, cells_for_none, PlaceRow, place_row}

-- a listed token's cells are those of the delta's row
pub listed_cells : (c : Chain) (s : Source) (u : Token) (k : ℕ) → Fits c.plain (changes_of c s) → place_in (listed s) u ≡ Some k → cells_of (extended c s).plain u ≡ Some (cells_after c s (record { table = u.table; row = k }))
unfolding extended
listed_cells c s u k fits there = cells_attached (attached_of s) (apply c.plain (changes_of c s)) u ∙ applied (changes_of c s) c.plain u fits ∙ rw (cells_for_there c s u k there) refl

-- the cells of every other token are the chain's
pub other_cells : (c : Chain) (s : Source) (u : Token) → Fits c.plain (changes_of c s) → place_in (listed s) u ≡ None → cells_of (extended c s).plain u ≡ cells_of c.plain u
unfolding extended
other_cells c s u fits none = cells_attached (attached_of s) (apply c.plain (changes_of c s)) u ∙ applied (changes_of c s) c.plain u fits ∙ rw (cells_for_none c s u none) refl

cell_from : (o : Option Row) (i : ℕ) → option_and_then (λ (r : Row). slice_get r.cells i) o ≡ option_and_then (λ (cells : List Cell). slice_get cells i) (option_map (λ (r : Row). r.cells) o)
cell_from None i = refl
cell_from (Some r) i = refl

-- a cell is one of its row's
cell_by : (m : Module) (u : Token) (i : ℕ) → cell_of m u i ≡ option_and_then (λ (cells : List Cell). slice_get cells i) (cells_of m u)
unfolding cell_of
cell_by m u i = cell_from (row_of m u) i

-- a cell of a listed token is the one in the delta's row
pub listed_cell : (c : Chain) (s : Source) (u : Token) (k i : ℕ) (cell : Cell) → Fits c.plain (changes_of c s) → place_in (listed s) u ≡ Some k → i < cell_count u.table → cell_after c s (record { table = u.table; row = k }) i ≡ Some cell → cell_of (extended c s).plain u i ≡ Some cell
listed_cell c s u k i cell fits there column is =
    cell_by (extended c s).plain u i ∙ ap (option_and_then (λ (cells : List Cell). slice_get cells i)) (listed_cells c s u k fits there) ∙ rw (get_below (λ (j : ℕ). unwrap_or (cell_after c s (record { table = u.table; row = k }) j) (number 0)) (cell_count u.table) i column, is) refl

-- a cell of any other token is the chain's
pub kept_cell : (c : Chain) (s : Source) (u : Token) (i : ℕ) → Fits c.plain (changes_of c s) → place_in (listed s) u ≡ None → cell_of (extended c s).plain u i ≡ cell_of c.plain u i
kept_cell c s u i fits none = cell_by (extended c s).plain u i ∙ ap (option_and_then (λ (cells : List Cell). slice_get cells i)) (other_cells c s u fits none) ∙ sym (cell_by c.plain u i)

get_is : {A : Type 0} (xs : List A) (i : ℕ) → is_some (slice_get xs i) ≡ nat_lt i (length xs)
get_is [] i = sym (grind (arith, nat_tests))
get_is (x ∷ xs) zero = sym (grind (arith, nat_tests))
get_is (x ∷ xs) (suc i) = get_is xs i ∙ less i (length xs)
  where
    less : (a b : ℕ) → nat_lt a b ≡ nat_lt (suc a) (suc b)
    less a b = grind (arith, nat_tests)

at_is : (list : List Row) (row : ℕ) → (nat_lt 0 row && nat_le row (length list)) ≡ is_some (row_at list row)
at_is list zero = refl
at_is list (suc i) = from i (length list) ∙ sym (get_is list i)
  where
    from : (a b : ℕ) → (nat_lt 0 (suc a) && nat_le (suc a) b) ≡ nat_lt a b
    from a b = grind (arith, nat_tests)

some_cells : (o : Option Row) → is_some o ≡ is_some (option_map (λ (r : Row). r.cells) o)
some_cells None = refl
some_cells (Some r) = refl

-- a module has the rows that its tokens name
pub has_is : (m : Module) (u : Token) → has_row m u ≡ is_some (cells_of m u)
unfolding has_row row_of
has_is m u = at_is (rows_in m u.table) u.row ∙ some_cells (row_at (rows_in m u.table) u.row)

-- a token that isn't listed names a row of the chain, where it names one
pub kept_row : (c : Chain) (s : Source) (u : Token) → Fits c.plain (changes_of c s) → place_in (listed s) u ≡ None → has_row (extended c s).plain u ≡ true → has_row c.plain u ≡ true
kept_row c s u fits none there =
    has_is c.plain u ∙ ap is_some (sym (other_cells c s u fits none)) ∙ sym (has_is (extended c s).plain u) ∙ there

-- the column of a listed token's cell is there, and the token's row is one of the delta's
pub place_column : (s : Source) (u : Token) (k i : ℕ) (kind : Kind) → PlaceRow s u k → kind_in u.table i ≡ Some kind → IsSome (column_in u.table i) × IsTrue (rows.stream_has_row s.layout (record { table = u.table; row = k }))
place_column s u k i kind place is = (column_there u.table i kind is, grind (arith, nat_tests, place.low, place.high))

asked : (a b : Bool) (p : Place) → broken (a && not b) p ≡ None → a ≡ true → b ≡ true
asked a true p h e = refl
asked true false p h e = absurd cc
asked false false p h e = absurd cc

-- a cell of which a silent rule speaks is good
good_after : (c : Chain) (s : Source) (asks : Column → Bool) (u : Token) (k i : ℕ) (column : Column) → PlaceRow s u k → first_below (table_fault c s asks) 0x2D ≡ None → column_in u.table i ≡ Some column → asks column ≡ true → is_some (cell_read (reading_after c s) column (raw_in s (record { table = u.table; row = k }) i)) ≡ true
unfolding table_fault row_fault cell_fault
good_after c s asks u k i column place none there speaks =
    let e : k - 1 + 1 ≡ k = omega (arith, place.low) in
    let in_table = silent (table_fault c s asks) 0x2D u.table none place.table in
    let in_row = silent (row_fault c s asks u.table) (rows_of s.layout u.table) (k - 1) in_table (omega (arith, place.low, place.high)) in
    let in_cells = rw (place.token, e) at in_row in
    let in_cell = silent (cell_fault c s asks u (record { table = u.table; row = k })) (length (columns_in u.table)) i in_cells (slice_get_within (columns_in u.table) i column there) in
    asked (asks column) _ _ (rw there at in_cell) speaks

-- the cell of a column with a kind is the chain's, where its number stands for one
held_after : (c : Chain) (s : Source) (u : Token) (k i : ℕ) (column : Column) (kind : Kind) (cell : Cell) → Fits c.plain (changes_of c s) → place_in (listed s) u ≡ Some k → column_in u.table i ≡ Some column → is_some (kind_of column) ≡ true → HasPlainKind u.table i kind → cell_read (reading_after c s) column (raw_in s (record { table = u.table; row = k }) i) ≡ Some cell → cell_of (extended c s).plain u i ≡ Some cell
unfolding cell_after cell_with
held_after c s u k i column kind cell fits place there some plain is =
    listed_cell c s u k i cell fits place (in_cells u.table i column there some) (rw (there, plain.body, plain.field) is)

-- where a silent rule speaks of a column, the optional value from which its cell is made is there, and the chain has the cell
made_after : {A : Type 0} (c : Chain) (s : Source) (asks : Column → Bool) (u : Token) (k i : ℕ) (column : Column) (kind : Kind) (f : A → Cell) (x : Option A) → first_below (table_fault c s asks) 0x2D ≡ None → Lands c s → Fits c.plain (changes_of c s) → place_in (listed s) u ≡ Some k → column_in u.table i ≡ Some column → is_some (kind_of column) ≡ true → HasPlainKind u.table i kind → asks column ≡ true → cell_read (reading_after c s) column (raw_in s (record { table = u.table; row = k }) i) ≡ option_map f x → MatchOption x ⊥ (λ a. cell_of (extended c s).plain u i ≡ Some (f a))
made_after c s asks u k i column kind f x none follows fits place there some plain speaks is =
    made_from (cell_read (reading_after c s) column (raw_in s (record { table = u.table; row = k }) i)) f x (λ cell. cell_of (extended c s).plain u i ≡ Some cell) (good_after c s asks u k i column (place_row c s u k follows place) none there speaks) is (λ cell e. held_after c s u k i column kind cell fits place there some plain e)

no_index : (c : Chain) (s : Source) → Lands c s → first_below (table_fault c s is_index) 0x2D ≡ None
unfolding bad_index
no_index c s follows = (landed c s follows.early).bad_index

no_offset : (c : Chain) (s : Source) → Lands c s → first_below (table_fault c s is_offset) 0x2D ≡ None
unfolding bad_offset
no_offset c s follows = (landed c s follows.early).bad_offset

-- a cell of each kind: the entry is there, and the chain has the cell with it
pub text_listed : (c : Chain) (s : Source) (u : Token) (k i n : ℕ) → Lands c s → Fits c.plain (changes_of c s) → place_in (listed s) u ≡ Some k → kind_in u.table i ≡ Some texts → raw_in s (record { table = u.table; row = k }) i ≡ n → MatchOption (joined_text (heaps_after c s) n) ⊥ (λ a. cell_of (extended c s).plain u i ≡ Some (text a))
unfolding cell_read reading_after
text_listed c s u k i n follows fits place kind is =
    let plain = plain_kind _ _ texts refl kind in
    let w = column_with _ _ plain.kind in
    let e = w.1 ∙ ap (λ column. Some column) (text_column w.0 w.2) in
    made_after c s is_offset u k i Text texts text (joined_text (heaps_after c s) n) (no_offset c s follows) follows fits place e refl plain refl (rw is refl)

pub blob_listed : (c : Chain) (s : Source) (u : Token) (k i n : ℕ) → Lands c s → Fits c.plain (changes_of c s) → place_in (listed s) u ≡ Some k → kind_in u.table i ≡ Some blobs → raw_in s (record { table = u.table; row = k }) i ≡ n → MatchOption (joined_blob (heaps_after c s) n) ⊥ (λ a. cell_of (extended c s).plain u i ≡ Some (blob a))
unfolding cell_read reading_after
blob_listed c s u k i n follows fits place kind is =
    let plain = plain_kind _ _ blobs refl kind in
    let w = column_with _ _ plain.kind in
    let e = w.1 ∙ ap (λ column. Some column) (blob_column w.0 w.2) in
    made_after c s is_offset u k i Blob blobs blob (joined_blob (heaps_after c s) n) (no_offset c s follows) follows fits place e refl plain refl (rw is refl)

pub guid_listed : (c : Chain) (s : Source) (u : Token) (k i n : ℕ) → Lands c s → Fits c.plain (changes_of c s) → place_in (listed s) u ≡ Some k → kind_in u.table i ≡ Some guids → raw_in s (record { table = u.table; row = k }) i ≡ n → MatchOption (joined_guid (heaps_after c s) n) ⊥ (λ a. cell_of (extended c s).plain u i ≡ Some (guid a))
unfolding cell_read reading_after
guid_listed c s u k i n follows fits place kind is =
    let plain = plain_kind _ _ guids refl kind in
    let w = column_with _ _ plain.kind in
    let e = w.1 ∙ ap (λ column. Some column) (guid_column w.0 w.2) in
    made_after c s is_offset u k i Guid guids guid (joined_guid (heaps_after c s) n) (no_offset c s follows) follows fits place e refl plain refl (rw is refl)

pub number_listed : (c : Chain) (s : Source) (u : Token) (k i n : ℕ) → Lands c s → Fits c.plain (changes_of c s) → place_in (listed s) u ≡ Some k → kind_in u.table i ≡ Some numbers → raw_in s (record { table = u.table; row = k }) i ≡ n → cell_of (extended c s).plain u i ≡ Some (number n)
number_listed c s u k i n _ fits place kind is =
    let plain = plain_kind _ _ numbers refl kind in
    let w = column_with _ _ plain.kind in
    held_after c s u k i w.0 numbers (number n) fits place w.1 (ap is_some w.2) plain (rw is (number_for (reading_after c s) w.0 n w.2))

pub index_listed : (c : Chain) (s : Source) (u : Token) (k i n table : ℕ) → Lands c s → Fits c.plain (changes_of c s) → place_in (listed s) u ≡ Some k → kind_in u.table i ≡ Some references → column_in u.table i ≡ Some (Index table) → raw_in s (record { table = u.table; row = k }) i ≡ n → cell_of (extended c s).plain u i ≡ Some (refer (index_token table n))
unfolding cell_read reading_after
index_listed c s u k i n table follows fits place kind column is =
    within_is (rows_with c (listed s)) (index_token table n) (λ t. cell_of (extended c s).plain u i ≡ Some (refer t)) (made_after c s is_index u k i (Index table) references refer _ (no_index c s follows) follows fits place column refl (plain_kind _ _ references refl kind) refl (rw is refl))

pub coded_listed : (c : Chain) (s : Source) (u : Token) (k i n : ℕ) (kind : Coding) → Lands c s → Fits c.plain (changes_of c s) → place_in (listed s) u ≡ Some k → kind_in u.table i ≡ Some references → column_in u.table i ≡ Some (Coded kind) → raw_in s (record { table = u.table; row = k }) i ≡ n → MatchOption (decoded kind n) ⊥ (λ t. cell_of (extended c s).plain u i ≡ Some (refer t))
unfolding cell_read reading_after
coded_listed c s u k i n kind follows fits place kinds column is =
    coded_is (rows_with c (listed s)) (decoded kind n) (λ t. cell_of (extended c s).plain u i ≡ Some (refer t)) (made_after c s is_index u k i (Coded kind) references refer (option_and_then (within (rows_with c (listed s))) (decoded kind n)) (no_index c s follows) follows fits place column refl (plain_kind _ _ references refl kinds) refl (rw is refl))

refer_by : (c : Chain) (s : Source) (u : Token) (k i n : ℕ) (column : Column) → Lands c s → Fits c.plain (changes_of c s) → place_in (listed s) u ≡ Some k
    → kind_in u.table i ≡ Some references → column_in u.table i ≡ Some column → kind_of column ≡ Some references
    → raw_in s (record { table = u.table; row = k }) i ≡ n
    → MatchOption (token_meant (Some column) n) ⊥ (λ t. cell_of (extended c s).plain u i ≡ Some (refer t))
refer_by c s u k i n (Index table) follows fits place kind column of is = index_listed c s u k i n table follows fits place kind column is
refer_by c s u k i n (Coded coding) follows fits place kind column of is = coded_listed c s u k i n coding follows fits place kind column is
refer_by c s u k i n Num8 follows fits place kind column of is = absurd cc
refer_by c s u k i n Num16 follows fits place kind column of is = absurd cc
refer_by c s u k i n Num32 follows fits place kind column of is = absurd cc
refer_by c s u k i n Text follows fits place kind column of is = absurd cc
refer_by c s u k i n Guid follows fits place kind column of is = absurd cc
refer_by c s u k i n Blob follows fits place kind column of is = absurd cc
refer_by c s u k i n (Run table) follows fits place kind column of is = absurd cc

pub refer_listed : (c : Chain) (s : Source) (u : Token) (k i n : ℕ) → Lands c s → Fits c.plain (changes_of c s) → place_in (listed s) u ≡ Some k
    → kind_in u.table i ≡ Some references → raw_in s (record { table = u.table; row = k }) i ≡ n
    → MatchOption (token_meant (column_in u.table i) n) ⊥ (λ t. cell_of (extended c s).plain u i ≡ Some (refer t))
refer_listed c s u k i n follows fits place kind is =
    let w = column_with _ _ (plain_kind _ _ references refl kind).kind in
    subst (λ o. MatchOption (token_meant o n) ⊥ (λ t. cell_of (extended c s).plain u i ≡ Some (refer t))) (sym w.1)
    (refer_by c s u k i n w.0 follows fits place kind w.1 w.2 is)

-- the body of a method that a delta lists is the one at its place in the delta's code
pub body_listed : (c : Chain) (s : Source) (u : Token) (k n : ℕ) → Fits c.plain (changes_of c s) → place_in (listed s) u ≡ Some k → u.table ≡ 0x06 → raw_in s (record { table = u.table; row = k }) 0 ≡ n → cell_of (extended c s).plain u 0 ≡ Some (body (body_loaded s.loaded (users_after c s) n))
unfolding cell_after cell_with columns_in reading_after
body_listed c s u k n fits place is raw =
    let number : raw_in s (record { table = 0x06; row = k }) 0 ≡ n = rw is at raw in
    listed_cell c s u k 0 (body (body_loaded s.loaded (users_after c s) n)) fits place (rw is (in_cells 0x06 0 Num32 refl refl)) (rw (is, number) refl)

-- and a field has no initial bytes
pub field_listed : (c : Chain) (s : Source) (u : Token) (k : ℕ) → Fits c.plain (changes_of c s) → place_in (listed s) u ≡ Some k → u.table ≡ 0x1D → cell_of (extended c s).plain u 0 ≡ Some (field [])
unfolding cell_after cell_with columns_in reading_after
field_listed c s u k fits place is = listed_cell c s u k 0 (field []) fits place (rw is (in_cells 0x1D 0 Num32 refl refl)) (rw is refl)

unbroken_is : (b : Bool) (p : Place) → broken (not b) p ≡ None → b ≡ true
unbroken_is true p h = refl
unbroken_is false p h = absurd cc

-- the user texts that its body names are there
pub texts_listed : (c : Chain) (s : Source) (u : Token) (k n : ℕ) (code : Code) → Follows c s → place_in (listed s) u ≡ Some k → u.table ≡ 0x06 → raw_in s (record { table = u.table; row = k }) 0 ≡ n → code_loaded s.loaded n ≡ Some code → texts_are_there (users_after c s) code.code ≡ true
unfolding broken_body broken_body_at body_stands
texts_listed c s u k n code follows place is raw there =
    let at = place_row c s u k follows.lands place in
    let e : k - 1 + 1 ≡ k = omega (arith, at.low) in
    let high : k ≤ rows_of s.layout 0x06 = rw is at at.high in
    let token : slice_get (of_table 0x06 (listed s)) (k - 1) ≡ Some u = ap (λ t. slice_get (of_table t (listed s)) (k - 1)) (sym is) ∙ at.token in
    let number : raw_in s (record { table = 0x06; row = k }) 0 ≡ n = rw is at raw in
    let row = silent (broken_body_at c s) (rows_of s.layout 0x06) (k - 1) (unbroken c s follows.rules).broken_body (omega (arith, at.low, high)) in
    let good : body_is_good (rows_with c (listed s)) (users_after c s) s.loaded (raw_in s (record { table = 0x06; row = k - 1 + 1 }) 0) (raw_in s (record { table = 0x06; row = k - 1 + 1 }) 1) ≡ true = unbroken_is _ _ (rw token at row) in
    good_texts (rows_with c (listed s)) (users_after c s) s.loaded n (raw_in s (record { table = 0x06; row = k }) 1) code (rw (e, number) at good) there
