-- The bodies of a delta that says what a list states break no rule.
use Rattle.std.proofs.Common.{◌≡◌, ℕ, zero, suc, ◌+◌, ◌<◌, ◌≤◌, Bool, true, false, List, [], ◌∷◌, length, take, Option, Some, None, refl, sym, ap, ◌∙◌, arith, subst}
use Rattle.std.specs.Prelude.{◌||◌, ◌&&◌, ◌==◌, ◌%◌, not, nat_le, unwrap_or, option_map, option_and_then, slice_get, if◌then◌else◌}
use Rattle.std.proofs.lemmas.Bool.{and_parts}
use Rattle.std.proofs.lemmas.Bool.Decides.{nat_tests}
use Rattle.enc_base.specs.Token.{is_token, nil, nth_row}
use Rattle.enc_base.specs.declared.refusal.Place.{Place}
use Rattle.enc_base.specs.declared.refusal.Place.TheVariants as place
use Rattle.enc_base.specs.declared.token.Token.{Token}
use Rattle.enc_meta.specs.BuiltLaws.{heaps_joined}
use Rattle.enc_meta.specs.Joined.{joined_user}
use Rattle.enc_meta.specs.Regions.{Region}
use Rattle.enc_opcodes.specs.Body.{Code, Body, body_of, locals_are_good, begins_locals}
use Rattle.enc_opcodes.specs.Sound.{body_is_sound}
use Rattle.enc_rows.specs.Layout.{rows_of}
use Rattle.enc_rows.specs.Source.{Source, raw_in}
use Rattle.enc_schema.specs.Schema.{columns_in, column_in}
use Rattle.enc_schema.specs.declared.column.Column.TheVariants.{Num16, Num32}
use Rattle.enc_plain.specs.Bodies.{code_loaded, body_loaded, code_is_good, body_is_good}
use Rattle.enc_plain.specs.Cell.{Cell, number, text, blob, guid, refer, body, field}
use Rattle.enc_plain.specs.Chain.{Chain}
use Rattle.enc_plain.specs.Module.{Module, cells_of, cell_of}
use Rattle.enc_plain.specs.Reading.{Reading, cell_read, cell_with}
use Rattle.enc_plain.specs.Rows.{Rows, number_of_cell, number_at, bytes_at}
use Rattle.enc_plain.specs.Sound.{row_count, locals_are_sound, method_is_sound}
use Rattle.enc_delta.specs.Delta.{loaded_code, listed, of_table, place_in}
use Rattle.enc_delta.specs.Rows.{own_row, rows_after}
use Rattle.enc_delta.specs.Rules.{broken, rows_with, users_after, body_stands, broken_body_at, broken_body, has_body, lost_body_at, lost_body}
use Rattle.enc_delta.specs.Changes.{of_nth, own_code, are_locals, locals_begin, bad_locals_in, bad_locals}
use Rattle.enc_edit_list.specs.declared.edit.EditList.{EditList}
use Rattle.enc_edit_list.specs.Added.{rows_added}
use Rattle.enc_edit_list.specs.declared.edit.Edit.{Edit}
use Rattle.enc_edit_list.specs.declared.edit.Edit.TheVariants.{Add, Body as Replace}
use Rattle.enc_rules.specs.Edited.{body_stated, row_edited, cells_with, cells_edited, edited}
use Rattle.enc_rules.specs.Listed.{count_after}
use Rattle.enc_memory_module.proofs.CellCases.{cell_of_cells, there_by_cells}
use Rattle.enc_plain.proofs.KindsOf.{row_bounds}
use Rattle.enc_rules.proofs.RowsEdited.{row_there as row_there_is}
use Rattle.enc_memory_module.proofs.Changed.{edit_found}
use Rattle.enc_list_delta.specs.Delta.{is_edited, tokens_written, cells_written}
use Rattle.enc_list_delta.specs.Holds.{MayFollow, heaps_written, reading_with, StandsIn, PlacesBody, SaysDelta}
use Rattle.enc_list_delta.specs.Laws.{KeepsTo}
use Rattle.enc_list_delta.proofs.CellsRead.{ArePlaced, rows_are, edited_row, given, sound_edited}
use Rattle.enc_list_delta.proofs.ModuleRules.{heaps_are}
use Rattle.enc_list_delta.proofs.Placed.{placed}
use Rattle.enc_list_delta.proofs.RowRules.{row_there}
use Rattle.enc_list_delta.proofs.SameRows.{same_function}
use Rattle.enc_list_delta.proofs.Tokens.{is_written, place_written}
use Rattle.enc_list_delta.proofs.TokensInserts.{all_silent}

-- a method that a delta lists: its place there, and what its row says
pub record IsMethod (c : Chain) (l : EditList) (s : Source) (n : ℕ) (u : Token) : Type 0 where
  pub table : u.table ≡ 6
  pub about : is_edited c.plain l.edits u ≡ true
  pub there : slice_get (tokens_written c l.edits 6) n ≡ Some u
  pub placed : place_in (listed s) u ≡ Some (n + 1)

-- its row in the edited module
method_cell : (c : Chain) (l : EditList) (s : Source) (n i : ℕ) (u : Token) → MayFollow c l → ArePlaced c l s → IsMethod c l s n u → cell_of (edited c.plain l.edits) u i ≡ slice_get (cells_written c.plain l.edits u) i
method_cell c l s n i u may all is = cell_of_cells (edited c.plain l.edits) u i ∙ ap (option_and_then (λ (cells : List Cell). slice_get cells i)) (edited_row c l u may all.none is.about)

column_zero : column_in 6 0 ≡ Some Num32
unfolding columns_in
column_zero = refl

column_one : column_in 6 1 ≡ Some Num16
unfolding columns_in
column_one = refl

sound_method : (c : Chain) (l : EditList) (s : Source) (n : ℕ) (u : Token) (b : Body) → MayFollow c l → ArePlaced c l s → IsMethod c l s n u → slice_get (cells_written c.plain l.edits u) 0 ≡ Some (body (Some b))
    → method_is_sound (edited c.plain l.edits) u b ≡ true
sound_method c l s n u b may all is there =
    (sound_edited c l may).cells.each u 0 Num32 (body (Some b)) (row_there c l s u may all is.about) (subst (λ t. column_in t 0 ≡ Some Num32) (sym is.table) column_zero) (method_cell c l s n 0 u may all is ∙ there)

-- the flags that its row says
flags_said : (r : Reading) (u : Token) (x : ℕ) (cell : Option Cell) → u.table ≡ 6 → cell_with r u 1 Num16 x ≡ cell → x ≡ number_of_cell cell
unfolding cell_with cell_read
flags_said r u x cell is h = ap number_of_cell (subst (λ (v : Token). cell_with r v 1 Num16 x ≡ cell) same h)
  where
    same : u ≡ record { table = 6; row = u.row }
    same = ap (λ t. record { table = t; row = u.row }) is

flags_are : (c : Chain) (l : EditList) (s : Source) (n : ℕ) (u : Token) → MayFollow c l → SaysDelta c l s → IsMethod c l s n u → raw_in s (nth_row 6 n) 1 ≡ number_at (cells_of (edited c.plain l.edits)) u 1
unfolding number_at
flags_are c l s n u may says is =
    let all = placed c l s may says in
    let row = says.code.2 6 n u refl is.there in
    let r = reading_with c l (heaps_joined c.heaps (heaps_written c l)) says.code.0 in
    flags_said r u (raw_in s (nth_row 6 n) 1) (slice_get (cells_written c.plain l.edits u) 1) is.table (row.each 1 Num16 (subst (λ t. column_in t 1 ≡ Some Num16) (sym is.table) column_one))
    ∙ ap (λ (o : Option (List Cell)). number_of_cell (option_and_then (λ (cells : List Cell). slice_get cells 1) o)) (sym (edited_row c l u may all.none is.about))

-- what its row says of its body
place_said : (c : Chain) (l : EditList) (s : Source) (n : ℕ) (u : Token) → (says : SaysDelta c l s) → IsMethod c l s n u
    → PlacesBody (count_after c l.edits) (joined_user (heaps_joined c.heaps (heaps_written c l))) says.code.0 (raw_in s (nth_row 6 n) 0) (slice_get (cells_written c.plain l.edits u) 0)
place_said c l s n u says is = (says.code.2 6 n u refl is.there).body (subst (λ t. (t == 6) ≡ true) (sym is.table) refl)

-- a method has a body in the delta, by whose cell it stands in its code, or no place
pub data BodyCase (c : Chain) (l : EditList) (s : Source) (n : ℕ) (u : Token) (says : SaysDelta c l s) : Type 0 where
  has : (b : Body) → slice_get (cells_written c.plain l.edits u) 0 ≡ Some (body (Some b))
      → StandsIn (count_after c l.edits) (joined_user (heaps_joined c.heaps (heaps_written c l))) says.code.0 (raw_in s (nth_row 6 n) 0) b → BodyCase c l s n u says
  lacks : raw_in s (nth_row 6 n) 0 ≡ 0 → ((b : Body) → slice_get (cells_written c.plain l.edits u) 0 ≡ Some (body (Some b)) → ⊥) → BodyCase c l s n u says

pub body_case : (c : Chain) (l : EditList) (s : Source) (n : ℕ) (u : Token) → (says : SaysDelta c l s) → IsMethod c l s n u → BodyCase c l s n u says
body_case c l s n u says is = by (slice_get (cells_written c.plain l.edits u) 0) refl (place_said c l s n u says is)
  where
    by : (o : Option Cell) → slice_get (cells_written c.plain l.edits u) 0 ≡ o
        → PlacesBody (count_after c l.edits) (joined_user (heaps_joined c.heaps (heaps_written c l))) says.code.0 (raw_in s (nth_row 6 n) 0) o → BodyCase c l s n u says
    by None e h = lacks h (λ b f. let g : None ≡ Some (body (Some b)) = sym e ∙ f in absurd cc)
    by (Some (body (Some b))) e h = has b e h
    by (Some (body None)) e h = lacks h (λ b f. let g : Some (body None) ≡ Some (body (Some b)) = sym e ∙ f in absurd cc)
    by (Some (number m)) e h = lacks h (λ b f. let g : Some (number m) ≡ Some (body (Some b)) = sym e ∙ f in absurd cc)
    by (Some (text v)) e h = lacks h (λ b f. let g : Some (text v) ≡ Some (body (Some b)) = sym e ∙ f in absurd cc)
    by (Some (blob v)) e h = lacks h (λ b f. let g : Some (blob v) ≡ Some (body (Some b)) = sym e ∙ f in absurd cc)
    by (Some (guid v)) e h = lacks h (λ b f. let g : Some (guid v) ≡ Some (body (Some b)) = sym e ∙ f in absurd cc)
    by (Some (refer t)) e h = lacks h (λ b f. let g : Some (refer t) ≡ Some (body (Some b)) = sym e ∙ f in absurd cc)
    by (Some (field v)) e h = lacks h (λ b f. let g : Some (field v) ≡ Some (body (Some b)) = sym e ∙ f in absurd cc)

-- by the delta's own heaps and code
users_are : (c : Chain) (l : EditList) (s : Source) → SaysDelta c l s → users_after c s ≡ joined_user (heaps_joined c.heaps (heaps_written c l))
users_are c l s says = ap joined_user (heaps_are c l s says)

good_at : (count : ℕ → ℕ) (users : ℕ → Option (List ℕ)) (regions : List Region) (rva flags : ℕ) → 0 < rva → flags % 4 ≡ 0 → code_is_good count users (code_loaded regions rva) ≡ true
    → body_is_good count users regions rva flags ≡ true
unfolding body_is_good
good_at count users regions zero flags some il good = absurd (omega (arith, some))
good_at count users regions (suc n) flags some il good = rw (il, good) refl

none_at : (count : ℕ → ℕ) (users : ℕ → Option (List ℕ)) (regions : List Region) (rva flags : ℕ) → rva ≡ 0 → body_is_good count users regions rva flags ≡ true
unfolding body_is_good
none_at count users regions rva flags is = rw is refl

il_flags : (m : Module) (u : Token) (b : Body) → method_is_sound m u b ≡ true → number_at (cells_of m) u 1 % 4 ≡ 0
unfolding method_is_sound
il_flags m u b h =
    let two = (and_parts (number_at (cells_of m) u 1 % 4 == 0 && body_is_sound (row_count m) b) (locals_are_sound m b.locals) h).0 in
    let one = (and_parts (number_at (cells_of m) u 1 % 4 == 0) (body_is_sound (row_count m) b) two).0 in
    grind (arith, nat_tests, one)

stands_here : (c : Chain) (l : EditList) (s : Source) (n : ℕ) (u : Token) → MayFollow c l → SaysDelta c l s → IsMethod c l s n u → body_stands c s n ≡ true
unfolding body_stands
stands_here c l s n u may says is = by (body_case c l s n u says is)
  where
    by : BodyCase c l s n u says → body_stands c s n ≡ true
    by (lacks zero_ never) = none_at (rows_with c (listed s)) (users_after c s) s.loaded (raw_in s (nth_row 6 n) 0) (raw_in s (nth_row 6 n) 1) zero_
    by (has b there stands) =
        let all = placed c l s may says in
        let rva = raw_in s (nth_row 6 n) 0 in
        let flags = raw_in s (nth_row 6 n) 1 in
        let il : flags % 4 ≡ 0 = ap (λ x. x % 4) (flags_are c l s n u may says is) ∙ il_flags (edited c.plain l.edits) u b (sound_method c l s n u b may all is there) in
        ap (λ count. body_is_good count (users_after c s) s.loaded rva flags) (same_function (rows_with c (listed s)) (count_after c l.edits) all.counts)
        ∙ ap (λ users. body_is_good (count_after c l.edits) users s.loaded rva flags) (users_are c l s says)
        ∙ ap (λ (regions : List Region). body_is_good (count_after c l.edits) (joined_user (heaps_joined c.heaps (heaps_written c l))) regions rva flags) says.code.1
        ∙ good_at (count_after c l.edits) (joined_user (heaps_joined c.heaps (heaps_written c l))) (loaded_code says.code.0) rva flags stands.some il stands.good

is_method : (c : Chain) (l : EditList) (s : Source) (n : ℕ) (u : Token) → MayFollow c l → SaysDelta c l s → slice_get (of_table 6 (listed s)) n ≡ Some u → IsMethod c l s n u
is_method c l s n u may says h =
    let all = placed c l s may says in
    let there : slice_get (tokens_written c l.edits 6) n ≡ Some u = subst (λ (ts : List Token). slice_get ts n ≡ Some u) (all.tabled 6) h in
    let w = is_written c l.edits 6 n u there in
    record { table = w.own; about = w.about; there = there; placed = place_written c l s may says 6 n u there }

pub keeps_bodies : KeepsTo broken_body
unfolding broken_body broken_body_at
keeps_bodies c l s may says = all_silent (broken_body_at c s) (rows_of s.layout 6) (λ n few. at n (slice_get (of_table 6 (listed s)) n) refl)
  where
    at : (n : ℕ) (o : Option Token) → slice_get (of_table 6 (listed s)) n ≡ o → option_and_then (λ (t : Token). broken (not (body_stands c s n)) (place.Row t)) o ≡ None
    at n None h = refl
    at n (Some u) h = ap (λ b. broken (not b) (place.Row u)) (stands_here c l s n u may says (is_method c l s n u may says h))

-- E23: the local signature of a method's body is one of locals
sound_locals : (m : Module) (u : Token) (b : Body) → method_is_sound m u b ≡ true → are_locals (cells_of m) b.locals ≡ true
unfolding method_is_sound body_is_sound locals_are_good
sound_locals m u b h =
    let two = and_parts (number_at (cells_of m) u 1 % 4 == 0 && body_is_sound (row_count m) b) (locals_are_sound m b.locals) h in
    let one = and_parts (number_at (cells_of m) u 1 % 4 == 0) (body_is_sound (row_count m) b) two.0 in
    let good = (and_parts _ (b.locals.row == 0 || b.locals.table == 0x11 && nat_le b.locals.row (row_count m 0x11)) one.1).1 in
    by (b.locals.row == 0) (b.locals.table == 0x11) good two.1
  where
    by : (z a : Bool) → (z || a && nat_le b.locals.row (row_count m 0x11)) ≡ true → (if z then is_token b.locals nil else begins_locals (bytes_at (cells_of m) b.locals 0)) ≡ true
        → (z || a && begins_locals (bytes_at (cells_of m) b.locals 0)) ≡ true
    by true a good locals = refl
    by false true good locals = locals
    by false false good locals = absurd cc

-- the parts of a body that stands in the code
parts_of : (users : ℕ → Option (List ℕ)) (o : Option Code) (b : Body) → option_map (body_of users) o ≡ Some b → (k : Code) × (o ≡ Some k) × (k.locals ≡ b.locals)
unfolding body_of
parts_of users None b h = absurd cc
parts_of users (Some k) b h = let same : body_of users k ≡ b = cc in (k, refl, ap (λ (x : Body). x.locals) same)

none_loaded : (rows : Rows) (regions : List Region) → locals_begin rows (code_loaded regions 0) ≡ true
unfolding code_loaded
none_loaded rows regions = refl

loaded_parts : (regions : List Region) (users : ℕ → Option (List ℕ)) (rva : ℕ) (b : Body) → body_loaded regions users rva ≡ Some b → option_map (body_of users) (code_loaded regions rva) ≡ Some b
unfolding body_loaded
loaded_parts regions users rva b h = h

locals_here : (c : Chain) (l : EditList) (s : Source) (n : ℕ) (u : Token) → MayFollow c l → SaysDelta c l s → IsMethod c l s n u → locals_begin (rows_after c s) (own_code s u) ≡ true
locals_here c l s n u may says is = ap (locals_begin (rows_after c s)) code_is ∙ by (body_case c l s n u says is)
  where
    rva : ℕ
    rva = raw_in s (nth_row 6 n) 0

    row_is : own_row s u ≡ nth_row 6 n
    row_is = ap (λ (o : Option ℕ). record { table = u.table; row = unwrap_or o 0 }) is.placed ∙ ap (λ t. record { table = t; row = n + 1 }) is.table ∙ ap (λ k. record { table = 6; row = k }) (omega arith)

    code_is : own_code s u ≡ code_loaded (loaded_code says.code.0) rva
    code_is = ap (λ (r : Token). code_loaded s.loaded (raw_in s r 0)) row_is ∙ ap (λ (regions : List Region). code_loaded regions rva) says.code.1

    no_code : locals_begin (rows_after c s) (code_loaded (loaded_code says.code.0) 0) ≡ true
    no_code = none_loaded (rows_after c s) (loaded_code says.code.0)

    loaded_is : (b : Body) → body_loaded (loaded_code says.code.0) (joined_user (heaps_joined c.heaps (heaps_written c l))) rva ≡ Some b
        → option_map (body_of (joined_user (heaps_joined c.heaps (heaps_written c l)))) (code_loaded (loaded_code says.code.0) rva) ≡ Some b
    loaded_is b h = loaded_parts (loaded_code says.code.0) (joined_user (heaps_joined c.heaps (heaps_written c l))) rva b h

    by : BodyCase c l s n u says → locals_begin (rows_after c s) (code_loaded (loaded_code says.code.0) rva) ≡ true
    by (lacks zero_ never) = ap (λ x. locals_begin (rows_after c s) (code_loaded (loaded_code says.code.0) x)) zero_ ∙ no_code
    by (has b there stands) =
        let all = placed c l s may says in
        let k = parts_of (joined_user (heaps_joined c.heaps (heaps_written c l))) (code_loaded (loaded_code says.code.0) rva) b (loaded_is b stands.meant) in
        ap (locals_begin (rows_after c s)) k.1 ∙ ap (λ rows. are_locals rows k.0.locals) (rows_are c l s may all says) ∙ ap (are_locals (cells_of (edited c.plain l.edits))) k.2
        ∙ sound_locals (edited c.plain l.edits) u b (sound_method c l s n u b may all is there)

by_test : (a b : Bool) (p : Place) → (a ≡ true → b ≡ true) → broken (a && not b) p ≡ None
by_test false b p h = refl
by_test true b p h = rw (h refl) refl

pub keeps_locals : KeepsTo bad_locals
unfolding bad_locals bad_locals_in
keeps_locals c l s may says = all_silent (of_nth (bad_locals_in c s) s) (length (listed s)) (λ k low. at k (slice_get (listed s) k) refl)
  where
    method : (u : Token) → is_edited c.plain l.edits u ≡ true → (u.table == 6) ≡ true → locals_begin (rows_after c s) (own_code s u) ≡ true
    method u about is =
        let all = placed c l s may says in
        let w = all.there u about in
        let table : u.table ≡ 6 = grind (arith, nat_tests, is) in
        locals_here c l s w.0 u may says (record { table = table; about = about; there = subst (λ t. slice_get (tokens_written c l.edits t) w.0 ≡ Some u) table w.1; placed = w.2 })

    at : (k : ℕ) (o : Option Token) → slice_get (listed s) k ≡ o → option_and_then (bad_locals_in c s) o ≡ None
    at k None h = refl
    at k (Some u) h = by_test (u.table == 6) (locals_begin (rows_after c s) (own_code s u)) (place.Row u) (method u ((placed c l s may says).listed_ k u h))

some_same : {A : Type 0} (a b : A) → Some a ≡ Some b → a ≡ b
some_same a b h = cc

-- E17: an edit of a method that was there gives it a body
replaced : (m : Module) (edits : List Edit) (u : Token) → is_edited m edits u ≡ true → u.row ≤ row_count m u.table → (x : Cell) (rest : List Cell) → cells_of m u ≡ Some (x ∷ rest)
    → (b : Body) × (slice_get (cells_written m edits u) 0 ≡ Some (body (Some b)))
replaced m edits u about low x rest old =
    let w = edit_found m [] edits u (cells_written m edits u) (given m edits u about) in
    by w.edit w.gives (take w.at edits) (some_same _ _ (sym (row_there_is m edits w.at w.edit w.there) ∙ w.row))
  where
    by : (e : Edit) → cells_written m edits u ≡ cells_edited m e → (before : List Edit) → row_edited m before e ≡ u → (b : Body) × (slice_get (cells_written m edits u) 0 ≡ Some (body (Some b)))
    by (Add table owner cells code points) gives before own =
        let same : u.table ≡ table = ap (λ (t : Token). t.table) (sym own) in
        let past : row_count m table + rows_added before table + 1 ≡ u.row = ap (λ (t : Token). t.row) own in
        absurd (omega (arith, past, subst (λ t. u.row ≤ row_count m t) same low))
    by (Replace method code points) gives before own =
        let cells : cells_of m method ≡ Some (x ∷ rest) = ap (cells_of m) own ∙ old in
        (body_stated code, ap (λ (cs : List Cell). slice_get cs 0) (gives ∙ ap (λ (o : Option (List Cell)). cells_with (body_stated code) (unwrap_or o [])) cells))

first_cell : (o : Option (List Cell)) → has_body (option_and_then (λ (cells : List Cell). slice_get cells 0) o) ≡ true → (x : Cell) × (rest : List Cell) × (o ≡ Some (x ∷ rest))
first_cell None h = absurd cc
first_cell (Some []) h = absurd cc
first_cell (Some (x ∷ rest)) h = (x, rest, refl)

-- a row that was there
old_low : (m : Module) (u : Token) (cells : List Cell) → cells_of m u ≡ Some cells → u.row ≤ row_count m u.table
old_low m u cells h = (row_bounds m u (there_by_cells m u cells h)).1

keeps_body : (c : Chain) (l : EditList) (s : Source) (n : ℕ) (u : Token) → MayFollow c l → SaysDelta c l s → IsMethod c l s n u → has_body (cell_of c.plain u 0) ≡ true → (raw_in s (nth_row 6 n) 0 == 0) ≡ false
keeps_body c l s n u may says is had =
    let o = first_cell (cells_of c.plain u) (ap has_body (sym (cell_of_cells c.plain u 0)) ∙ had) in
    let b = replaced c.plain l.edits u is.about (old_low c.plain u (o.0 ∷ o.1) o.2) o.0 o.1 o.2 in
    by b.0 b.1 (body_case c l s n u says is)
  where
    by : (b : Body) → slice_get (cells_written c.plain l.edits u) 0 ≡ Some (body (Some b)) → BodyCase c l s n u says → (raw_in s (nth_row 6 n) 0 == 0) ≡ false
    by b there (has d here stands) = let some = stands.some in grind (arith, nat_tests, some)
    by b there (lacks zero_ never) = absurd (never b there)

not_lost : (a b : Bool) (p : Place) → (b ≡ true → a ≡ false) → broken (a && b) p ≡ None
not_lost false b p h = refl
not_lost true false p h = refl
not_lost true true p h = let e : true ≡ false = h refl in absurd cc

pub keeps_all_bodies : KeepsTo lost_body
unfolding lost_body lost_body_at
keeps_all_bodies c l s may says = all_silent (lost_body_at c s) (rows_of s.layout 6) (λ n few. at n (slice_get (of_table 6 (listed s)) n) refl)
  where
    at : (n : ℕ) (o : Option Token) → slice_get (of_table 6 (listed s)) n ≡ o
        → option_and_then (λ (t : Token). broken (raw_in s (nth_row 6 n) 0 == 0 && has_body (cell_of c.plain t 0)) (place.Row t)) o ≡ None
    at n None h = refl
    at n (Some u) h = not_lost (raw_in s (nth_row 6 n) 0 == 0) (has_body (cell_of c.plain u 0)) (place.Row u) (keeps_body c l s n u may says (is_method c l s n u may says h))
