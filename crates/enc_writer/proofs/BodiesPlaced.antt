-- The methods that edits are about, with the places of their bodies.
use Rattle.std.proofs.Common.{◌≡◌, ℕ, ◌+◌, ◌<◌, ◌≤◌, Bool, true, false, List, [], ◌∷◌, ◌++◌, length, take, Option, Some, None, option_map, refl, sym, ap, subst, ◌∙◌, arith, append-nil, append_assoc, inl, inr}
use Rattle.std.specs.Prelude.{◌==◌, ◌&&◌, nat_lt, is_some, option_and_then, unwrap_or, slice_get, if◌then◌else◌}
use Rattle.std.specs.BTreeMap.{BTreeMap, get, IsEmpty}
use Rattle.std.specs.Ordering.{nat_cmp}
use Rattle.std.proofs.lemmas.Bool.{and_parts}
use Rattle.std.proofs.lemmas.Bool.Decides.{nat_tests}
use Rattle.std.proofs.lemmas.Option.{slice_get_cases, slice_get_within}
use Rattle.enc_base.specs.Token.{is_token}
use Rattle.enc_base.specs.declared.token.Token.{Token}
use Rattle.enc_meta.specs.BuiltLaws.{heaps_joined}
use Rattle.enc_schema.specs.Schema.{columns_in}
use Rattle.enc_plain.specs.Cell.{Cell, body, cell_count}
use Rattle.enc_plain.specs.Chain.{Chain}
use Rattle.enc_plain.specs.Module.{Module, cells_of}
use Rattle.enc_opcodes.specs.Body.{Body}
use Rattle.enc_edit_list.specs.declared.body.BodyValue.{BodyValue}
use Rattle.enc_edit_list.specs.declared.edit.Edit.{Edit}
use Rattle.enc_edit_list.specs.declared.edit.Edit.TheVariants.{Add, Body as Replace}
use Rattle.enc_edit_list.specs.declared.edit.EditList.{EditList}
use Rattle.enc_rules.specs.Edited.{body_stated, row_edited, rows_edited, cells_stated, cells_with, cells_edited}
use Rattle.enc_rules.specs.Listed.{body_given, count_after}
use Rattle.enc_rules.proofs.RowsEdited.{row_there, rows_all}
use Rattle.enc_memory_module.proofs.Changed.{edit_found}
use Rattle.enc_memory_module.proofs.Landed.{apart}
use Rattle.enc_list_delta.specs.Delta.{is_edited, cells_written}
use Rattle.enc_list_delta.specs.Holds.{MayFollow, PlacesBody, heaps_written}
use Rattle.enc_list_delta.proofs.CellsRead.{given, edited_row, many_cells, sound_edited}
use Rattle.enc_list_delta.proofs.TokensAbout.{about_edit, edit_about, self}
use Rattle.enc_list_delta.proofs.TokensUnbroken.{nothing_breaks}
use Rattle.enc_writer.specs.BodiesWriting.{StandsFirm, StandsOf, ArePlacedUpto, PutsPlace, place_known, users_written}
use Rattle.enc_writer.specs.Writing.{MethodsPlaced, method_token}

some_same : {A : Type 0} (a b : A) → Some a ≡ Some b → a ≡ b
some_same a b h = cc

-- two edits about one row are one edit (E6)
meets : (b : Bool) → b ≡ true → b ≡ false → ⊥
meets b h e = let f : true ≡ false = sym h ∙ e in cc

one_edit : (c : Chain) (l : EditList) (j k : ℕ) (e f : Edit) (u : Token) → MayFollow c l → slice_get l.edits j ≡ Some e → slice_get l.edits k ≡ Some f → slice_get (rows_edited c.plain l.edits) j ≡ Some u → slice_get (rows_edited c.plain l.edits) k ≡ Some u → j ≡ k
one_edit c l j k e f u may a b x y = by (nat_lt j k) (nat_lt k j) refl refl
  where
    by : (p q : Bool) → nat_lt j k ≡ p → nat_lt k j ≡ q → j ≡ k
    by true q is or = absurd (meets (is_token u u) (self u) (apart c l j k e f u u (nothing_breaks c l may) a b x y (grind (arith, nat_tests, is))))
    by false true is or = absurd (meets (is_token u u) (self u) (apart c l k j f e u u (nothing_breaks c l may) b a y x (grind (arith, nat_tests, or))))
    by false false is or = grind (arith, nat_tests, is, or)

-- so a row has the cells of the edit at a place that is about it
own_cells : (c : Chain) (l : EditList) (k : ℕ) (e : Edit) (u : Token) → MayFollow c l → slice_get l.edits k ≡ Some e → slice_get (rows_edited c.plain l.edits) k ≡ Some u → cells_written c.plain l.edits u ≡ cells_edited c.plain e
own_cells c l k e u may there row =
    let w = edit_found c.plain [] l.edits u (cells_written c.plain l.edits u) (given c.plain l.edits u (edit_about c.plain l.edits k u row)) in
    let at : w.at ≡ k = one_edit c l w.at k w.edit e u may w.there there w.row row in
    let same : w.edit ≡ e = some_same w.edit e (sym w.there ∙ ap (slice_get l.edits) at ∙ there) in
    w.gives ∙ ap (cells_edited c.plain) same

-- those of a method begin with its body
method_columns : (table : ℕ) → table ≡ 6 → 0 < cell_count table
unfolding columns_in
method_columns table is = rw is (omega arith)

cells_some : (c : Chain) (l : EditList) (u : Token) → MayFollow c l → is_edited c.plain l.edits u ≡ true → u.table ≡ 6 → 0 < length (cells_written c.plain l.edits u)
cells_some c l u may about table =
    let many = many_cells _ u (cells_written c.plain l.edits u) (sound_edited c l may).kinds (edited_row c l u may (nothing_breaks c l may) about) in
    omega (arith, many, method_columns u.table table)

stated_first : (table : ℕ) (cells : _) (code : Option BodyValue) → table ≡ 6 → slice_get (cells_stated table cells code) 0 ≡ Some (body (option_map body_stated code))
unfolding cells_stated
stated_first table cells code is = rw is refl

replaced_first : (b : Body) (cells : List Cell) → 0 < length (cells_with b cells) → slice_get (cells_with b cells) 0 ≡ Some (body (Some b))
replaced_first b [] some = absurd (omega (arith, some))
replaced_first b (x ∷ cells) some = refl

first_by : (m : Module) (before : List Edit) (e : Edit) (u : Token) → row_edited m before e ≡ u → u.table ≡ 6 → 0 < length (cells_edited m e) → slice_get (cells_edited m e) 0 ≡ Some (body (option_map body_stated (body_given e)))
first_by m before (Add table owner cells code points) u own is some = stated_first table cells code (ap (λ (t : Token). t.table) own ∙ is)
first_by m before (Replace method code points) u own is some = replaced_first (body_stated code) (unwrap_or (cells_of m method) []) some

pub first_cell : (c : Chain) (l : EditList) (k : ℕ) (e : Edit) (u : Token) → MayFollow c l → slice_get l.edits k ≡ Some e → slice_get (rows_edited c.plain l.edits) k ≡ Some u → u.table ≡ 6
    → slice_get (cells_written c.plain l.edits u) 0 ≡ Some (body (option_map body_stated (body_given e)))
first_cell c l k e u may there row table =
    let own = own_cells c l k e u may there row in
    let some : 0 < length (cells_edited c.plain e) = subst (λ (cells : List Cell). 0 < length cells) own (cells_some c l u may (edit_about c.plain l.edits k u row) table) in
    ap (λ (cells : List Cell). slice_get cells 0) own
    ∙ first_by c.plain (take k l.edits) e u (some_same _ _ (sym (row_there c.plain l.edits k e there) ∙ row)) table some

-- a place where the edit's body stands is that of its row
placed_by : (c : Chain) (l : EditList) (il behind : List ℕ) (place : ℕ) (o : Option BodyValue) → StandsFirm c l il place o
    → PlacesBody (count_after c l.edits) (users_written c l) (il ++ behind) place (Some (body (option_map body_stated o)))
placed_by c l il behind place None firm = firm
placed_by c l il behind place (Some b) firm = firm behind

edit_some : (edits : List Edit) (k : ℕ) → k < length edits → (e : Edit) × (slice_get edits k ≡ Some e)
edit_some edits k low = elim (slice_get_cases edits k).1 [
  | inl there ↦ (there.0, there.2)
  | inr past ↦ absurd (omega (arith, low, past.0))
]

placed_here : (c : Chain) (l : EditList) (k place : ℕ) (u : Token) (il behind : List ℕ) → MayFollow c l → slice_get (rows_edited c.plain l.edits) k ≡ Some u → u.table ≡ 6 → StandsOf c l il place k
    → PlacesBody (count_after c l.edits) (users_written c l) (il ++ behind) place (slice_get (cells_written c.plain l.edits u) 0)
placed_here c l k place u il behind may row table firm =
    let low = slice_get_within (rows_edited c.plain l.edits) k u row in
    let e = edit_some l.edits k (omega (arith, low, rows_all c.plain l.edits)) in
    subst (PlacesBody (count_after c l.edits) (users_written c l) (il ++ behind) place) (sym (first_cell c l k e.0 u may e.1 row table))
    (placed_by c l il behind place (body_given e.0) (subst (λ (o : Option Edit). StandsFirm c l il place (option_and_then body_given o)) e.1 firm))

-- no method is known before the first edit
pub none_placed : (c : Chain) (l : EditList) (il : List ℕ) (methods : BTreeMap ℕ ℕ) → IsEmpty methods → ArePlacedUpto c l 0 il methods
none_placed c l il methods empty = record {
  edited = λ row place is. let e : get nat_cmp methods row ≡ None = rw empty refl in absurd cc;
  placed = λ row place is behind. let e : get nat_cmp methods row ≡ None = rw empty refl in absurd cc;
  known = λ k row low there. absurd (omega (arith, low));
}

-- the row of a known place is that which was put down, or was known before
is_here : (u : Token) (row : ℕ) → (u.table == 6 && u.row == row) ≡ true → (u ≡ method_token row) × (u.table ≡ 6)
is_here u row h =
    let a = and_parts (u.table == 6) (u.row == row) h in
    let table : u.table ≡ 6 = grind (arith, nat_tests, a.0) in
    let number : u.row ≡ row = grind (arith, nat_tests, a.1) in
    ((λ i. record { table = table i; row = number i }), table)

data Known (old : BTreeMap ℕ ℕ) (u : Token) (place row found : ℕ) : Type 0 where
  here : u ≡ method_token row → u.table ≡ 6 → place ≡ found → Known old u place row found
  before : get nat_cmp old row ≡ Some found → Known old u place row found

known_by : (old : BTreeMap ℕ ℕ) (u : Token) (place row found : ℕ) (b : Bool) → (u.table == 6 && u.row == row) ≡ b → (if b then Some place else get nat_cmp old row) ≡ Some found → Known old u place row found
known_by old u place row found true is h = let w = is_here u row is in here w.0 w.1 (some_same place found h)
known_by old u place row found false is h = before h

known_is : (old new : BTreeMap ℕ ℕ) (u : Token) (place row found : ℕ) → PutsPlace old new u place → get nat_cmp new row ≡ Some found → Known old u place row found
known_is old new u place row found puts h = known_by old u place row found (u.table == 6 && u.row == row) refl (sym (puts row) ∙ h)

here_some : (place : ℕ) (old : Option ℕ) (b : Bool) → (b ≡ false → is_some old ≡ true) → is_some (if b then Some place else old) ≡ true
here_some place old true h = refl
here_some place old false h = h refl

self_here : (row : ℕ) → ((method_token row).table == 6 && (method_token row).row == row) ≡ true
self_here row = let e : (row == row) ≡ true = grind (arith, nat_tests) in rw e refl

-- one edit more
pub one_placed : (c : Chain) (l : EditList) (k place : ℕ) (u : Token) (il new rest : List ℕ) (old methods : BTreeMap ℕ ℕ) → MayFollow c l → slice_get (rows_edited c.plain l.edits) k ≡ Some u → new ≡ il ++ rest
    → StandsOf c l new place k → PutsPlace old methods u place → ArePlacedUpto c l k il old → ArePlacedUpto c l (k + 1) new methods
one_placed c l k place u il new rest old methods may row grown firm puts all = record { edited = edited; placed = placed; known = known }
  where
    edited : (q found : ℕ) → get nat_cmp methods q ≡ Some found → is_edited c.plain l.edits (method_token q) ≡ true
    edited q found is = by (known_is old methods u place q found puts is)
      where
        by : Known old u place q found → is_edited c.plain l.edits (method_token q) ≡ true
        by (here same table at) = ap (is_edited c.plain l.edits) (sym same) ∙ edit_about c.plain l.edits k u row
        by (before there) = all.edited q found there

    placed : (q found : ℕ) → get nat_cmp methods q ≡ Some found → (behind : List ℕ)
        → PlacesBody (count_after c l.edits) (users_written c l) (new ++ behind) found (slice_get (cells_written c.plain l.edits (method_token q)) 0)
    placed q found is behind = by (known_is old methods u place q found puts is)
      where
        by : Known old u place q found → PlacesBody (count_after c l.edits) (users_written c l) (new ++ behind) found (slice_get (cells_written c.plain l.edits (method_token q)) 0)
        by (here same table at) =
            subst (λ t. PlacesBody (count_after c l.edits) (users_written c l) (new ++ behind) found (slice_get (cells_written c.plain l.edits t) 0)) same
            (subst (λ p. PlacesBody (count_after c l.edits) (users_written c l) (new ++ behind) p (slice_get (cells_written c.plain l.edits u) 0)) at
            (placed_here c l k place u new behind may row table firm))
        by (before there) =
            subst (λ xs. PlacesBody (count_after c l.edits) (users_written c l) xs found (slice_get (cells_written c.plain l.edits (method_token q)) 0))
            (sym (append_assoc il rest behind) ∙ ap (λ xs. xs ++ behind) (sym grown))
            (all.placed q found there (rest ++ behind))

    known : (j q : ℕ) → j < k + 1 → slice_get (rows_edited c.plain l.edits) j ≡ Some (method_token q) → is_some (get nat_cmp methods q) ≡ true
    known j q low there = ap is_some (puts q) ∙ by (nat_lt j k) refl
      where
        by : (b : Bool) → nat_lt j k ≡ b → is_some (place_known old u place q) ≡ true
        by true is = here_some place (get nat_cmp old q) (u.table == 6 && u.row == q) (λ e. all.known j q (grind (arith, nat_tests, is)) there)
        by false is =
            let at : j ≡ k = grind (arith, nat_tests, is, low) in
            let same : u ≡ method_token q = some_same u (method_token q) (sym row ∙ ap (slice_get (rows_edited c.plain l.edits)) (sym at) ∙ there) in
            rw (same, self_here q) refl

-- with all edits all methods are known
pub all_placed : (c : Chain) (l : EditList) (n : ℕ) (il : List ℕ) (methods : BTreeMap ℕ ℕ) → length l.edits ≤ n → ArePlacedUpto c l n il methods
    → MethodsPlaced c l (heaps_joined c.heaps (heaps_written c l)) il methods
all_placed c l n il methods all is = record {
  edited = is.edited;
  placed = λ row place there. subst (λ xs. PlacesBody (count_after c l.edits) (users_written c l) xs place (slice_get (cells_written c.plain l.edits (method_token row)) 0)) (append-nil il) (is.placed row place there []);
  others = λ row none. by row (is_edited c.plain l.edits (method_token row)) refl none;
}
  where
    by : (row : ℕ) (b : Bool) → is_edited c.plain l.edits (method_token row) ≡ b → get nat_cmp methods row ≡ None → b ≡ false
    by row false about none = refl
    by row true about none =
        let w = about_edit c.plain l.edits (method_token row) about in
        let low = slice_get_within (rows_edited c.plain l.edits) w.at (method_token row) w.row in
        let some : is_some (get nat_cmp methods row) ≡ true = is.known w.at row (omega (arith, low, all, rows_all c.plain l.edits)) w.row in
        absurd (meets true refl (sym some ∙ ap is_some none))
