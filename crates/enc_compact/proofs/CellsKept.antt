-- What each cell of a module says fits its column where rows go to other places.
use Rattle.std.proofs.Common.{◌≡◌, ℕ, ◌%◌, ◌<◌, ◌≤◌, Bool, true, false, List, Option, Some, None, refl, sym, ap, ◌∙◌, inl, inr, arith}
use Rattle.std.specs.Prelude.{◌==◌, ◌&&◌, ◌||◌, nat_le, option_map, option_and_then, if◌then◌else◌}
use Rattle.std.proofs.lemmas.Bool.{or_cases, and_parts, and_from}
use Rattle.std.proofs.lemmas.Bool.Decides.{nat_tests}
use Rattle.enc_base.specs.Token.{nil, is_token}
use Rattle.enc_base.specs.declared.token.Token.{Token}
use Rattle.enc_token_map.specs.Body.{body_moved}
use Rattle.enc_token_map.specs.Laws.{MovedStaysSound}
use Rattle.enc_opcodes.specs.Body.{Body, begins_locals, may_name, is_named, locals_are_good}
use Rattle.enc_opcodes.specs.Sound.{body_is_sound}
use Rattle.enc_opcodes.proofs.Sounds.{good_local, sound_locals}
use Rattle.enc_schema.specs.declared.column.Column.{Column}
use Rattle.enc_schema.specs.declared.column.Column.TheVariants.{Num8, Num16, Num32, Text, Guid, Blob, Index, Coded, Run}
use Rattle.enc_schema.specs.Schema.{column_in}
use Rattle.enc_plain.specs.Cell.{Cell, number, text, blob, guid, refer, body, field, bodies, fields, kind_of, is_body, is_field, kind_in}
use Rattle.enc_plain.specs.Module.{Module, has_row, cells_of, cell_of}
use Rattle.enc_plain.specs.Rows.{number_at, bytes_at}
use Rattle.enc_plain.specs.Sound.{row_count, can_name, is_reference, locals_are_sound, method_is_sound, cell_is_sound, HasTables, HasCounts, HasKinds, HasCells, HasSignatures}
use Rattle.enc_plain.proofs.Applied.{same_is}
use Rattle.enc_plain.proofs.CellsOf.{blob_there}
use Rattle.enc_plain.proofs.ColumnKinds.{alone_kind}
use Rattle.enc_plain.proofs.KindsOf.{kind_of_cell, row_there}
use Rattle.enc_plain.specs.Signatures.{signature_column}
use Rattle.enc_row_order.specs.Orders.{Orders, place_in_order, moved_by}
use Rattle.enc_compact.specs.Moved.{AreOrders, KeepLayouts, holds_signatures, signature_moved, cell_moved, module_with}
use Rattle.enc_sigs.specs.Moved.{MovedBeginsAlike, MovedFieldFront}
use Rattle.enc_compact.proofs.CountsKept.{each_row}
use Rattle.enc_compact.proofs.FieldsKept.{field_kept}
use Rattle.enc_compact.proofs.KindsKept.{blob_at}
use Rattle.enc_compact.proofs.Places.{is_order, new_bounds, new_some, nil_stays}
use Rattle.enc_compact.proofs.Rows.{counts_moved, has_moved, moved_cell, number_moved, signature_there}
use Rattle.enc_compact.proofs.SignaturesKept.{begins_alike, locals_alike}

-- a token that names nothing, or a row that the column can name, still does
itself : is_token nil nil ≡ true
itself = refl

right_true : (a b : Bool) → b ≡ true → (a || b) ≡ true
right_true true b h = refl
right_true false b h = h

names_still : (orders : Orders) (column : Column) (t : Token) → can_name column t.table ≡ true → can_name column (moved_by orders t).table ≡ true
unfolding moved_by
names_still orders column t h = h

reference_kept : (m : Module) (orders : Orders) (column : Column) (t : Token) → HasTables m → AreOrders m orders → is_reference m column t ≡ true
    → is_reference (module_with orders m) column (moved_by orders t) ≡ true
unfolding is_reference
reference_kept m orders column t has are h =
    let q : Module = module_with orders m in
    elim (or_cases (is_token t nil) (can_name column t.table && has_row m t) h) [
      | inl none ↦
          let e : moved_by orders t ≡ nil = ap (moved_by orders) (same_is t nil none) ∙ nil_stays m orders are in
          ap (λ (u : Token). is_token u nil || can_name column u.table && has_row q u) e
      | inr some ↦
          let a = and_parts (can_name column t.table) (has_row m t) some in
          right_true (is_token (moved_by orders t) nil) _ (and_from _ _ (names_still orders column t a.0) (has_moved m orders t has are ∙ a.1))
    ]

-- so it is of tokens in bodies
le_of : (a b : ℕ) → nat_le a b ≡ true → a ≤ b
le_of a b h = grind (arith, nat_tests)

le_true : (a b : ℕ) → a ≤ b → nat_le a b ≡ true
le_true a b h = grind (arith, nat_tests)

named_moved : (m : Module) (orders : Orders) (t : Token) → AreOrders m orders → is_named (row_count m) t ≡ true
    → is_named (row_count m) (moved_by orders t) ≡ true
unfolding is_named moved_by
named_moved m orders t are h =
    let a = and_parts (may_name t.table && nat_le 1 t.row) (nat_le t.row (row_count m t.table)) h in
    let c = and_parts (may_name t.table) (nat_le 1 t.row) a.0 in
    let b = new_bounds (row_count m t.table) (orders t.table) t.row (is_order m orders t.table are)
    (le_of 1 t.row c.1) (le_of t.row (row_count m t.table) a.1) in
    and_from _ _ (and_from _ _ c.0 (le_true 1 (place_in_order (orders t.table) t.row) b.0)) (le_true (place_in_order (orders t.table) t.row) (row_count m t.table) b.1)

table_true : (n : ℕ) → n ≡ 0x11 → (n == 0x11) ≡ true
table_true n e = grind (arith, nat_tests)

left_true : (a b : Bool) → a ≡ true → (a || b) ≡ true
left_true true b h = refl
left_true false b h = absurd cc

no_local : (m : Module) (orders : Orders) (t : Token) → AreOrders m orders → (t.row == 0) ≡ true → locals_are_good (row_count m) (moved_by orders t) ≡ true
unfolding locals_are_good moved_by
no_local m orders t are e = left_true _ _ (new_some (row_count m t.table) (orders t.table) t.row (is_order m orders t.table are) ∙ e)

some_local : (m : Module) (orders : Orders) (t : Token) → AreOrders m orders → t.table ≡ 0x11 → 0 < t.row → t.row ≤ row_count m 0x11
    → locals_are_good (row_count m) (moved_by orders t) ≡ true
unfolding locals_are_good moved_by
some_local m orders t are e low high =
    let b = new_bounds (row_count m 0x11) (orders 0x11) t.row (is_order m orders 0x11 are) (omega arith) high in
    let within : nat_le (place_in_order (orders t.table) t.row) (row_count m 0x11) ≡ true =
    ap (λ n. nat_le (place_in_order (orders n) t.row) (row_count m 0x11)) e ∙ le_true (place_in_order (orders 0x11) t.row) (row_count m 0x11) b.1 in
    right_true _ _ (and_from _ _ (table_true t.table e) within)

locals_moved : (m : Module) (orders : Orders) (t : Token) → AreOrders m orders → locals_are_good (row_count m) t ≡ true
    → locals_are_good (row_count m) (moved_by orders t) ≡ true
locals_moved m orders t are h = by_row (t.row == 0) refl
  where
    by_row : (b : Bool) → (t.row == 0) ≡ b → locals_are_good (row_count m) (moved_by orders t) ≡ true
    by_row true e = no_local m orders t are e
    by_row false e = let p = good_local (row_count m) t h e in some_local m orders t are p.0 p.1 p.2

-- a local signature is still nil or one of locals
alone_column : (t : Token) → t.table ≡ 0x11 → holds_signatures t.table 0 ≡ true
unfolding signature_column
alone_column t e = rw e refl

some_row : (m : Module) (orders : Orders) (t : Token) → AreOrders m orders → (t.row == 0) ≡ false → ((moved_by orders t).row == 0) ≡ false
unfolding moved_by
some_row m orders t are e = new_some (row_count m t.table) (orders t.table) t.row (is_order m orders t.table are) ∙ e

begins_still : (m : Module) (orders : Orders) (t : Token) → MovedBeginsAlike → HasTables m → HasKinds m → AreOrders m orders → t.table ≡ 0x11
    → has_row m t ≡ true
    → begins_locals (bytes_at (cells_of m) t 0) ≡ true → begins_locals (bytes_at (cells_of (module_with orders m)) (moved_by orders t) 0) ≡ true
begins_still m orders t alike has kinds are e there h =
    let w = blob_at m t 0 kinds there (alone_kind t.table e) in
    ap begins_locals (signature_there m orders t 0 w.0 has are (alone_column t e) w.1)
    ∙ locals_alike (signature_moved (moved_by orders) t.table w.0) w.0 (begins_alike (moved_by orders) t.table w.0 alike)
    ∙ ap begins_locals (blob_there m t 0 w.0 w.1)
    ∙ h

if_first : (b x y : Bool) → (if b then x else y) ≡ true → b ≡ true → x ≡ true
if_first true x y h e = h
if_first false x y h e = absurd cc

if_second : (b x y : Bool) → b ≡ false → y ≡ true → (if b then x else y) ≡ true
if_second true x y e h = absurd cc
if_second false x y e h = h

is_nil : (m : Module) (t : Token) → locals_are_sound m t ≡ true → (t.row == 0) ≡ true → t ≡ nil
is_nil m t h e = same_is t nil (if_first (t.row == 0) (is_token t nil) (begins_locals (bytes_at (cells_of m) t 0)) h e)

is_local : (m : Module) (t : Token) → locals_are_sound m t ≡ true → (t.row == 0) ≡ false → begins_locals (bytes_at (cells_of m) t 0) ≡ true
is_local m t h e = rw e at h

locals_kept : (m : Module) (orders : Orders) (t : Token) → MovedBeginsAlike → HasTables m → HasKinds m → AreOrders m orders
    → locals_are_good (row_count m) t ≡ true
    → locals_are_sound m t ≡ true → locals_are_sound (module_with orders m) (moved_by orders t) ≡ true
locals_kept m orders t alike has kinds are good h = by_row (t.row == 0) refl
  where
    by_row : (b : Bool) → (t.row == 0) ≡ b → locals_are_sound (module_with orders m) (moved_by orders t) ≡ true
    by_row true e =
        let same : moved_by orders t ≡ nil = ap (moved_by orders) (is_nil m t h e) ∙ nil_stays m orders are in
        ap (locals_are_sound (module_with orders m)) same
    by_row false e =
        let p = good_local (row_count m) t good e in
        let there : has_row m t ≡ true = row_there m t p.1 (rw p.0 p.2) in
        if_second ((moved_by orders t).row == 0) (is_token (moved_by orders t) nil)
        (begins_locals (bytes_at (cells_of (module_with orders m)) (moved_by orders t) 0))
        (some_row m orders t are e) (begins_still m orders t alike has kinds are p.0 there (is_local m t h e))

-- a method's body stays sound
locals_of : (f : Token → Token) (b : Body) → (body_moved f b).locals ≡ f b.locals
unfolding body_moved
locals_of f b = refl

method_kept : (m : Module) (orders : Orders) (u : Token) (b : Body) → MovedBeginsAlike → MovedStaysSound → HasTables m → HasKinds m → AreOrders m orders
    → method_is_sound m u b ≡ true → method_is_sound (module_with orders m) (moved_by orders u) (body_moved (moved_by orders) b) ≡ true
unfolding method_is_sound
method_kept m orders u b alike stays has kinds are h =
    let f : Token → Token = moved_by orders in
    let q : Module = module_with orders m in
    let a = and_parts (number_at (cells_of m) u 1 % 4 == 0 && body_is_sound (row_count m) b) (locals_are_sound m b.locals) h in
    let d = and_parts (number_at (cells_of m) u 1 % 4 == 0) (body_is_sound (row_count m) b) a.0 in
    let il : (number_at (cells_of q) (f u) 1 % 4 == 0) ≡ true = ap (λ n. n % 4 == 0) (number_moved m orders u 1 has are) ∙ d.0 in
    let old : body_is_sound (row_count m) (body_moved f b) ≡ true =
    stays f (row_count m) b (λ t e. named_moved m orders t are e) (λ t e. locals_moved m orders t are e) d.1 in
    let sound : body_is_sound (row_count q) (body_moved f b) ≡ true =
    ap (λ (c : ℕ → ℕ). body_is_sound c (body_moved f b)) (counts_moved m orders has are) ∙ old in
    let locals : locals_are_sound q (body_moved f b).locals ≡ true =
    ap (locals_are_sound q) (locals_of f b) ∙ locals_kept m orders b.locals alike has kinds are (sound_locals (row_count m) b d.1) a.1 in
    and_from _ _ (and_from _ _ il sound) locals

-- only the column of a field's bytes has such
no_field : (o : Option Column) → option_and_then kind_of o ≡ Some fields → ⊥
no_field None h = absurd cc
no_field (Some Num8) h = absurd cc
no_field (Some Num16) h = absurd cc
no_field (Some Num32) h = absurd cc
no_field (Some Text) h = absurd cc
no_field (Some Guid) h = absurd cc
no_field (Some Blob) h = absurd cc
no_field (Some (Index t)) h = absurd cc
no_field (Some (Coded k)) h = absurd cc
no_field (Some (Run t)) h = absurd cc

field_from : (b f : Bool) (o : Option Column) → (if b then Some bodies else if f then Some fields else option_and_then kind_of o) ≡ Some fields → f ≡ true
field_from true f o h = absurd cc
field_from false true o h = refl
field_from false false o h = absurd (no_field o h)

place_of : (table i : ℕ) → (table == 0x1D && i == 0) ≡ true → table ≡ 0x1D
place_of table i h = grind (arith, nat_tests)

field_table : (u : Token) (i : ℕ) → kind_in u.table i ≡ Some fields → u.table ≡ 0x1D
field_table u i h = place_of u.table i (field_from (is_body u.table i) (is_field u.table i) (column_in u.table i) h)

-- a blob may be any bytes
blob_case : (m : Module) (orders : Orders) (t : Token) (i : ℕ) (column : Column) (bytes : List ℕ) → cell_is_sound m t column (blob bytes) ≡ true
    → cell_is_sound (module_with orders m) (moved_by orders t) column (cell_moved (moved_by orders) t.table i (blob bytes)) ≡ true
blob_case m orders t i column bytes h = refl

-- each cell
cell_kept : (m : Module) (orders : Orders) (t : Token) (i : ℕ) (column : Column) (c : Cell) → MovedBeginsAlike → MovedFieldFront → MovedStaysSound
    → HasTables m → HasCounts m → HasKinds m → HasCells m → HasSignatures m → AreOrders m orders → KeepLayouts m orders
    → has_row m t ≡ true → column_in t.table i ≡ Some column → cell_of m t i ≡ Some c → cell_is_sound m t column c ≡ true
    → cell_is_sound (module_with orders m) (moved_by orders t) column (cell_moved (moved_by orders) t.table i c) ≡ true
cell_kept m orders t i column (number n) alike fronts stays has counts kinds cells signatures are keep there e is h = h
cell_kept m orders t i column (text bytes) alike fronts stays has counts kinds cells signatures are keep there e is h = h
cell_kept m orders t i column (blob bytes) alike fronts stays has counts kinds cells signatures are keep there e is h = blob_case m orders t i column bytes h
cell_kept m orders t i column (guid bytes) alike fronts stays has counts kinds cells signatures are keep there e is h = h
cell_kept m orders t i column (refer u) alike fronts stays has counts kinds cells signatures are keep there e is h = reference_kept m orders column u has are h
cell_kept m orders t i column (body None) alike fronts stays has counts kinds cells signatures are keep there e is h = refl
cell_kept m orders t i column (body (Some b)) alike fronts stays has counts kinds cells signatures are keep there e is h =
    method_kept m orders t b alike stays has kinds are h
cell_kept m orders t i column (field bytes) alike fronts stays has counts kinds cells signatures are keep there e is h =
    field_kept m orders t bytes fronts has counts kinds cells signatures are keep there
    (field_table t i (kind_of_cell m t i column (field bytes) kinds there e is)) h

was_cell : (f : Token → Token) (t i : ℕ) (o : Option Cell) (c : Cell) → option_map (cell_moved f t i) o ≡ Some c
    → (d : Cell) × (o ≡ Some d) × (cell_moved f t i d ≡ c)
was_cell f t i None c e = absurd cc
was_cell f t i (Some d) c e = let same : cell_moved f t i d ≡ c = cc in (d, refl, same)

cell_at_row : (m : Module) (orders : Orders) (t : Token) (i : ℕ) (column : Column) (c : Cell) → MovedBeginsAlike → MovedFieldFront → MovedStaysSound
    → HasTables m → HasCounts m → HasKinds m → HasCells m → HasSignatures m → AreOrders m orders → KeepLayouts m orders
    → has_row m t ≡ true → column_in (moved_by orders t).table i ≡ Some column → cell_of (module_with orders m) (moved_by orders t) i ≡ Some c
    → cell_is_sound (module_with orders m) (moved_by orders t) column c ≡ true
unfolding moved_by
cell_at_row m orders t i column c alike fronts stays has counts kinds cells signatures are keep there e is =
    let w = was_cell (moved_by orders) t.table i (cell_of m t i) c (sym (moved_cell m orders t i has are) ∙ is) in
    ap (cell_is_sound (module_with orders m) (moved_by orders t) column) (sym w.2)
    ∙ cell_kept m orders t i column w.0 alike fronts stays has counts kinds cells signatures are keep there e w.1 (cells.each t i column w.0 there e w.1)

pub cells_kept : (m : Module) (orders : Orders) → MovedBeginsAlike → MovedFieldFront → MovedStaysSound → HasTables m → HasCounts m → HasKinds m → HasCells m
    → HasSignatures m → AreOrders m orders → KeepLayouts m orders → HasCells (module_with orders m)
cells_kept m orders alike fronts stays has counts kinds cells signatures are keep = record {
  each = λ u i column c there. each_row m orders
      (λ u. column_in u.table i ≡ Some column → cell_of (module_with orders m) u i ≡ Some c → cell_is_sound (module_with orders m) u column c ≡ true)
      has are (λ t here e is. cell_at_row m orders t i column c alike fronts stays has counts kinds cells signatures are keep here e is) u there;
}
