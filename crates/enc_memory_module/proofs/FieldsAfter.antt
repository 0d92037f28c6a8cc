-- The bytes of fields keep their size after edits.
use Rattle.std.proofs.Common.{◌≡◌, ℕ, zero, suc, ◌<◌, ◌≤◌, Bool, true, false, List, length, Option, Some, None, refl, sym, ap, ◌∙◌, inl, inr, arith}
use Rattle.std.specs.Prelude.{◌==◌, ◌&&◌, ◌||◌, option_map, if◌then◌else◌}
use Rattle.std.proofs.lemmas.Bool.{or_cases, and_parts}
use Rattle.enc_base.specs.Order.{first_below}
use Rattle.enc_base.specs.Token.{nth_row, nil, is_token}
use Rattle.enc_base.specs.declared.token.Token.{Token}
use Rattle.enc_base.proofs.First.{first_none, first_suc, first_kept}
use Rattle.enc_schema.specs.declared.column.Column.{Column}
use Rattle.enc_schema.specs.declared.column.Column.TheVariants.{Index}
use Rattle.enc_schema.specs.Schema.{columns_in, column_in}
use Rattle.enc_plain.specs.Cell.{Cell, refer, references, kind_in, cell_kind}
use Rattle.enc_plain.specs.Chain.{Chain}
use Rattle.enc_plain.specs.Extent.{extent_in}
use Rattle.enc_plain.specs.Module.{Module, has_row, cells_of, cell_of}
use Rattle.enc_plain.specs.Rows.{number_at, bytes_at, token_at}
use Rattle.enc_plain.specs.Sound.{can_name, row_count, is_reference, class_size_at, class_size, size_of, extent_of, is_size, field_is_sound, HasTables, HasKinds, HasCells}
use Rattle.enc_plain.specs.declared.extent.Extent.{Extent}
use Rattle.enc_plain.specs.declared.extent.Extent.TheVariants.{Bytes, Class}
use Rattle.enc_plain.proofs.Applied.{same_is}
use Rattle.enc_plain.proofs.CellsOf.{token_there}
use Rattle.enc_plain.proofs.KindsOf.{row_bounds}
use Rattle.enc_edit_list.specs.declared.edit.EditList.{EditList}
use Rattle.enc_rules.specs.Edited.{edited}
use Rattle.enc_memory_module.proofs.Unbroken.{BreakNothing}
use Rattle.enc_memory_module.proofs.Agreed.{numbers_stay, bytes_stay, tokens_stay}
use Rattle.enc_memory_module.proofs.Grown.{rows_grow}
use Rattle.enc_memory_module.proofs.BodiesAfter.{no_body}

-- a row of ClassLayout tells what it told
one_size : (c : Chain) (l : EditList) (type k : ℕ) → HasTables c.plain → BreakNothing c l → k < row_count c.plain 0x0F → class_size_at c.plain type k ≡ class_size_at (edited c.plain l.edits) type k
unfolding class_size_at
one_size c l type k has none low =
    let u = nth_row 0x0F k in
    let size : number_at (cells_of c.plain) u 1 ≡ number_at (cells_of (edited c.plain l.edits)) u 1 = sym (numbers_stay c l u 1 has none (no_body 0x0F 1 refl) (omega (arith, low))) in
    let parent : token_at (cells_of c.plain) u 2 ≡ token_at (cells_of (edited c.plain l.edits)) u 2 = sym (tokens_stay c l u 2 has none (no_body 0x0F 2 refl) (omega (arith, low))) in
    rw (size, parent) refl

first_same : {A : Type 0} (f g : ℕ → Option A) (n : ℕ) → ((k : ℕ) → k < n → f k ≡ g k) → first_below f n ≡ first_below g n
first_same f g zero same = first_none f ∙ sym (first_none g)
first_same f g (suc n) same = first_suc f n ∙ rw (first_same f g n (λ k lt. same k (omega arith)), same n (omega arith)) (sym (first_suc g n))

class_kept : (c : Chain) (l : EditList) (type k : ℕ) → HasTables c.plain → BreakNothing c l → class_size c.plain type ≡ Some k → class_size (edited c.plain l.edits) type ≡ Some k
unfolding class_size
class_kept c l type k has none h =
    first_kept (class_size_at (edited c.plain l.edits) type) k (row_count c.plain 0x0F) (row_count (edited c.plain l.edits) 0x0F) (rows_grow c l 0x0F has none) (sym (first_same (class_size_at c.plain type) (class_size_at (edited c.plain l.edits) type) (row_count c.plain 0x0F) (λ n low. one_size c l type n has none low)) ∙ h)

size_kept : (c : Chain) (l : EditList) (e : Option Extent) (k : ℕ) → HasTables c.plain → BreakNothing c l → size_of c.plain e ≡ Some k → size_of (edited c.plain l.edits) e ≡ Some k
size_kept c l (Some (Bytes n)) k has none h = h
size_kept c l (Some (Class type)) k has none h = class_kept c l type k has none h
size_kept c l None k has none h = absurd cc

-- what a sound row names is no row past the last
reference_low : (m : Module) (column : Column) (t : Token) → is_reference m column t ≡ true → t.row ≤ row_count m t.table
unfolding is_reference
reference_low m column t h =
    elim (or_cases (is_token t nil) (can_name column t.table && has_row m t) h) [
      | inl none ↦ let is : t ≡ nil = same_is t nil none in let zero_row : t.row ≡ 0 = ap (λ (x : Token). x.row) is in omega (arith, zero_row)
      | inr some ↦ (row_bounds m t (and_parts (can_name column t.table) (has_row m t) some).1).1
    ]

by_cell : (x : Cell) (o : Option Cell) → o ≡ Some x → option_map cell_kind o ≡ Some references → (t : Token) × (x ≡ refer t)
by_cell (refer t) o e h = (t, refl)
by_cell x o e h = let k = rw e at h in absurd cc

there : (o : Option Cell) → option_map cell_kind o ≡ Some references → (x : Cell) × (o ≡ Some x)
there (Some x) h = (x, refl)
there None h = absurd cc

named_low : (m : Module) (u : Token) (i table : ℕ) → HasKinds m → HasCells m → has_row m u ≡ true → kind_in u.table i ≡ Some references → column_in u.table i ≡ Some (Index table) → (token_at (cells_of m) u i).row ≤ row_count m (token_at (cells_of m) u i).table
named_low m u i table kinds cells row kind column =
    let k = kinds.kinds u i references row kind in
    let x = there (cell_of m u i) k in
    let r = by_cell x.0 (cell_of m u i) x.1 k in
    let is : cell_of m u i ≡ Some (refer r.0) = x.1 ∙ ap (λ (y : Cell). Some y) r.1 in
    let token : r.0 ≡ token_at (cells_of m) u i = token_there m u i r.0 is in
    rw (← token) (reference_low m (Index table) r.0 (cells.each u i (Index table) (refer r.0) row column is))

-- the field of a row of FieldRVA has what told its size
extent_kept : (c : Chain) (l : EditList) (u : Token) → HasTables c.plain → BreakNothing c l → HasKinds c.plain → HasCells c.plain → has_row c.plain u ≡ true → u.table ≡ 0x1D → extent_of (edited c.plain l.edits) u ≡ extent_of c.plain u
unfolding extent_of columns_in
extent_kept c l u has none kinds cells row is =
    let t = token_at (cells_of c.plain) u 1 in
    let field : token_at (cells_of (edited c.plain l.edits)) u 1 ≡ t = tokens_stay c l u 1 has none (no_body u.table 1 refl) (row_bounds c.plain u row).1 in
    let low : t.row ≤ row_count c.plain t.table = named_low c.plain u 1 0x04 kinds cells row (rw is refl) (rw is refl) in
    let bytes : bytes_at (cells_of (edited c.plain l.edits)) t 2 ≡ bytes_at (cells_of c.plain) t 2 = bytes_stay c l t 2 has none (no_body t.table 2 refl) low in
    ap (λ (x : Token). if x.row == 0 then None else extent_in (bytes_at (cells_of (edited c.plain l.edits)) x 2)) field ∙ ap (λ bs. if t.row == 0 then None else extent_in bs) bytes

sized : (n : ℕ) (a b : Option ℕ) (empty : Bool) → (empty || is_size n a) ≡ true → ((k : ℕ) → a ≡ Some k → b ≡ Some k) → (empty || is_size n b) ≡ true
sized n a b true h keeps = refl
sized n None b false h keeps = absurd cc
sized n (Some k) b false h keeps = rw (keeps k refl) h

-- the bytes of a field
pub old_field : (c : Chain) (l : EditList) (u : Token) (bytes : List ℕ) → HasTables c.plain → BreakNothing c l → HasKinds c.plain → HasCells c.plain → has_row c.plain u ≡ true → u.table ≡ 0x1D → field_is_sound c.plain u bytes ≡ true → field_is_sound (edited c.plain l.edits) u bytes ≡ true
unfolding field_is_sound
old_field c l u bytes has none kinds cells row is h =
    rw (extent_kept c l u has none kinds cells row is) (sized (length bytes) (size_of c.plain (extent_of c.plain u)) (size_of (edited c.plain l.edits) (extent_of c.plain u)) (length bytes == 0) h (λ k e. size_kept c l (extent_of c.plain u) k has none e))
