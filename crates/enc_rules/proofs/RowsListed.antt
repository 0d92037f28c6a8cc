-- The rows after an edit list, cell by cell.
use Rattle.std.proofs.Common.{◌≡◌, ℕ, zero, suc, ◌+◌, ◌-◌, ◌<◌, Bool, true, false, List, [], ◌∷◌, map, Option, Some, None, refl, ap, ◌∙◌, arith}
use Rattle.std.specs.Prelude.{◌/◌, ◌%◌, ◌^◌, ◌==◌, nat_lt, slice_get, is_some, option_map, option_and_then, if◌then◌else◌}
use Rattle.std.proofs.lemmas.Bool.Decides.{nat_tests}
use Rattle.std.proofs.lemmas.Option.{slice_get-map}
use Rattle.enc_base.specs.declared.token.Token.{Token}
use Rattle.enc_meta.specs.Joined.{joined_blob}
use Rattle.enc_base.specs.Tables as tables
use Rattle.enc_plain.specs.Cell.{Cell, body, field}
use Rattle.enc_plain.specs.Chain.{Chain}
use Rattle.enc_plain.specs.Module.{cells_of}
use Rattle.enc_plain.specs.Rows.{cell_at, number_at, bytes_at, token_at, number_of_cell, bytes_of_cell, token_of_cell}
use Rattle.enc_edit_list.specs.declared.body.BodyValue.{BodyValue}
use Rattle.enc_edit_list.specs.declared.edit.Cell.{Cell as CellValue}
use Rattle.enc_edit_list.specs.declared.edit.Cell.TheVariants as cell
use Rattle.enc_edit_list.specs.declared.edit.Edit.{Edit}
use Rattle.enc_edit_list.specs.declared.edit.Edit.TheVariants.{Add, Body as Replace}
use Rattle.enc_rules.specs.Edited.{cell_stated, body_stated, cells_stated}
use Rattle.enc_rules.specs.Listed.{AfterList, edit_of, cells_added, rows_listed}
use Rattle.enc_rules.specs.Known.{stated_in, stated_of, number_of_value, bytes_of_value, token_of_value, cell_key, blobs_listed, listed_rows}

-- an added row has the cells of its edit, and any other those of the chain
pub new_is : (c : Chain) (edits : List Edit) (t : Token) (e : Edit) → edit_of c edits t ≡ Some e → rows_listed c edits t ≡ Some (cells_added e)
unfolding rows_listed
new_is c edits t e there = rw there refl

pub old_is : (c : Chain) (edits : List Edit) (t : Token) → edit_of c edits t ≡ None → rows_listed c edits t ≡ cells_of c.plain t
unfolding rows_listed
old_is c edits t none = rw none refl

-- so it is a row, and any other is one where it was
pub has_new : (c : Chain) (edits : List Edit) (t : Token) (e : Edit) → edit_of c edits t ≡ Some e → is_some (rows_listed c edits t) ≡ true
has_new c edits t e there = ap is_some (new_is c edits t e there)

pub has_old : (c : Chain) (edits : List Edit) (t : Token) → edit_of c edits t ≡ None → is_some (rows_listed c edits t) ≡ is_some (cells_of c.plain t)
has_old c edits t none = ap is_some (old_is c edits t none)

-- what a stated value says
stated_number : (v : Option CellValue) → number_of_cell (option_map cell_stated v) ≡ number_of_value v
stated_number None = refl
stated_number (Some (cell.Num n)) = refl
stated_number (Some (cell.Text bytes)) = refl
stated_number (Some (cell.Blob bytes)) = refl
stated_number (Some (cell.Guid bytes)) = refl
stated_number (Some (cell.Refer t)) = refl

stated_bytes : (v : Option CellValue) → bytes_of_cell (option_map cell_stated v) ≡ bytes_of_value v
stated_bytes None = refl
stated_bytes (Some (cell.Num n)) = refl
stated_bytes (Some (cell.Text bytes)) = refl
stated_bytes (Some (cell.Blob bytes)) = refl
stated_bytes (Some (cell.Guid bytes)) = refl
stated_bytes (Some (cell.Refer t)) = refl

stated_token : (v : Option CellValue) → token_of_cell (option_map cell_stated v) ≡ token_of_value v
stated_token None = refl
stated_token (Some (cell.Num n)) = refl
stated_token (Some (cell.Text bytes)) = refl
stated_token (Some (cell.Blob bytes)) = refl
stated_token (Some (cell.Guid bytes)) = refl
stated_token (Some (cell.Refer t)) = refl

-- a cell says the same as a value
record Says (c : Option Cell) (v : Option CellValue) : Type 0 where
  number : number_of_cell c ≡ number_of_value v
  bytes : bytes_of_cell c ≡ bytes_of_value v
  token : token_of_cell c ≡ token_of_value v

stated_says : (cells : List CellValue) (i : ℕ) → Says (slice_get (map cell_stated cells) i) (slice_get cells i)
stated_says cells i = rw (slice_get-map cell_stated cells i) (record { number = stated_number (slice_get cells i); bytes = stated_bytes (slice_get cells i); token = stated_token (slice_get cells i) })

-- the cell in front of the others is none that is stated
front_says : (first : Cell) (cells : List CellValue) (i : ℕ) → Says (Some first) None → Says (slice_get (first ∷ map cell_stated cells) i) (if i == 0 then None else slice_get cells (i - 1))
front_says first cells zero says = says
front_says first cells (suc i) says = let z : (suc i == 0) ≡ false = grind (arith, nat_tests) in let e : suc i - 1 ≡ i = omega arith in rw (z, e) (stated_says cells i)

by_table : (table : ℕ) (cells : List CellValue) (code : Option BodyValue) (i : ℕ) (method rva : Bool) → (table == tables.method_def) ≡ method → (table == tables.field_rva) ≡ rva → Says (slice_get (cells_stated table cells code) i) (stated_in table cells i)
unfolding cells_stated
by_table table cells code i true rva is_method is_rva = rw is_method (front_says (body (option_map body_stated code)) cells i (record { number = refl; bytes = refl; token = refl }))
by_table table cells code i false true is_method is_rva = rw (is_method, is_rva) (front_says (field []) cells i (record { number = refl; bytes = refl; token = refl }))
by_table table cells code i false false is_method is_rva = rw (is_method, is_rva) (stated_says cells i)

added_says : (e : Edit) (i : ℕ) → Says (slice_get (cells_added e) i) (stated_of e i)
added_says (Add table owner cells code points) i = by_table table cells code i _ _ refl refl
added_says (Replace method code points) i = record { number = refl; bytes = refl; token = refl }

-- the cells of an added row
cell_new : (c : Chain) (edits : List Edit) (t : Token) (i : ℕ) (e : Edit) → edit_of c edits t ≡ Some e → cell_at (rows_listed c edits) t i ≡ slice_get (cells_added e) i
cell_new c edits t i e there = ap (option_and_then (λ (cells : List Cell). slice_get cells i)) (new_is c edits t e there)

pub number_new : (c : Chain) (edits : List Edit) (t : Token) (i : ℕ) (e : Edit) → edit_of c edits t ≡ Some e → number_at (rows_listed c edits) t i ≡ number_of_value (stated_of e i)
unfolding number_at
number_new c edits t i e there = ap number_of_cell (cell_new c edits t i e there) ∙ (added_says e i).number

pub bytes_new : (c : Chain) (edits : List Edit) (t : Token) (i : ℕ) (e : Edit) → edit_of c edits t ≡ Some e → bytes_at (rows_listed c edits) t i ≡ bytes_of_value (stated_of e i)
unfolding bytes_at
bytes_new c edits t i e there = ap bytes_of_cell (cell_new c edits t i e there) ∙ (added_says e i).bytes

pub token_new : (c : Chain) (edits : List Edit) (t : Token) (i : ℕ) (e : Edit) → edit_of c edits t ≡ Some e → token_at (rows_listed c edits) t i ≡ token_of_value (stated_of e i)
unfolding token_at
token_new c edits t i e there = ap token_of_cell (cell_new c edits t i e there) ∙ (added_says e i).token

-- the rows before, seen through those after
pub number_old : (c : Chain) (edits : List Edit) (t : Token) (i : ℕ) → edit_of c edits t ≡ None → number_at (rows_listed c edits) t i ≡ number_at (cells_of c.plain) t i
unfolding number_at
number_old c edits t i none = rw (old_is c edits t none) refl

pub bytes_old : (c : Chain) (edits : List Edit) (t : Token) (i : ℕ) → edit_of c edits t ≡ None → bytes_at (rows_listed c edits) t i ≡ bytes_at (cells_of c.plain) t i
unfolding bytes_at
bytes_old c edits t i none = rw (old_is c edits t none) refl

pub token_old : (c : Chain) (edits : List Edit) (t : Token) (i : ℕ) → edit_of c edits t ≡ None → token_at (rows_listed c edits) t i ≡ token_at (cells_of c.plain) t i
unfolding token_at
token_old c edits t i none = rw (old_is c edits t none) refl

-- a blob at a place of the chain, and one by the number of its cell
pub stored_low : (j : AfterList) (place : ℕ) → place < 2 ^ 63 → blobs_listed j place ≡ joined_blob j.chain.heaps place
unfolding blobs_listed
stored_low j place low = let e : nat_lt place (2 ^ 63) ≡ true = grind (arith, nat_tests) in rw e refl

pub stored_number : (j : AfterList) (t : Token) (i : ℕ) → t.table < 256 → i < 256 → blobs_listed j (2 ^ 63 + cell_key t i) ≡ Some (bytes_at (listed_rows j) t i)
unfolding blobs_listed
stored_number j t i low few =
    let n = cell_key t i in
    let e : nat_lt (2 ^ 63 + n) (2 ^ 63) ≡ false = grind (arith, nat_tests) in
    let m : 2 ^ 63 + n - 2 ^ 63 ≡ n = omega arith in
    let column : n % 2 ^ 8 ≡ i = omega arith in
    let table : n / 2 ^ 8 % 2 ^ 8 ≡ t.table = omega arith in
    let row : n / 2 ^ 16 ≡ t.row = omega arith in
    rw (e, m, column, table, row) refl
