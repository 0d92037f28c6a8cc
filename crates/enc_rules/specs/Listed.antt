-- An edit list after a chain, and the rows by which it is judged.
use Rattle.std.specs.Prelude.{ℕ, ◌+◌, ◌-◌, List, [], Option, Some, None, option_map, nat_lt, if◌then◌else◌, slice_get}
use Rattle.enc_base.specs.Order.{or_else}
use Rattle.enc_base.specs.declared.token.Token.{Token}
use Rattle.enc_seqpoints.specs.declared.point.Point.{Point}
use Rattle.enc_plain.specs.Cell.{Cell}
use Rattle.enc_plain.specs.Module.{cells_of}
use Rattle.enc_plain.specs.Rows.{Rows}
use Rattle.enc_plain.specs.Chain.{Chain, rows_before}
use Rattle.enc_edit_list.specs.declared.body.BodyValue.{BodyValue}
use Rattle.enc_edit_list.specs.declared.edit.Edit.{Edit}
use Rattle.enc_edit_list.specs.declared.edit.Edit.TheVariants.{Add, Body as Replace}
use Rattle.enc_edit_list.specs.declared.edit.EditList.{EditList}
use Rattle.enc_edit_list.specs.Added.{adding, rows_added}
use Rattle.enc_rules.specs.Edited.{cells_stated}

-- a chain, and an edit list after it
pub record AfterList : Type 0 where
  pub chain : Chain
  pub list : EditList

-- how many rows a table has after the list
unfoldable pub count_after : Chain → List Edit → ℕ → ℕ
count_after c edits table = rows_before c table + rows_added edits table

-- the edit that adds a row: of those that add to its table the one with as many before it as new rows stand before
-- this one
unfoldable pub edit_of : Chain → List Edit → Token → Option Edit
edit_of c edits t = if nat_lt (rows_before c t.table) t.row
    then slice_get (adding edits t.table) (t.row - rows_before c t.table - 1) else None

-- the cells of the row that an edit adds
abbrev pub cells_added : Edit → List Cell
cells_added (Add table owner cells code points) = cells_stated table cells code
cells_added (Replace method code points) = []

-- the rows after the list, but that a body that it replaces is still there
unfoldable pub rows_listed : Chain → List Edit → Rows
rows_listed c edits t = or_else (option_map cells_added (edit_of c edits t)) (cells_of c.plain t)

-- the body that an edit gives a method, and its sequence points
abbrev pub body_given : Edit → Option BodyValue
body_given (Add table owner cells code points) = code
body_given (Replace method code points) = Some code

abbrev pub points_given : Edit → List Point
points_given (Add table owner cells code points) = points
points_given (Replace method code points) = points
