-- What an edit list makes of a module: each edit made directly.
use Rattle.std.specs.Prelude.{ℕ, ◌+◌, ◌==◌, List, [], ◌∷◌, ◌++◌, map, Option, Some, option_map, unwrap_or, if◌then◌else◌}
use Rattle.enc_base.specs.declared.token.Token.{Token}
use Rattle.enc_schema.specs.Children.{is_child_table}
use Rattle.enc_base.specs.Tables as tables
use Rattle.enc_opcodes.specs.Body.{Body, nil_or, handler_meant}
use Rattle.enc_plain.specs.Cell.{Cell, number, text, blob, guid, refer, body, field}
use Rattle.enc_plain.specs.Module.{Module, cells_of}
use Rattle.enc_plain.specs.Apply.{Change, Attached, apply, attach_all}
use Rattle.enc_plain.specs.Sound.{row_count}
use Rattle.enc_edit_list.specs.declared.body.BodyValue.{BodyValue}
use Rattle.enc_edit_list.specs.declared.edit.Cell.{Cell as CellValue}
use Rattle.enc_edit_list.specs.declared.edit.Cell.TheVariants as cell
use Rattle.enc_edit_list.specs.declared.edit.Edit.{Edit}
use Rattle.enc_edit_list.specs.declared.edit.Edit.TheVariants.{Add, Body as Replace}
use Rattle.enc_edit_list.specs.Sizes.{length_of_code, placed}
use Rattle.enc_edit_list.specs.Added.{rows_added}

-- the cell that a value states; a token of row 0 names nothing
abbrev pub cell_stated : CellValue → Cell
cell_stated (cell.Num n) = number n
cell_stated (cell.Text bytes) = text bytes
cell_stated (cell.Blob bytes) = blob bytes
cell_stated (cell.Guid bytes) = guid bytes
cell_stated (cell.Refer t) = refer (nil_or t)

-- the body that is stated: its instructions stand one behind the other from 0 on (ECMA-335 II.25.4)
unfoldable pub body_stated : BodyValue → Body
body_stated b = record {
  stack = b.max;
  init = b.init;
  locals = nil_or b.locals;
  size = length_of_code b.code;
  code = placed 0 b.code;
  handlers = map handler_meant b.clauses;
}

-- the cells of an added row: a method's begin with its body (II.22.26), those of FieldRVA with no bytes (II.22.18)
unfoldable pub cells_stated : ℕ → List CellValue → Option BodyValue → List Cell
cells_stated table cells code =
    if table == tables.method_def then body (option_map body_stated code) ∷ map cell_stated cells
    else if table == tables.field_rva then field [] ∷ map cell_stated cells
    else map cell_stated cells

-- the row that an edit behind others is about: the next of its table, or the method whose body it replaces
abbrev pub row_edited : Module → List Edit → Edit → Token
row_edited m before (Add table owner cells code points) =
    record { table = table; row = row_count m table + rows_added before table + 1 }
row_edited m before (Replace method code points) = method

-- the same of each edit behind others
unfoldable pub rows_behind : Module → List Edit → List Edit → List Token
rows_behind m before [] = []
rows_behind m before (e ∷ rest) = row_edited m before e ∷ rows_behind m (before ++ e ∷ []) rest

-- the rows that the edits of a list are about, in order
abbrev pub rows_edited : Module → List Edit → List Token
rows_edited m edits = rows_behind m [] edits

-- the cells of a method with another body
abbrev pub cells_with : Body → List Cell → List Cell
cells_with b [] = []
cells_with b (c ∷ cells) = body (Some b) ∷ cells

-- the cells that an edit gives its row
abbrev pub cells_edited : Module → Edit → List Cell
cells_edited m (Add table owner cells code points) = cells_stated table cells code
cells_edited m (Replace method code points) = cells_with (body_stated code) (unwrap_or (cells_of m method) [])

-- the cells that edits behind others give their rows
unfoldable pub changes_behind : Module → List Edit → List Edit → List Change
changes_behind m before [] = []
changes_behind m before (e ∷ rest) =
    record { token = row_edited m before e; cells = cells_edited m e } ∷ changes_behind m (before ++ e ∷ []) rest

-- the child that an edit gives its owner
abbrev pub attached_by : Edit → Token → List Attached
attached_by (Add table owner cells code points) child =
    if is_child_table table then record { owner = owner; child = child } ∷ [] else []
attached_by (Replace method code points) child = []

unfoldable pub attached_behind : Module → List Edit → List Edit → List Attached
attached_behind m before [] = []
attached_behind m before (e ∷ rest) = attached_by e (row_edited m before e) ++ attached_behind m (before ++ e ∷ []) rest

-- the children that a list gives their owners, in order
abbrev pub attached_in : Module → List Edit → List Attached
attached_in m edits = attached_behind m [] edits

-- the module with all edits made directly: rows and bodies put in place, and then the children attached
unfoldable pub edited : Module → List Edit → Module
edited m edits = attach_all (apply m (changes_behind m [] edits)) (attached_in m edits)
