-- The form of an edit list: what its values are before any rule is asked.
use Rattle.std.specs.Prelude.{ℕ, ◌^◌, ◌-◌, ℤ, pos, negsuc, Bool, true, false, not, ◌&&◌, ◌||◌, ◌==◌, List, [], ◌∷◌, length, filter, drop, Option, Some, None, is_some, nat_lt, nat_le, if◌then◌else◌}
use Rattle.std.specs.List.{list_any, list_all}
use Rattle.enc_base.specs.Token.{is_token, nil}
use Rattle.enc_base.specs.declared.token.Token.{Token}
use Rattle.enc_schema.specs.declared.column.Column.{Column}
use Rattle.enc_schema.specs.declared.column.Column.TheVariants.{Num8, Num16, Num32, Text, Guid, Blob, Index, Coded, Run}
use Rattle.enc_schema.specs.Children.{is_child_table}
use Rattle.enc_schema.specs.Schema.{columns_in}
use Rattle.enc_base.specs.Tables as tables
use Rattle.enc_opcodes.specs.Opcodes.{is_op}
use Rattle.enc_opcodes.specs.declared.code.Clause.{Clause}
use Rattle.enc_opcodes.specs.declared.op.Operand.{Operand}
use Rattle.enc_opcodes.specs.declared.op.Operand.TheVariants as operand
use Rattle.enc_seqpoints.specs.declared.point.Point.{Point}
use Rattle.enc_edit_list.specs.declared.body.ArgValue.{ArgValue}
use Rattle.enc_edit_list.specs.declared.body.ArgValue.TheVariants as arg
use Rattle.enc_edit_list.specs.declared.body.InstrValue.{InstrValue}
use Rattle.enc_edit_list.specs.declared.body.BodyValue.{BodyValue}
use Rattle.enc_edit_list.specs.declared.edit.Cell.{Cell as CellValue}
use Rattle.enc_edit_list.specs.declared.edit.Cell.TheVariants as cell
use Rattle.enc_edit_list.specs.declared.edit.Edit.{Edit}
use Rattle.enc_edit_list.specs.declared.edit.Edit.TheVariants.{Add, Body}
use Rattle.enc_edit_list.specs.declared.edit.EditList.{EditList}

-- the column is no run
abbrev pub is_stated : Column → Bool
is_stated (Run table) = false
is_stated _ = true

-- the RVA of a method or of a field is no cell of an edit
abbrev pub begins_with_rva : ℕ → Bool
begins_with_rva table = table == tables.method_def || table == tables.field_rva

-- the columns for which an added row of the table has a cell: all but runs and RVA
unfoldable pub stated_columns : ℕ → List Column
stated_columns table = filter is_stated (drop (if begins_with_rva table then 1 else 0) (columns_in table))

-- the cell is of the column's kind and width, and a text has no zero
abbrev pub cell_fits : Column → CellValue → Bool
cell_fits Num8 (cell.Num n) = nat_lt n 0x100
cell_fits Num16 (cell.Num n) = nat_lt n 0x10000
cell_fits Num32 (cell.Num n) = nat_lt n 0x100000000
cell_fits Text (cell.Text t) = not (list_any (λ b. b == 0) t)
cell_fits Blob (cell.Blob b) = true
cell_fits Guid (cell.Guid g) = true
cell_fits (Index table) (cell.Refer t) = true
cell_fits (Coded kind) (cell.Refer t) = true
cell_fits _ _ = false

-- a cell for each column, and each fits its own
unfoldable pub cells_fit : List Column → List CellValue → Bool
cells_fit [] [] = true
cells_fit (c ∷ columns) (v ∷ cells) = cell_fits c v && cells_fit columns cells
cells_fit _ _ = false

-- a whole number lies from one to another
abbrev pub lies_in : ℤ → ℕ → ℕ → Bool
lies_in (pos n) below above = nat_le n above
lies_in (negsuc n) below above = nat_lt n below

-- the argument is that of its operand and fits its width
abbrev pub arg_fits : Operand → ArgValue → Bool
arg_fits operand.None arg.None = true
arg_fits operand.I8 (arg.Num n) = lies_in n 0x80 0x7F
arg_fits operand.U8 (arg.Num n) = lies_in n 0 0xFF
arg_fits operand.U16 (arg.Num n) = lies_in n 0 0xFFFF
arg_fits operand.I32 (arg.Num n) = lies_in n 0x80000000 0x7FFFFFFF
arg_fits operand.I64 (arg.Num n) = lies_in n 0x8000000000000000 0x7FFFFFFFFFFFFFFF
arg_fits operand.R4 (arg.Raw bytes) = length bytes == 4
arg_fits operand.R8 (arg.Raw bytes) = length bytes == 8
arg_fits operand.Branch8 (arg.Target t) = true
arg_fits operand.Branch32 (arg.Target t) = true
arg_fits operand.Switch (arg.Targets ts) = true
arg_fits operand.Token (arg.Token t) = true
arg_fits operand.User (arg.User units) = true
arg_fits _ _ = false

-- the instruction is one, with an argument of its own
abbrev pub instr_fits : InstrValue → Bool
instr_fits i = is_op i.op && arg_fits i.op.operand i.arg

-- a clause catches a class, or has a filter, or stands for any end of its code, or for one by an exception (ECMA-335
-- II.25.4.6)
abbrev pub clause_is_stated : Clause → Bool
clause_is_stated c = c.kind == 0 || c.kind == 1 || c.kind == 2 || c.kind == 4

unfoldable pub body_fits : BodyValue → Bool
body_fits b = list_all instr_fits b.code && list_all clause_is_stated b.clauses

abbrev pub body_fits_if : Option BodyValue → Bool
body_fits_if None = true
body_fits_if (Some b) = body_fits b

-- an owner stands where the table is one of children; the row of a token is below 2^24
abbrev pub owner_fits : ℕ → Token → Bool
owner_fits table owner = if is_child_table table then nat_lt owner.row 0x1000000 else is_token owner nil

-- a body stands only at a MethodDef, and points only at a body
abbrev pub code_fits : ℕ → Option BodyValue → List Point → Bool
code_fits table (Some b) points = table == tables.method_def && body_fits b
code_fits table None points = length points == 0

-- the table is one of the standard's
abbrev pub is_known_table : ℕ → Bool
is_known_table table = nat_lt 0 (length (columns_in table))

unfoldable pub edit_fits : Edit → Bool
edit_fits (Add table owner cells code points) =
    is_known_table table && owner_fits table owner && cells_fit (stated_columns table) cells
    && code_fits table code points
edit_fits (Body method code points) = body_fits code

-- the list is of the form
unfoldable pub list_fits : EditList → Bool
list_fits list = list_all edit_fits list.edits
