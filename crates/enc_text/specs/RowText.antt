-- The printed row of a plain module.
use Rattle.std.specs.Prelude.{ℕ, zero, suc, List, [], ◌∷◌, ◌++◌, length, flat_map, Option, Some, None, unwrap_or, decimal, codes, ◌==◌, if◌then◌else◌}
use Rattle.enc_base.specs.Token.{nil}
use Rattle.enc_base.specs.declared.token.Token.{Token}
use Rattle.enc_schema.specs.declared.column.Column.{Column}
use Rattle.enc_schema.specs.declared.column.Column.TheVariants.{Num8, Num16, Run}
use Rattle.enc_schema.specs.Schema.{columns_in, column_in}
use Rattle.enc_schema.specs.Names.{table_name_in, column_name_in}
use Rattle.enc_schema.specs.Children.{is_child_table, runs_in}
use Rattle.enc_plain.specs.Cell.{Cell, number, text, blob, guid, refer, body, field}
use Rattle.enc_plain.specs.Module.{Module, cell_of, owner_of, kids_of}
use Rattle.enc_plain.specs.Debug.{PlainPdb}
use Rattle.enc_plain.specs.declared.place.RowPlace.{RowPlace}
use Rattle.enc_text.specs.BodyText.{body_text}
use Rattle.enc_text.specs.PointText.{points_text}
use Rattle.enc_text.specs.Text.{digits, token_text, quoted, bracketed, guid_text}

-- f 0, f 1, .. below n, one behind the other
unfoldable pub joined_below : (ℕ → List ℕ) → ℕ → List ℕ
joined_below f zero = []
joined_below f (suc n) = joined_below f n ++ f n

-- the digits of a number by its column's width
abbrev pub digits_in : Column → ℕ
digits_in Num8 = 2
digits_in Num16 = 4
digits_in _ = 8

abbrev pub value_text : Column → Cell → List ℕ
value_text c (number n) = digits (digits_in c) n
value_text c (text bytes) = quoted bytes
value_text c (blob bytes) = bracketed bytes
value_text c (guid bytes) = guid_text bytes
value_text c (refer token) = token_text token
value_text c (body (Some b)) = codes "body"
value_text c (body None) = codes "none"
value_text c (field bytes) = bracketed bytes

abbrev pub value_in : Column → Option Cell → List ℕ
value_in c (Some cell) = value_text c cell
value_in c None = []

-- ` NAME=` and the value of a column's cell
abbrev pub equation : Column → List ℕ → Option Cell → List ℕ
equation c name cell = 0x20 ∷ name ++ 0x3d ∷ value_in c cell

-- a run has no cell and isn't printed
abbrev pub named_cell : Option Column → List ℕ → Option Cell → List ℕ
named_cell None name cell = []
named_cell (Some (Run table)) name cell = []
named_cell (Some c) name cell = equation c name cell

unfoldable pub cell_text : Module → Token → ℕ → List ℕ
cell_text m token i = named_cell (column_in token.table i) (unwrap_or (column_name_in token.table i) [])
    (cell_of m token i)

-- ` @G.R`: the generation, and the row's position there
unfoldable pub row_place_text : RowPlace → List ℕ
row_place_text place = codes " @" ++ decimal place.generation ++ 0x2e ∷ decimal place.row

-- the row's line: its token, its table's name, each column, and its place
unfoldable pub line_text : Module → RowPlace → Token → List ℕ
line_text m place token =
    token_text token ++ 0x20 ∷ unwrap_or (table_name_in token.table) [] ++
    joined_below (cell_text m token) (length (columns_in token.table)) ++ row_place_text place ++ 0x0a ∷ []

-- the line of a child row's owner
unfoldable pub owner_text : Module → Token → List ℕ
owner_text m token = if is_child_table token.table
    then codes "  owner " ++ token_text (unwrap_or (owner_of m token) nil) ++ 0x0a ∷ [] else []

-- what the children in a table are called
abbrev pub kids_name : ℕ → List ℕ
kids_name child =
    if child == 0x04 then codes "fields"
    else if child == 0x06 then codes "methods"
    else if child == 0x08 then codes "params"
    else if child == 0x14 then codes "events"
    else codes "properties"

-- ` TOKEN`
abbrev pub kid_text : ℕ → ℕ → List ℕ
kid_text child row = 0x20 ∷ token_text (record { table = child; row = row })

abbrev pub kids_line : ℕ → List ℕ → List ℕ
kids_line child [] = []
kids_line child (k ∷ ks) = 0x20 ∷ 0x20 ∷ kids_name child ++ flat_map (kid_text child) (k ∷ ks) ++ 0x0a ∷ []

-- the line of a row's children in a table, where it has any
unfoldable pub kids_text : Module → Token → ℕ → List ℕ
kids_text m token child = kids_line child (kids_of m token child)

-- the lines of a cell that is a body
abbrev pub code_lines : Option Cell → List ℕ
code_lines (Some (body (Some b))) = body_text b
code_lines _ = []

-- the lines of a method's body, where it has one
unfoldable pub code_text : Module → Token → List ℕ
code_text m token = if token.table == 0x06 then code_lines (cell_of m token 0) else []

-- the lines of a method's points, whether or not it has a body
unfoldable pub debug_text : PlainPdb → Token → List ℕ
debug_text pdb token = if token.table == 0x06 then points_text (pdb token) else []

-- the row's line, its owner's line, the lines of its children, those of its body, and those of its points
unfoldable pub row_text_of : Module → PlainPdb → RowPlace → Token → List ℕ
row_text_of m pdb place token =
    line_text m place token ++ owner_text m token ++ flat_map (kids_text m token) (runs_in token.table)
    ++ code_text m token ++ debug_text pdb token
