-- The generated case: a module that no file holds, and edit lists that follow it one after the other.
use Rattle.std.specs.Prelude.{ℕ, zero, suc, ◌+◌, ◌*◌, ◌/◌, ◌%◌, ◌^◌, ◌==◌, pos, Bool, true, false, List, [], ◌∷◌, ◌++◌, length, map, filter, replicate, Some, None, codes, decimal, if◌then◌else◌}
use Rattle.std.specs.List.{list_any}
use Rattle.enc_base.specs.Token.{nil}
use Rattle.enc_base.specs.declared.token.Token.{Token}
use Rattle.enc_base.specs.Tables.{assembly_ref, type_ref, type_def, method_def}
use Rattle.enc_opcodes.specs.declared.op.Operand.TheVariants as operand
use Rattle.enc_rows.specs.Sums.{below}
use Rattle.enc_plain.specs.Module.{Module}
use Rattle.enc_edit_list.specs.declared.body.ArgValue.TheVariants as arg
use Rattle.enc_edit_list.specs.declared.body.InstrValue.{InstrValue}
use Rattle.enc_edit_list.specs.declared.body.BodyValue.{BodyValue}
use Rattle.enc_edit_list.specs.declared.edit.Cell.{Cell as CellValue}
use Rattle.enc_edit_list.specs.declared.edit.Cell.TheVariants as cell
use Rattle.enc_edit_list.specs.declared.edit.Edit.{Edit}
use Rattle.enc_edit_list.specs.declared.edit.Edit.TheVariants.{Add, Body as Replace}
use Rattle.enc_edit_list.specs.declared.edit.EditList.{EditList}
use Rattle.enc_rules.specs.Edited.{edited}
use Rattle.enc_memory_module.specs.Begun.{begun}

-- the state of 64 bits behind a state: each draw makes such a step
abbrev pub next_state : ℕ → ℕ
next_state x = (x * 6364136223846793005 + 1442695040888963407) % 2 ^ 64

-- what is drawn in a state: its top 31 bits, modulo a number
abbrev pub drawn : ℕ → ℕ → ℕ
drawn n x = x / 2 ^ 33 % n

-- `ldc.i4` of a number, and `ret`
abbrev pub load_of : ℕ → InstrValue
load_of n = record { op = record { byte = 0x20; operand = operand.I32 }; arg = arg.Num (pos n) }

abbrev pub return : InstrValue
return = record { op = record { byte = 0x2A; operand = operand.None }; arg = arg.None }

-- the body that loads a number and returns
abbrev pub body_loading : ℕ → BodyValue
body_loading n = record { max = 8; init = false; locals = nil; code = load_of n ∷ return ∷ []; clauses = [] }

-- the row of a table
abbrev pub named_row : ℕ → ℕ → Token
named_row table row = record { table = table; row = row }

-- a row without an owner
abbrev pub adds_plain_row : ℕ → List CellValue → Edit
adds_plain_row table cells = Add table nil cells None []

-- a public static method of the type P, the second, with this name: it takes nothing and returns an int32 (ECMA-335
-- II.23.2.1)
abbrev pub adds_method : List ℕ → ℕ → Edit
adds_method name n =
    Add method_def (named_row type_def 2)
    (cell.Num 0 ∷ cell.Num 0x16 ∷ cell.Text name ∷ cell.Blob (0 ∷ 0 ∷ 8 ∷ []) ∷ []) (Some (body_loading n)) []

-- the assembly `mscorlib` 4.0.0.0
abbrev pub adds_mscorlib : Edit
adds_mscorlib = adds_plain_row assembly_ref
    (cell.Num 4 ∷ cell.Num 0 ∷ cell.Num 0 ∷ cell.Num 0 ∷ cell.Num 0 ∷ cell.Blob [] ∷ cell.Text (codes "mscorlib")
    ∷ cell.Text [] ∷ cell.Blob [] ∷ [])

-- its type System.Object
abbrev pub adds_object : Edit
adds_object = adds_plain_row type_ref
    (cell.Refer (named_row assembly_ref 1) ∷ cell.Text (codes "Object") ∷ cell.Text (codes "System") ∷ [])

-- a type with these flags that extends another
abbrev pub adds_type : ℕ → List ℕ → Token → Edit
adds_type flags name parent = adds_plain_row type_def
    (cell.Num flags ∷ cell.Text name ∷ cell.Text [] ∷ cell.Refer parent ∷ [])

-- the method M with a number, which it returns
abbrev pub base_method : ℕ → Edit
base_method k = adds_method (codes "M" ++ decimal k) k

-- the rows of the base but for that of Module, as edits: the assembly, its type, the types <Module> and P, and a
-- thousand methods
unfoldable pub base_edits : List Edit
base_edits =
    adds_mscorlib ∷ adds_object ∷ adds_type 0 (codes "<Module>") nil ∷ adds_type 0x100001 (codes "P")
    (named_row type_ref 1) ∷ map base_method (below 1000)

-- the Mvid 33221100-5544-7766-8899-aabbccddeeff
abbrev pub base_mvid : List ℕ
base_mvid = 0x00 ∷ 0x11 ∷ 0x22 ∷ 0x33 ∷ 0x44 ∷ 0x55 ∷ 0x66 ∷ 0x77 ∷ 0x88 ∷ 0x99 ∷ 0xAA ∷ 0xBB ∷ 0xCC ∷ 0xDD ∷ 0xEE
    ∷ 0xFF ∷ []

-- the base: the module `g.dll` with these rows
unfoldable pub generated_base : Module
generated_base = edited (begun (codes "g.dll") base_mvid) base_edits

-- what a turn does: it adds a method that returns a number, or has the method of a row return one
pub data Turn : Type 0 where
  adds : ℕ → Turn
  replaces : ℕ → ℕ → Turn

-- the turn that is drawn where there are so many methods: the state is that of its first draw, and each further draw
-- makes a step
abbrev pub turn_drawn : ℕ → ℕ → Turn
turn_drawn methods x =
    if drawn 4 x == 3 then adds (drawn 1000000 (next_state x))
    else replaces (drawn methods (next_state x) + 1) (drawn 1000000 (next_state (next_state x)))

-- the state behind a turn
abbrev pub state_behind : ℕ → ℕ
state_behind x = if drawn 4 x == 3 then next_state x else next_state (next_state x)

-- so many turns behind a state, and the state behind them
unfoldable pub turns_from : ℕ → ℕ → ℕ → List Turn
turns_from methods zero x = []
turns_from methods (suc n) x = turn_drawn methods (next_state x) ∷ turns_from methods n (state_behind (next_state x))

unfoldable pub state_after : ℕ → ℕ → ℕ
state_after zero x = x
state_after (suc n) x = state_after n (state_behind (next_state x))

-- a turn is about the method of this row
abbrev pub is_of_row : ℕ → Turn → Bool
is_of_row row (adds n) = false
is_of_row row (replaces r n) = r == row

-- the name of the method that a turn adds: A, the number of the list, _ and that of the turn
abbrev pub name_added : ℕ → ℕ → List ℕ
name_added list turn = codes "A" ++ decimal list ++ codes "_" ++ decimal turn

-- the edit of a turn behind others; none where one of them was about its method
abbrev pub edit_of_turn : ℕ → List Turn → Turn → List Edit
edit_of_turn list before (adds n) = adds_method (name_added list (length before + 1)) n ∷ []
edit_of_turn list before (replaces row n) =
    if list_any (is_of_row row) before then [] else Replace (named_row method_def row) (body_loading n) [] ∷ []

-- the edits of turns behind others
unfoldable pub edits_of_turns : ℕ → List Turn → List Turn → List Edit
edits_of_turns list before [] = []
edits_of_turns list before (t ∷ turns) = edit_of_turn list before t ++ edits_of_turns list (before ++ t ∷ []) turns

-- the list with a number: its EncId is that number and fifteen bytes 1, and it has no documents
abbrev pub list_of_turns : ℕ → List Turn → EditList
list_of_turns list turns = record {
  enc_id = list ∷ replicate 15 1;
  edits = edits_of_turns list [] turns;
  documents = [];
}

-- how many methods turns add
abbrev pub is_adding : Turn → Bool
is_adding (adds n) = true
is_adding (replaces row n) = false

abbrev pub methods_added : List Turn → ℕ
methods_added turns = length (filter is_adding turns)

-- so many lists of twenty turns behind a state, the first with a number, where there are so many methods
unfoldable pub lists_from : ℕ → ℕ → ℕ → ℕ → List EditList
lists_from list zero methods x = []
lists_from list (suc count) methods x =
    list_of_turns list (turns_from methods 20 x) ∷ lists_from (list + 1) count
    (methods + methods_added (turns_from methods 20 x)) (state_after 20 x)

-- the lists of a case
abbrev pub generated_lists : ℕ → ℕ → List EditList
generated_lists start count = lists_from 1 count 1000 start

-- the module with lists made directly, one after the other
unfoldable pub edited_by : Module → List EditList → Module
edited_by m [] = m
edited_by m (l ∷ lists) = edited_by (edited m l.edits) lists
