-- What the delta of an edit list says: its EncMap, its EncLog, and the cells of its rows.
use Rattle.std.specs.Prelude.{ℕ, ◌==◌, Bool, false, not, List, [], ◌∷◌, ◌++◌, map, filter, flat_map, unwrap_or, if◌then◌else◌}
use Rattle.std.specs.List.{list_any}
use Rattle.enc_base.specs.Token.{nth_row, is_token}
use Rattle.enc_base.specs.declared.token.Token.{Token}
use Rattle.enc_rows.specs.Sums.{below}
use Rattle.enc_base.specs.Tables as tables
use Rattle.enc_plain.specs.Apply.{Attached}
use Rattle.enc_plain.specs.Cell.{Cell}
use Rattle.enc_plain.specs.Chain.{Chain}
use Rattle.enc_plain.specs.Fits.{cells_for}
use Rattle.enc_plain.specs.Module.{Module}
use Rattle.enc_delta.specs.Operations as operation
use Rattle.enc_delta.specs.declared.log_entry.LogEntry.{LogEntry}
use Rattle.enc_edit_list.specs.declared.edit.Edit.{Edit}
use Rattle.enc_edit_list.specs.declared.edit.Edit.TheVariants.{Add, Body as Replace}
use Rattle.enc_rules.specs.Edited.{row_edited, rows_edited, attached_by, changes_behind}
use Rattle.enc_rules.specs.Listed.{count_after}

-- an edit is about this row
unfoldable pub is_edited : Module → List Edit → Token → Bool
is_edited m edits u = list_any (λ t. is_token t u) (rows_edited m edits)

-- the rows of a table that edits are about, rising
unfoldable pub tokens_written : Chain → List Edit → ℕ → List Token
tokens_written c edits table =
    filter (is_edited c.plain edits) (map (nth_row table) (below (count_after c edits table)))

-- EncMap: those of all tables, one table behind the other
unfoldable pub map_written : Chain → List Edit → List Token
map_written c edits = flat_map (tokens_written c edits) (below 64)

-- the code of an entry of EncLog that gives its token a child of a table: methods, fields, parameters, properties,
-- events
abbrev pub add_code : ℕ → ℕ
add_code table =
    if table == tables.method_def then operation.add_method
    else if table == tables.field then operation.add_field
    else if table == tables.param then operation.add_parameter
    else if table == tables.property then operation.add_property
    else operation.add_event

abbrev pub add_entry : Attached → LogEntry
add_entry a = record { token = a.owner; operation = add_code a.child.table }

-- the entries of an edit: one that gives its row to the owner, where it has one, and one for the row
unfoldable pub entries_for : Edit → Token → List LogEntry
entries_for e row = map add_entry (attached_by e row) ++ record { token = row; operation = operation.default } ∷ []

-- the edit adds a row that refers to something else: one of AssemblyRef, MemberRef, MethodSpec, ModuleRef,
-- StandAloneSig, TypeRef or TypeSpec (ECMA-335 II.22)
abbrev pub is_reference_table : ℕ → Bool
is_reference_table table =
    list_any (λ t. t == table)
    (tables.assembly_ref ∷ tables.member_ref ∷ tables.method_spec ∷ tables.module_ref ∷ tables.stand_alone_sig
    ∷ tables.type_ref ∷ tables.type_spec ∷ [])

abbrev pub adds_reference : Edit → Bool
adds_reference (Add table owner cells code points) = is_reference_table table
adds_reference (Replace method code points) = false

abbrev pub entries_if : Bool → List LogEntry → List LogEntry
entries_if b entries = if b then entries else []

-- the entries of those edits, behind others, that pass a test
unfoldable pub entries_behind : (Edit → Bool) → Module → List Edit → List Edit → List LogEntry
entries_behind asks m before [] = []
entries_behind asks m before (e ∷ rest) =
    entries_if (asks e) (entries_for e (row_edited m before e)) ++ entries_behind asks m (before ++ e ∷ []) rest

-- EncLog: the entries of all references, and behind them those of all else, each in the order of the edits
unfoldable pub log_written : Module → List Edit → List LogEntry
log_written m edits = entries_behind adds_reference m [] edits ++ entries_behind
    (λ e. not (adds_reference e)) m [] edits

-- the cells that the edits give a row that they are about
unfoldable pub cells_written : Module → List Edit → Token → List Cell
cells_written m edits u = unwrap_or (cells_for (changes_behind m [] edits) u) []
