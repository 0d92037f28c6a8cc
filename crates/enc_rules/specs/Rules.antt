-- The rules of an edit list after its chain, each of the list as a whole or of the edit at a place, from 0.
use Rattle.std.specs.Prelude.{ℕ, ◌+◌, ◌*◌, ◌%◌, ◌^◌, Bool, true, false, not, ◌&&◌, ◌||◌, ◌==◌, nat_lt, nat_le, List, [], ◌∷◌, length, filter, flat_map, take, sum_by, Option, Some, None, is_ok, if◌then◌else◌, slice_get, bytes_eq}
use Rattle.std.specs.List.{list_any, list_all}
use Rattle.enc_base.specs.Token.{is_token}
use Rattle.enc_base.specs.declared.token.Token.{Token}
use Rattle.enc_meta.specs.Heaps.{nil_guid}
use Rattle.enc_meta.specs.Joined.{joined_lengths}
use Rattle.enc_meta.specs.Built.{Built, none_from, with_text, with_user, with_blob, text_bytes, user_bytes, blob_bytes, unit_bytes, joined_end}
use Rattle.enc_schema.specs.declared.column.Column.{Column}
use Rattle.enc_schema.specs.Children.{is_child_table, owner_table}
use Rattle.enc_base.specs.Tables as tables
use Rattle.enc_schema.specs.Columns as columns
use Rattle.enc_opcodes.specs.Sound.{body_is_sound}
use Rattle.enc_rows.specs.Sums.{below}
use Rattle.enc_seqpoints.specs.declared.point.Point.{Point}
use Rattle.enc_seqpoints.specs.Spelling.{blob_of}
use Rattle.enc_plain.specs.Apply.{Attached}
use Rattle.enc_plain.specs.Chain.{Chain}
use Rattle.enc_plain.specs.Rows.{Rows, number_at, bytes_at}
use Rattle.enc_plain.specs.Signatures.{signature_column, is_signature}
use Rattle.enc_plain.specs.Sound.{can_name}
use Rattle.enc_delta.specs.Rules.{may_change}
use Rattle.enc_delta.specs.Changes.{asked_of, is_out_of_layout, has_no_slot, are_locals}
use Rattle.enc_delta.specs.Twins.{has_twin}
use Rattle.enc_edit_list.specs.declared.body.ArgValue.{ArgValue}
use Rattle.enc_edit_list.specs.declared.body.ArgValue.TheVariants as arg
use Rattle.enc_edit_list.specs.declared.body.BodyValue.{BodyValue}
use Rattle.enc_edit_list.specs.declared.body.InstrValue.{InstrValue}
use Rattle.enc_edit_list.specs.declared.edit.Cell.{Cell as CellValue}
use Rattle.enc_edit_list.specs.declared.edit.Cell.TheVariants as cell
use Rattle.enc_edit_list.specs.declared.edit.DocumentValue.{DocumentValue}
use Rattle.enc_edit_list.specs.declared.edit.Edit.{Edit}
use Rattle.enc_edit_list.specs.declared.edit.Edit.TheVariants.{Add, Body as Replace}
use Rattle.enc_edit_list.specs.declared.edit.EditList.{EditList}
use Rattle.enc_edit_list.specs.Form.{stated_columns}
use Rattle.enc_edit_list.specs.Reach.{branches_reach}
use Rattle.enc_edit_list.specs.Sizes.{length_of_code}
use Rattle.enc_rules.specs.Edited.{body_stated, rows_edited, attached_by, attached_in}
use Rattle.enc_rules.specs.Listed.{count_after, rows_listed, body_given, points_given}

-- what a rule says of the edit at a place and of the row that it is about
abbrev pub of_edit : (Edit → Token → Bool) → Option Edit → Option Token → Bool
of_edit rule (Some e) (Some t) = rule e t
of_edit rule _ _ = false

abbrev pub at_edit : (Edit → Token → Bool) → Chain → EditList → ℕ → Bool
at_edit rule c l k = of_edit rule (slice_get l.edits k) (slice_get (rows_edited c.plain l.edits) k)

-- E4: the EncId is nil or was used
unfoldable pub id_is_taken : Chain → EditList → Bool
id_is_taken c l = bytes_eq l.enc_id nil_guid || list_any (λ id. bytes_eq id l.enc_id) c.ids

-- E24: more than 65,535 deltas, or 2^24 - 1 rows of a table after, or entries of EncLog, of which an edit has one
-- and one more where its row has an owner
abbrev pub has_owner : Edit → Bool
has_owner (Add table owner cells code points) = is_child_table table
has_owner (Replace method code points) = false

unfoldable pub there_are_too_many : Chain → EditList → Bool
there_are_too_many c l =
    nat_lt 65535 (length c.ids + 1)
    || list_any (λ table. nat_lt 0xFFFFFF (count_after c l.edits table)) (below 64)
    || nat_lt 0xFFFFFE (length l.edits + length (filter has_owner l.edits))

-- the texts, the user texts and the blobs that cells and instructions have
abbrev pub texts_in_cell : CellValue → List (List ℕ)
texts_in_cell (cell.Text bytes) = bytes ∷ []
texts_in_cell _ = []

abbrev pub blobs_in_cell : CellValue → List (List ℕ)
blobs_in_cell (cell.Blob bytes) = bytes ∷ []
blobs_in_cell _ = []

abbrev pub users_in_argument : ArgValue → List (List ℕ)
users_in_argument (arg.User units) = unit_bytes units ∷ []
users_in_argument _ = []

abbrev pub users_in_body : Option BodyValue → List (List ℕ)
users_in_body None = []
users_in_body (Some b) = flat_map (λ (i : InstrValue). users_in_argument i.arg) b.code

-- the values that an edit brings for each heap: those of its row, which for a method whose body is replaced are its
-- name and signature, and of its body
abbrev pub texts_of_edit : Rows → Edit → List (List ℕ)
texts_of_edit rows (Add table owner cells code points) = flat_map texts_in_cell cells
texts_of_edit rows (Replace method code points) =
    if method.table == tables.method_def then bytes_at rows method columns.method_def_name ∷ [] else []

abbrev pub blobs_of_edit : Rows → Edit → List (List ℕ)
blobs_of_edit rows (Add table owner cells code points) = flat_map blobs_in_cell cells
blobs_of_edit rows (Replace method code points) =
    if method.table == tables.method_def then bytes_at rows method columns.method_def_signature ∷ [] else []

abbrev pub users_of_edit : Edit → List (List ℕ)
users_of_edit e = users_in_body (body_given e)

-- heaps with more values, in order
unfoldable pub with_texts : Built → List (List ℕ) → Built
with_texts h [] = h
with_texts h (v ∷ values) = with_texts (with_text h v) values

unfoldable pub with_users : Built → List (List ℕ) → Built
with_users h [] = h
with_users h (v ∷ values) = with_users (with_user h v) values

unfoldable pub with_blobs : Built → List (List ℕ) → Built
with_blobs h [] = h
with_blobs h (v ∷ values) = with_blobs (with_blob h v) values

-- the heaps behind a chain's with what edits bring
unfoldable pub heaps_after_edit : Rows → Built → Edit → Built
heaps_after_edit rows h e = with_blobs (with_users (with_texts h (texts_of_edit rows e)) (users_of_edit e))
    (blobs_of_edit rows e)

unfoldable pub with_edits : Rows → Built → List Edit → Built
with_edits rows h [] = h
with_edits rows h (e ∷ edits) = with_edits rows (heaps_after_edit rows h e) edits

abbrev pub heaps_with : Chain → List Edit → List Edit → Built
heaps_with c all edits = with_edits (rows_listed c all) (none_from (joined_lengths c.heaps)) edits

-- `#Strings`, `#US` or `#Blob` passes its limit
unfoldable pub passes_limits : Built → Bool
passes_limits h =
    nat_lt (2 ^ 29) (joined_end text_bytes h.starts.strings h.texts)
    || nat_lt (2 ^ 24) (joined_end user_bytes h.starts.users h.users)
    || nat_lt (2 ^ 29) (joined_end blob_bytes h.starts.blobs h.blobs)

-- E5 of the list as a whole: a heap passes its limit before any edit, `#GUID` with the new EncId
unfoldable pub heaps_are_full : Chain → EditList → Bool
heaps_are_full c l = passes_limits (none_from (joined_lengths c.heaps))
    || nat_lt (2 ^ 29) (16 * ((joined_lengths c.heaps).guids + 1))

-- E5: a heap passes its limit with what the edits up to this one bring
unfoldable pub heap_passes : Chain → EditList → ℕ → Bool
heap_passes c l k = passes_limits (heaps_with c l.edits (take (k + 1) l.edits))

-- E6: an edit before it is about the same row
unfoldable pub row_is_edited_twice : Chain → EditList → ℕ → Bool
row_is_edited_twice c l k = at_edit (λ e t. list_any (λ u. is_token u t) (take k (rows_edited c.plain l.edits))) c l k

-- E10: the owner isn't a row of the table of owners
abbrev pub is_row_of : (ℕ → ℕ) → ℕ → Token → Bool
is_row_of count table t = t.table == table && nat_le 1 t.row && nat_le t.row (count table)

abbrev pub owner_breaks : (ℕ → ℕ) → Edit → Bool
owner_breaks count (Add table owner cells code points) =
    is_child_table table && not (is_row_of count (owner_table table) owner)
owner_breaks count (Replace method code points) = false

unfoldable pub owner_is_missing : Chain → EditList → ℕ → Bool
owner_is_missing c l k = at_edit (λ e t. owner_breaks (count_after c l.edits) e) c l k

-- E12: a table in which an edit may not add rows: one that a delta may not change, Module, EncLog or EncMap
abbrev pub table_breaks : Edit → Bool
table_breaks (Add table owner cells code points) =
    not (may_change table) || list_any (λ t. t == table) (tables.«module» ∷ tables.enc_log ∷ tables.enc_map ∷ [])
table_breaks (Replace method code points) = false

unfoldable pub table_is_closed : Chain → EditList → ℕ → Bool
table_is_closed c l k = at_edit (λ e t. table_breaks e) c l k

-- a token is nil, or a row of a table that the column can name
abbrev pub names_row : (ℕ → ℕ) → Column → Token → Bool
names_row count column t = t.row == 0 || can_name column t.table && nat_le t.row (count t.table)

abbrev pub value_breaks : (ℕ → ℕ) → Column → CellValue → Bool
value_breaks count column (cell.Refer t) = not (names_row count column t)
value_breaks count column _ = false

unfoldable pub cells_break : (ℕ → ℕ) → List Column → List CellValue → Bool
cells_break count (column ∷ columns) (v ∷ cells) = value_breaks count column v || cells_break count columns cells
cells_break count _ _ = false

-- E13: a cell names no row, or the method whose body is replaced is none
abbrev pub token_breaks : (ℕ → ℕ) → Edit → Bool
token_breaks count (Add table owner cells code points) = cells_break count (stated_columns table) cells
token_breaks count (Replace method code points) = not (is_row_of count tables.method_def method)

unfoldable pub token_is_missing : Chain → EditList → ℕ → Bool
token_is_missing c l k = at_edit (λ e t. token_breaks (count_after c l.edits) e) c l k

-- a body is good by the rows after, and its branches reach
unfoldable pub given_stands : (ℕ → ℕ) → BodyValue → Bool
given_stands count b = body_is_sound count (body_stated b) && branches_reach 0 b.code

abbrev pub body_is_missing_or_stands : (ℕ → ℕ) → Option BodyValue → Bool
body_is_missing_or_stands count None = true
body_is_missing_or_stands count (Some b) = given_stands count b

-- the bytes that a body takes in the delta's code, at most: its code, 64 for its header and 28 for each clause
abbrev pub room_of : Option BodyValue → ℕ
room_of None = 0
room_of (Some b) = length_of_code b.code + 64 + 28 * length b.clauses

abbrev pub room_of_edit : Edit → ℕ
room_of_edit e = room_of (body_given e)

abbrev pub gives_body : Edit → Bool
gives_body e = nat_lt 0 (room_of_edit e)

-- the row is a method of IL code, which the low two bits of ImplFlags tell (II.23.1.11)
abbrev pub is_il : Rows → Token → Bool
is_il rows t = t.table == tables.method_def && number_at rows t columns.method_def_impl_flags % 4 == 0

-- E16: a body of what isn't a method of IL code, a body that isn't good, or code that passes 2^32 bytes with it
unfoldable pub body_is_broken : Chain → EditList → ℕ → Bool
body_is_broken c l k = at_edit
    (λ e t. gives_body e
    && (not (is_il (rows_listed c l.edits) t)
    || not (body_is_missing_or_stands (count_after c l.edits) (body_given e))
    || nat_le (2 ^ 32) (sum_by room_of_edit (take (k + 1) l.edits))))
    c l k

-- what a rule says of the child that an edit adds, if it adds one
abbrev pub of_child : (Attached → Bool) → Edit → Token → Bool
of_child rule e t = list_any rule (attached_by e t)

-- E18, E19: a new field in a type that has no place for it, or a new method
unfoldable pub field_is_out_of_layout : Chain → EditList → ℕ → Bool
field_is_out_of_layout c l k = at_edit (of_child (is_out_of_layout c (rows_listed c l.edits))) c l k

unfoldable pub method_has_no_slot : Chain → EditList → ℕ → Bool
method_has_no_slot c l k = at_edit (of_child (has_no_slot c (rows_listed c l.edits))) c l k

-- E20: a new member with a sibling of equal name and, but for an event, alike signature, in the module after the
-- whole list
unfoldable pub member_has_twin : Chain → EditList → ℕ → Bool
member_has_twin c l k = at_edit
    (of_child (has_twin (asked_of (rows_listed c l.edits)) c.plain (attached_in c.plain l.edits))) c l k

-- E21: a new row's signature isn't one, by the rows after
abbrev pub signature_breaks : (ℕ → ℕ) → Rows → Token → Option ℕ → Bool
signature_breaks count rows t None = false
signature_breaks count rows t (Some i) = not (is_signature count t.table (bytes_at rows t i))

abbrev pub new_signature_breaks : (ℕ → ℕ) → Rows → Edit → Token → Bool
new_signature_breaks count rows (Add table owner cells code points) t =
    signature_breaks count rows t (signature_column table)
new_signature_breaks count rows (Replace method code points) t = false

unfoldable pub signature_is_bad : Chain → EditList → ℕ → Bool
signature_is_bad c l k = at_edit (new_signature_breaks (count_after c l.edits) (rows_listed c l.edits)) c l k

-- E23: a body's local signature isn't one of locals
abbrev pub locals_break : Rows → Option BodyValue → Bool
locals_break rows None = false
locals_break rows (Some b) = not (are_locals rows b.locals)

unfoldable pub locals_are_bad : Chain → EditList → ℕ → Bool
locals_are_bad c l k = at_edit (λ e t. locals_break (rows_listed c l.edits) (body_given e)) c l k

-- a point's document is one of so many, counted from 1
abbrev pub has_document : ℕ → Point → Bool
has_document documents p = nat_le 1 p.document && nat_le p.document documents

abbrev pub has_points : Edit → Bool
has_points e = nat_lt 0 (length (points_given e))

-- the bytes that the PDB takes at most: of an edit with points 64 and 32 for each of them, of a document 128 and its
-- name
abbrev pub room_of_points : Edit → ℕ
room_of_points e = if has_points e then 64 + 32 * length (points_given e) else 0

abbrev pub room_of_document : DocumentValue → ℕ
room_of_document d = 128 + length d.name

-- E22: points that can't be spelled (Portable PDB v1.0, Sequence Points Blob), a document that isn't there, or a PDB
-- of more than 2^29 bytes with these
unfoldable pub points_are_bad : Chain → EditList → ℕ → Bool
points_are_bad c l k = at_edit
    (λ e t. has_points e
    && (not (is_ok (blob_of 0 0 (points_given e)))
    || not (list_all (has_document (length l.documents)) (points_given e))
    || nat_lt (2 ^ 29) (0x10000 + sum_by room_of_points (take (k + 1) l.edits) + sum_by room_of_document l.documents)))
    c l k
