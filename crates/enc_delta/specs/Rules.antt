-- The rules of a delta's metadata after its chain, each a sentence on whole lists; the first broken one decides.
use Rattle.std.specs.Prelude.{ℕ, ◌+◌, ◌-◌, ◌*◌, ◌/◌, ◌^◌, Bool, true, false, not, ◌&&◌, ◌||◌, List, [], ◌∷◌, ◌++◌, length, map, filter, take, drop, find, count_by, Option, Some, None, option_map, option_and_then, unwrap_or, is_some, min, max, nat_lt, nat_le, ◌==◌, if◌then◌else◌, slice_get, slice_index, bytes_eq}
use Rattle.std.specs.List.{list_any}
use Rattle.enc_base.specs.Token.{token_of, number_of, nth_row, is_token}
use Rattle.enc_base.specs.Order.{or_else, first_below}
use Rattle.enc_base.specs.declared.token.Token.{Token}
use Rattle.enc_base.specs.declared.refusal.Place.{Place}
use Rattle.enc_base.specs.declared.refusal.Place.TheVariants as place
use Rattle.enc_base.specs.declared.refusal.StreamName.TheVariants as name
use Rattle.enc_meta.specs.Heaps.{Counted, nil_guid}
use Rattle.enc_meta.specs.Joined.{joined_text, joined_blob, joined_user, joined_guid, joined_length, guid_entries}
use Rattle.enc_schema.specs.declared.column.Column.{Column}
use Rattle.enc_schema.specs.declared.column.Column.TheVariants.{Index, Coded}
use Rattle.enc_schema.specs.Schema.{columns_in, column_in, is_offset}
use Rattle.enc_rows.specs.Layout.{rows_of}
use Rattle.enc_rows.specs.Source.{Source, raw_in}
use Rattle.enc_plain.specs.Chain.{Chain, id_of, rows_before, mvid_of}
use Rattle.enc_plain.specs.Reading.{Reading, cell_read}
use Rattle.enc_plain.specs.Cell.{Cell, body}
use Rattle.enc_plain.specs.Module.{cell_of}
use Rattle.enc_plain.specs.Bodies.{body_loaded, body_is_good}
use Rattle.enc_delta.specs.declared.log_entry.LogEntry.{LogEntry}
use Rattle.enc_delta.specs.Delta.{listed, is_module, of_table}
use Rattle.enc_base.specs.Tables as tables
use Rattle.enc_schema.specs.Columns as columns

abbrev pub module_token : Token
module_token = record { table = 0; row = 1 }

-- the heaps of all generations with the delta's behind them
abbrev pub heaps_after : Chain → Source → List Counted
heaps_after c s = c.heaps ++ s.heaps ∷ []

-- a GUID of the delta's Module row; one that can't be read is nil
unfoldable pub own_guid : Chain → Source → ℕ → List ℕ
own_guid c s i = unwrap_or (joined_guid (heaps_after c s) (raw_in s module_token i)) nil_guid

abbrev pub broken : Bool → Place → Option Place
broken true p = Some p
broken false p = None

-- E1 to E4: the base's Mvid, the next generation, the last EncId as EncBaseId, and an EncId that isn't nil and
-- wasn't used
unfoldable pub other_module : Chain → Source → Option Place
other_module c s = broken (not (bytes_eq (own_guid c s columns.module_mvid) (mvid_of c))) (place.Row module_token)

unfoldable pub not_next : Chain → Source → Option Place
not_next c s = broken (not (raw_in s module_token columns.module_generation == length c.ids + 1))
    (place.Row module_token)

unfoldable pub other_base : Chain → Source → Option Place
other_base c s = broken (not (bytes_eq (own_guid c s columns.module_enc_base_id) (id_of c (length c.ids))))
    (place.Row module_token)

unfoldable pub id_taken : Chain → Source → Option Place
id_taken c s =
    broken (bytes_eq (own_guid c s columns.module_enc_id) nil_guid
    || list_any (λ id. bytes_eq id (own_guid c s columns.module_enc_id)) c.ids)
    (place.Row module_token)

-- the last byte, 0 where there is none
abbrev pub last_byte : List ℕ → ℕ
last_byte heap = slice_index heap (length heap - 1)

-- E5: a joined heap passes its limit; `#Strings` has a last byte other than 0; `#GUID` has fewer entries than before
unfoldable pub strings_break : Chain → Source → Bool
strings_break c s = nat_lt (2 ^ 29) (joined_length (map (λ (h : Counted). h.strings) (heaps_after c s)))
    || not (last_byte s.heaps.strings == 0)

unfoldable pub users_break : Chain → Source → Bool
users_break c s = nat_lt (2 ^ 24) (joined_length (map (λ (h : Counted). h.users) (heaps_after c s)))

unfoldable pub blobs_break : Chain → Source → Bool
blobs_break c s = nat_lt (2 ^ 29) (joined_length (map (λ (h : Counted). h.blobs) (heaps_after c s)))

unfoldable pub guids_break : Chain → Source → Bool
guids_break c s = nat_lt (2 ^ 29) (16 * guid_entries (heaps_after c s))
    || nat_lt (length s.heaps.guids / 16) (guid_entries c.heaps)

unfoldable pub heap_fault : Chain → Source → Option Place
heap_fault c s =
    or_else (broken (strings_break c s) (place.Stream name.Strings))
    (or_else (broken (users_break c s) (place.Stream name.Users))
    (or_else (broken (blobs_break c s) (place.Stream name.Blobs)) (broken (guids_break c s) (place.Stream name.Guids))))

-- the least of some numbers
abbrev pub lesser : ℕ → Option ℕ → Option ℕ
lesser n None = Some n
lesser n (Some m) = Some (min n m)

abbrev pub least : List ℕ → Option ℕ
least [] = None
least (n ∷ ns) = lesser n (least ns)

abbrev pub at_token : Option ℕ → Option Place
at_token o = option_map (λ n. place.Row (token_of n)) o

-- the numbers that have one before them that isn't less, some of them twice
abbrev pub late : List ℕ → List ℕ
late [] = []
late (n ∷ ns) = filter (λ m. nat_le m n) ns ++ late ns

-- E6: EncMap doesn't rise strictly
unfoldable pub late_fault : List Token → Option Place
late_fault tokens = at_token (least (late (map number_of tokens)))

-- EncLog, EncMap and Module have no rows that tokens stand for
abbrev pub rows_for : Source → ℕ → ℕ
rows_for s table = if list_any (λ t. t == table) (tables.«module» ∷ tables.enc_log ∷ tables.enc_map ∷ []) then 0
    else rows_of s.layout table

-- E7: a table's rows and its tokens differ in number
unfoldable pub uneven_at : Source → ℕ → Option Place
uneven_at s table = broken (not (rows_for s table == length (of_table table (listed s))))
    (place.Row (record { table = table; row = 0 }))

unfoldable pub uneven_table : Source → Option Place
uneven_table s = first_below (uneven_at s) 0x100

-- a token past the rows before is an insert, and so is row 0
unfoldable pub is_insert : Chain → Token → Bool
is_insert c t = t.row == 0 || nat_lt (rows_before c t.table) t.row

-- how many of the tokens are inserts into a table
unfoldable pub inserts : Chain → List Token → ℕ → ℕ
inserts c tokens table = count_by (λ (t : Token). t.table == table && is_insert c t) tokens

-- E8: an insert isn't the next row
unfoldable pub insert_fault_of : Chain → List Token → Token → Option Place
insert_fault_of c before t = broken (is_insert c t
    && not (t.row == rows_before c t.table + inserts c before t.table + 1)) (place.Row t)

unfoldable pub insert_fault_at : Chain → List Token → ℕ → Option Place
insert_fault_at c tokens k = option_and_then (insert_fault_of c (take k tokens)) (slice_get tokens k)

unfoldable pub insert_fault : Chain → List Token → Option Place
insert_fault c tokens = first_below (insert_fault_at c tokens) (length tokens)

-- the numbers that stand in one of two lists alone
abbrev pub stands_in : List ℕ → ℕ → Bool
stands_in ns n = list_any (λ m. m == n) ns

abbrev pub in_one : List ℕ → List ℕ → ℕ → Bool
in_one ns ms n = not (stands_in ns n && stands_in ms n)

-- the entries of a log that count: all but the Module's
abbrev pub counts : LogEntry → Bool
counts e = not (is_module e.token)

unfoldable pub counted : List LogEntry → List LogEntry
counted log = filter counts log

-- the tokens of the entries with code 0
unfoldable pub changed : List LogEntry → List Token
changed log = map (λ (e : LogEntry). e.token) (filter (λ (e : LogEntry). counts e && e.operation == 0) log)

-- E9: the sets of EncMap tokens and of tokens with code 0 differ
unfoldable pub set_fault : List ℕ → List ℕ → Option Place
set_fault ns ms = at_token (least (filter (in_one ns ms) (ns ++ ms)))

-- how many rows a table has after these tokens
unfoldable pub rows_with : Chain → List Token → ℕ → ℕ
rows_with c tokens table = rows_before c table + inserts c tokens table

-- the tables of parent and child of an Add entry: methods, fields, parameters, properties, events
abbrev pub parent_table : ℕ → ℕ
parent_table code = slice_index
    (0 ∷ tables.type_def ∷ tables.type_def ∷ tables.method_def ∷ tables.property_map ∷ tables.event_map ∷ []) code

abbrev pub child_table : ℕ → ℕ
child_table code = slice_index
    (0 ∷ tables.method_def ∷ tables.field ∷ tables.param ∷ tables.property ∷ tables.event ∷ []) code

abbrev pub is_add : ℕ → Bool
is_add code = nat_le 1 code && nat_le code 5

-- the parent is a row after the delta
unfoldable pub has_parent : Chain → List Token → LogEntry → Bool
has_parent c tokens e = e.token.table == parent_table e.operation && nat_le 1 e.token.row
    && nat_le e.token.row (rows_with c tokens e.token.table)

-- how many of the entries are Add entries with this code
abbrev pub adds : List LogEntry → ℕ → ℕ
adds log code = count_by (λ (e : LogEntry). counts e && e.operation == code) log

-- the entry that follows is code 0 with the next new row of the child's table
unfoldable pub follows : Chain → List LogEntry → ℕ → Option LogEntry → Bool
follows c before code None = false
follows c before code (Some e) = e.operation == 0 && e.token.table == child_table code
    && e.token.row == rows_before c (child_table code) + adds before code + 1

-- E10: a code past 5, or an Add entry without its parent or its child
unfoldable pub log_fault_of : Chain → List Token → List LogEntry → List LogEntry → ℕ → LogEntry → Option Place
log_fault_of c tokens before behind k e =
    broken (counts e && (nat_lt 5 e.operation || is_add e.operation
    && not (has_parent c tokens e && follows c before e.operation (find counts behind))))
    (place.Log (k + 1))

unfoldable pub log_fault_at : Chain → List Token → List LogEntry → ℕ → Option Place
log_fault_at c tokens log k = option_and_then (log_fault_of c tokens (take k log) (drop (k + 1) log) k)
    (slice_get log k)

unfoldable pub log_fault : Chain → List Token → List LogEntry → Option Place
log_fault c tokens log = first_below (log_fault_at c tokens log) (length log)

-- the children of the Add entries, each the token of the entry behind
abbrev pub children : List LogEntry → List Token
children [] = []
children (e ∷ []) = []
children (e ∷ f ∷ es) = if is_add e.operation then f.token ∷ children (f ∷ es) else children (f ∷ es)

-- the r-th new row of a table, r from 0
abbrev pub new_row : Chain → ℕ → ℕ → Token
new_row c table r = record { table = table; row = rows_before c table + r + 1 }

-- E11: a new row of a table of children hasn't exactly one Add entry
unfoldable pub child_fault_at : Chain → List LogEntry → ℕ → ℕ → Option Place
child_fault_at c log table r =
    broken (not (count_by (is_token (new_row c table r)) (children (counted log)) == 1)) (place.Row (new_row c table r))

unfoldable pub child_fault_in : Chain → List Token → List LogEntry → ℕ → Option Place
child_fault_in c tokens log table = first_below (child_fault_at c log table) (inserts c tokens table)

unfoldable pub child_fault : Chain → List Token → List LogEntry → Option Place
child_fault c tokens log =
    or_else (child_fault_in c tokens log tables.field)
    (or_else (child_fault_in c tokens log tables.method_def)
    (or_else (child_fault_in c tokens log tables.param)
    (or_else (child_fault_in c tokens log tables.event) (child_fault_in c tokens log tables.property))))

-- the tables that a delta may have
abbrev pub may_change : ℕ → Bool
may_change table =
    list_any (λ t. t == table)
    (tables.«module» ∷ tables.type_ref ∷ tables.type_def ∷ tables.field ∷ tables.method_def ∷ tables.param
    ∷ tables.interface_impl
    ∷ tables.member_ref ∷ tables.constant ∷ tables.custom_attribute ∷ tables.field_marshal ∷ tables.decl_security
    ∷ tables.class_layout
    ∷ tables.field_layout ∷ tables.stand_alone_sig ∷ tables.event_map ∷ tables.event ∷ tables.property_map
    ∷ tables.property
    ∷ tables.method_semantics ∷ tables.method_impl ∷ tables.module_ref ∷ tables.type_spec ∷ tables.impl_map
    ∷ tables.enc_log ∷ tables.enc_map
    ∷ tables.assembly_ref ∷ tables.nested_class ∷ tables.generic_param ∷ tables.method_spec
    ∷ tables.generic_param_constraint ∷ [])

-- E12: rows in another table
unfoldable pub closed_at : Source → ℕ → Option Place
closed_at s table = broken (nat_lt 0 (rows_of s.layout table) && not (may_change table))
    (place.Row (record { table = table; row = 0 }))

unfoldable pub closed_table : Source → Option Place
closed_table s = first_below (closed_at s) 0x100

-- the user texts of all generations with the delta's behind them
abbrev pub users_after : Chain → Source → ℕ → Option (List ℕ)
users_after c s = joined_user (heaps_after c s)

-- by what the numbers of the delta's rows are read: the joined heaps, the rows after, and the delta's code. A delta
-- has no rows of FieldRVA
unfoldable pub reading_after : Chain → Source → Reading
reading_after c s = record {
  text = joined_text (heaps_after c s);
  blob = joined_blob (heaps_after c s);
  guid = joined_guid (heaps_after c s);
  count = rows_with c (listed s);
  code = body_loaded s.loaded (users_after c s);
  field = λ row. [];
}

abbrev pub is_index : Column → Bool
is_index (Index table) = true
is_index (Coded kind) = true
is_index _ = false

-- a cell of these columns isn't good; its place is told by the token that its row stands for
abbrev pub cell_breaks : Chain → Source → (Column → Bool) → Token → ℕ → Column → Bool
cell_breaks c s asks row i column = asks column && not (is_some (cell_read (reading_after c s) column (raw_in s row i)))

unfoldable pub cell_fault : Chain → Source → (Column → Bool) → Token → Token → ℕ → Option Place
cell_fault c s asks token row i = option_and_then
    (λ (column : Column). broken (cell_breaks c s asks row i column) (place.Cell token i)) (column_in row.table i)

unfoldable pub row_fault : Chain → Source → (Column → Bool) → ℕ → ℕ → Option Place
row_fault c s asks table r =
    option_and_then (λ token. first_below (cell_fault c s asks token (nth_row table r)) (length (columns_in table)))
    (slice_get (of_table table (listed s)) r)

unfoldable pub table_fault : Chain → Source → (Column → Bool) → ℕ → Option Place
table_fault c s asks table = first_below (row_fault c s asks table) (rows_of s.layout table)

-- E13: an index past its table after, or a tag of no table; E14: an offset that isn't good in the joined heap
unfoldable pub bad_index : Chain → Source → Option Place
bad_index c s = first_below (table_fault c s is_index) tables.table_count

unfoldable pub bad_offset : Chain → Source → Option Place
bad_offset c s = first_below (table_fault c s is_offset) tables.table_count

-- E24: more than 65,535 deltas, or more than 2^24 - 1 rows in a table after. No file reaches it: E2 and E8 come first
unfoldable pub too_many_in : Chain → Source → ℕ → Option Place
too_many_in c s table = broken (nat_lt 0xFFFFFF (rows_with c (listed s) table)) (place.Row module_token)

unfoldable pub too_many : Chain → Source → Option Place
too_many c s = or_else (broken (nat_lt 65535 (length c.ids + 1)) (place.Row module_token))
    (first_below (too_many_in c s) tables.table_count)

-- the method of a row has no place for a body, or a good one in the delta's code
unfoldable pub body_stands : Chain → Source → ℕ → Bool
body_stands c s r =
    body_is_good (rows_with c (listed s)) (users_after c s) s.loaded
    (raw_in s (nth_row tables.method_def r) columns.method_def_rva)
    (raw_in s (nth_row tables.method_def r) columns.method_def_impl_flags)

-- E16: a body isn't good
unfoldable pub broken_body_at : Chain → Source → ℕ → Option Place
broken_body_at c s r = option_and_then (λ (t : Token). broken (not (body_stands c s r)) (place.Row t))
    (slice_get (of_table tables.method_def (listed s)) r)

unfoldable pub broken_body : Chain → Source → Option Place
broken_body c s = first_below (broken_body_at c s) (rows_of s.layout tables.method_def)

-- the cell is a body that is there
abbrev pub has_body : Option Cell → Bool
has_body (Some (body (Some b))) = true
has_body _ = false

-- E17: no place for a body where the method had one
unfoldable pub lost_body_at : Chain → Source → ℕ → Option Place
lost_body_at c s r =
    option_and_then (λ (t : Token).
    broken (raw_in s (nth_row tables.method_def r) columns.method_def_rva == 0
    && has_body (cell_of c.plain t columns.method_def_rva)) (place.Row t))
    (slice_get (of_table tables.method_def (listed s)) r)

unfoldable pub lost_body : Chain → Source → Option Place
lost_body c s = first_below (lost_body_at c s) (rows_of s.layout tables.method_def)
