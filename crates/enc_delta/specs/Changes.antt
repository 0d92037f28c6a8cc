-- What a delta may do to rows that are there, to the owners of its new rows, and with signatures.
use Rattle.std.specs.Prelude.{ℕ, ◌/◌, ◌%◌, Bool, true, not, ◌&&◌, ◌||◌, ◌==◌, length, map, filter, Option, Some, None, option_and_then, unwrap_or, if◌then◌else◌, slice_get, bytes_eq}
use Rattle.enc_base.specs.Order.{first_below}
use Rattle.enc_base.specs.Token.{number_of}
use Rattle.enc_base.specs.declared.token.Token.{Token}
use Rattle.enc_base.specs.declared.refusal.Place.{Place}
use Rattle.enc_base.specs.declared.refusal.Place.TheVariants as place
use Rattle.enc_schema.specs.Schema.{columns_in}
use Rattle.enc_base.specs.Numbers.{has_flag}
use Rattle.enc_opcodes.specs.Body.{Code, begins_locals}
use Rattle.enc_rows.specs.Source.{Source, raw_in}
use Rattle.enc_plain.specs.Cell.{Kind, numbers, texts, blobs, references, kind_in}
use Rattle.enc_plain.specs.Rows.{Rows, number_at, bytes_at, token_at}
use Rattle.enc_plain.specs.Signatures.{signature_column, is_signature}
use Rattle.enc_plain.specs.Alike.{tokens_alike, signatures_alike}
use Rattle.enc_plain.specs.Apply.{Attached}
use Rattle.enc_plain.specs.ValueType.{is_value_type}
use Rattle.enc_plain.specs.Bodies.{code_loaded}
use Rattle.enc_plain.specs.Chain.{Chain}
use Rattle.enc_delta.specs.Delta.{listed}
use Rattle.enc_delta.specs.Rules.{broken, at_token, least, is_insert, rows_with}
use Rattle.enc_delta.specs.Pairs.{attached_of}
use Rattle.enc_delta.specs.Rows.{own_row, rows_of_chain, rows_after}
use Rattle.enc_delta.specs.Twins.{Asked, twin_fault}
use Rattle.enc_base.specs.Tables as tables
use Rattle.enc_schema.specs.Columns as columns

-- the columns in which an update may say something else: the flags and the name of a parameter (II.22.33), and those
-- of a custom attribute (II.22.10)
abbrev pub may_differ : ℕ → ℕ → Bool
may_differ table i = table == tables.param && (i == columns.param_flags || i == columns.param_name)
    || table == tables.custom_attribute

-- the column holds the signature of its table
abbrev pub is_signature_column : ℕ → ℕ → Bool
is_signature_column table i = unwrap_or (signature_column table) 0xFF == i

-- a cell says what it said: numbers, texts and blobs are equal, tokens and signatures alike. A body may change
-- (II.22.26); no update has a GUID or the bytes
-- of a field
abbrev pub cell_is_kept : Rows → Rows → Token → ℕ → Option Kind → Bool
cell_is_kept old new t i (Some numbers) = number_at old t i == number_at new t i
cell_is_kept old new t i (Some texts) = bytes_eq (bytes_at old t i) (bytes_at new t i)
cell_is_kept old new t i (Some blobs) =
    if is_signature_column t.table i then signatures_alike new t.table (bytes_at old t i) (bytes_at new t i)
    else bytes_eq (bytes_at old t i) (bytes_at new t i)
cell_is_kept old new t i (Some references) = tokens_alike new (token_at old t i) (token_at new t i)
cell_is_kept old new t i _ = true

-- E15: an updated row says something else in a column that may not differ
unfoldable pub altered_at : Chain → Source → Token → ℕ → Option Place
altered_at c s t i = broken (not (may_differ t.table i)
    && not (cell_is_kept (rows_of_chain c) (rows_after c s) t i (kind_in t.table i))) (place.Cell t i)

unfoldable pub altered_in : Chain → Source → Token → Option Place
altered_in c s t = if is_insert c t then None else first_below (altered_at c s t) (length (columns_in t.table))

-- what a rule on rows says of the k-th token of EncMap
abbrev pub of_nth : (Token → Option Place) → Source → ℕ → Option Place
of_nth rule s k = option_and_then rule (slice_get (listed s) k)

unfoldable pub altered_cell : Chain → Source → Option Place
altered_cell c s = first_below (of_nth (altered_in c s) s) (length (listed s))

-- the least child of the Add entries of which a rule says so
abbrev pub least_child : (Attached → Bool) → Source → Option Place
least_child breaks s = at_token (least (map (λ (a : Attached). number_of a.child) (filter breaks (attached_of s))))

-- the type says how its fields are laid out, by either bit of 18 (II.23.1.15)
abbrev pub has_layout : Rows → Token → Bool
has_layout rows t = not (number_at rows t columns.type_def_flags / 8 % 4 == 0)

-- a field that isn't static (flag 10, II.23.1.5) comes to a type that was there and has a layout or is a value type,
-- by these rows
unfoldable pub is_out_of_layout : Chain → Rows → Attached → Bool
is_out_of_layout c rows a =
    a.child.table == tables.field && a.owner.table == tables.type_def && not (is_insert c a.owner)
    && not (has_flag 0x10 (number_at rows a.child columns.field_flags))
    && (has_layout rows a.owner || is_value_type rows a.owner)

-- E18: a new field that isn't static, in a type that was there and has a layout or is a value type
abbrev pub breaks_layout : Chain → Source → Attached → Bool
breaks_layout c s a = is_out_of_layout c (rows_after c s) a

unfoldable pub field_out_of_layout : Chain → Source → Option Place
field_out_of_layout c s = least_child (breaks_layout c s) s

-- a virtual method (flag 40, II.23.1.10) comes to an interface (flag 20, II.23.1.15) that was there, or one that is
-- abstract too (flag 400) to any type that
-- was there
unfoldable pub has_no_slot : Chain → Rows → Attached → Bool
has_no_slot c rows a =
    a.child.table == tables.method_def && a.owner.table == tables.type_def && not (is_insert c a.owner)
    && has_flag 0x40 (number_at rows a.child columns.method_def_flags)
    && (has_flag 0x20 (number_at rows a.owner columns.type_def_flags)
    || has_flag 0x400 (number_at rows a.child columns.method_def_flags))

-- E19: a new virtual method in an interface that was there, or one that is abstract too in any type that was there
abbrev pub breaks_slots : Chain → Source → Attached → Bool
breaks_slots c s a = has_no_slot c (rows_after c s) a

unfoldable pub method_without_slot : Chain → Source → Option Place
method_without_slot c s = least_child (breaks_slots c s) s

-- the column of a member's name
abbrev pub name_column : ℕ → ℕ
name_column table = if table == tables.method_def then columns.method_def_name else columns.field_name

-- fields and methods of which the low three bits of the flags are 0 are known to the compiler alone (II.23.1.5,
-- II.23.1.10) and don't count; properties and
-- events do
unfoldable pub is_member : Rows → Token → Bool
is_member rows t =
    t.table == tables.field && not (number_at rows t columns.field_flags % 8 == 0)
    || t.table == tables.method_def && not (number_at rows t columns.method_def_flags % 8 == 0)
    || t.table == tables.event
    || t.table == tables.property

-- an event is told by its name alone
unfoldable pub same_signature : Rows → Token → Token → Bool
same_signature rows t u =
    t.table == tables.event
    || signatures_alike rows t.table (bytes_at rows t (unwrap_or (signature_column t.table) 0))
    (bytes_at rows u (unwrap_or (signature_column t.table) 0))

abbrev pub asked_of : Rows → Asked
asked_of rows = record {
  counts = is_member rows;
  name = λ t. bytes_at rows t (name_column t.table);
  alike = same_signature rows;
}

-- E20: a new field, method, property or event with a sibling of equal name and, but for an event, alike signature
unfoldable pub twin_member : Chain → Source → Option Place
twin_member c s = twin_fault (asked_of (rows_after c s)) c.plain (attached_of s)

-- E21: a signature isn't one, by the rows after
unfoldable pub bad_signature_at : Chain → Source → Token → ℕ → Option Place
bad_signature_at c s t i = broken (not (is_signature (rows_with c (listed s)) t.table (bytes_at (rows_after c s) t i)))
    (place.Cell t i)

unfoldable pub bad_signature_in : Chain → Source → Token → Option Place
bad_signature_in c s t = option_and_then (bad_signature_at c s t) (signature_column t.table)

unfoldable pub bad_signature : Chain → Source → Option Place
bad_signature c s = first_below (of_nth (bad_signature_in c s) s) (length (listed s))

-- the parts of the body that the delta's row gives a method
abbrev pub own_code : Source → Token → Option Code
own_code s t = code_loaded s.loaded (raw_in s (own_row s t) 0)

-- a local signature is nil, or one of StandAloneSig that begins as one of locals (II.23.2.6)
abbrev pub are_locals : Rows → Token → Bool
are_locals rows t = t.row == 0 || t.table == tables.stand_alone_sig
    && begins_locals (bytes_at rows t columns.stand_alone_sig_signature)

-- the local signature of a body, if there is one
abbrev pub locals_begin : Rows → Option Code → Bool
locals_begin rows None = true
locals_begin rows (Some c) = are_locals rows c.locals

-- E23: a method's local signature that isn't one of locals
unfoldable pub bad_locals_in : Chain → Source → Token → Option Place
bad_locals_in c s t = broken (t.table == tables.method_def && not (locals_begin (rows_after c s) (own_code s t)))
    (place.Row t)

unfoldable pub bad_locals : Chain → Source → Option Place
bad_locals c s = first_below (of_nth (bad_locals_in c s) s) (length (listed s))
