-- The grammar of a sequence points blob (Portable PDB v1.0, Sequence Points Blob).
use Rattle.std.specs.Prelude.{◌≡◌, ◌<◌, slice_get, ℕ, zero, suc, ◌+◌, ◌-◌, Bool, not, ◌&&◌, List, [], ◌∷◌, length, Option, Some, None, option_map, option_and_then, is_some, nat_lt, ◌==◌, if◌then◌else◌}
use Rattle.enc_base.specs.Readers.{Reader, giving, both, number_in, signed_in}
use Rattle.enc_seqpoints.specs.declared.point.Point.{Point}
use Rattle.enc_seqpoints.specs.declared.base.Base.{Base}
use Rattle.enc_seqpoints.specs.declared.base.Record.{Record}
use Rattle.enc_seqpoints.specs.declared.base.Record.TheVariants.{Document, Sequence}

-- one thing, and behind it what depends on it
abbrev pub continued : {A B : Type 0} → Reader A → (A → Reader B) → Reader B
continued {A} r s bytes = option_and_then (λ (p : A × List ℕ). s p.0 p.1) (r bytes)

-- what is read leads to another thing, where it leads to any
abbrev pub leading : {A B : Type 0} → (A → Option B) → Reader A → Reader B
leading {A} {B} f r bytes = option_and_then (λ (p : A × List ℕ). option_map (λ (y : B). (y, p.1)) (f p.0)) (r bytes)

-- a number below 2^29, as offsets and lines are
unfoldable pub below_limit : ℕ → Option ℕ
below_limit n = if nat_lt n 0x20000000 then Some n else None

-- the number to which a difference of these 32 bits leads from another; none below 0 or from 2^29 on
unfoldable pub moved : ℕ → ℕ → Option ℕ
moved from bits =
    if nat_lt bits 0x80000000 then below_limit (from + bits)
    else if nat_lt (from + bits) 0x100000000 then None
    else below_limit (from + bits - 0x100000000)

-- a document row: rows count from 1
abbrev pub is_row : ℕ → Bool
is_row n = nat_lt 0 n && nat_lt n 0x20000000

unfoldable pub document_row_in : Reader ℕ
document_row_in = leading (λ n. if is_row n then Some n else None) number_in

-- the column difference of a point: unsigned where its line difference is 0, and signed else (Sequence Points Blob,
-- ΔColumns)
unfoldable pub column_difference_in : ℕ → Reader ℕ
column_difference_in lines = if lines == 0 then number_in else signed_in

-- a line or column at a difference from that of the last point that isn't hidden
unfoldable pub moved_in : ℕ → Reader ℕ
moved_in from = leading (moved from) signed_in

-- the start line and column: as they are at the first point that isn't hidden, and later as differences (δStartLine,
-- δStartColumn)
unfoldable pub start_in : Option (ℕ × ℕ) → Reader (ℕ × ℕ)
start_in None = both number_in number_in
start_in (Some s) = both (moved_in s.0) (moved_in s.1)

-- a line is below 2^29 and not 0xFEEFEE, a column below 2^16
abbrev pub is_line : ℕ → Bool
is_line n = nat_lt n 0x20000000 && not (n == 0xFEEFEE)

abbrev pub is_column : ℕ → Bool
is_column n = nat_lt n 0x10000

-- start line, start column, end line and end column are such
unfoldable pub are_lines : ℕ × ℕ × ℕ × ℕ → Bool
are_lines l = is_line l.0 && (is_column l.1 && (is_line l.2 && is_column l.3))

abbrev pub if_lines : ℕ × ℕ × ℕ × ℕ → Option (ℕ × ℕ × ℕ × ℕ)
if_lines l = if are_lines l then Some l else None

-- the lines of a point with this line and column difference from its start to its end
unfoldable pub spanned : ℕ → ℕ → ℕ × ℕ → Option (ℕ × ℕ × ℕ × ℕ)
spanned lines columns s =
    option_and_then (λ line. option_and_then (λ column. if_lines (s.0, s.1, line, column)) (moved s.1 columns))
    (below_limit (s.0 + lines))

-- what stands behind the differences: nothing where both are 0 and the point is hidden, else its start
unfoldable pub seen_in : Option (ℕ × ℕ) → ℕ → ℕ → Reader (Option (ℕ × ℕ × ℕ × ℕ))
seen_in start lines columns bytes =
    if lines == 0 && columns == 0 then Some (None, bytes)
    else giving Some (leading (spanned lines columns) (start_in start)) bytes

-- the lines of a point, none of a hidden one
unfoldable pub lines_in : Option (ℕ × ℕ) → Reader (Option (ℕ × ℕ × ℕ × ℕ))
lines_in start = continued number_in (λ lines. continued (column_difference_in lines) (seen_in start lines))

-- the offset to which a difference leads: the first is the offset itself, later ones count from the point before
-- (δILOffset)
abbrev pub offset_from : Option ℕ → ℕ → ℕ
offset_from None difference = difference
offset_from (Some before) difference = before + difference

-- a point at this offset (sequence-point-record, hidden-sequence-point-record)
unfoldable pub point_in : Base → ℕ → Reader Record
point_in b offset bytes =
    if nat_lt offset 0x20000000
    then giving (λ lines. Sequence (record { offset = offset; document = b.document; lines = lines }))
    (lines_in b.start) bytes
    else None

-- what an offset difference begins: where it is 0 and a point stands before it, a document record, else a point
unfoldable pub begun_in : Base → ℕ → Reader Record
begun_in b difference bytes =
    if is_some b.offset && difference == 0 then giving Document document_row_in bytes
    else point_in b (offset_from b.offset difference) bytes

-- a record
unfoldable pub record_in : Base → Reader Record
record_in b = continued number_in (begun_in b)

-- the start of the last point that isn't hidden
abbrev pub start_after : Option (ℕ × ℕ) → Option (ℕ × ℕ × ℕ × ℕ) → Option (ℕ × ℕ)
start_after start None = start
start_after start (Some l) = Some (l.0, l.1)

-- what the records behind this one count from; a document holds for all points behind it
unfoldable pub after : Base → Record → Base
after b (Document row) = record { offset = b.offset; document = row; start = b.start }
after b (Sequence p) = record { offset = Some p.offset; document = p.document; start = start_after b.start p.lines }

-- the points of a record and of those behind it
abbrev pub with_record : Record → List Point → List Point
with_record (Document row) points = points
with_record (Sequence p) points = p ∷ points

-- the points of the records to the end of the bytes, of which there are no more than bytes
unfoldable pub records_in : ℕ → Base → List ℕ → Option (List Point)
records_in n b [] = Some []
records_in zero b (x ∷ rest) = None
records_in (suc n) b (x ∷ rest) =
    option_and_then (λ (r : Record × List ℕ). option_map (with_record r.0) (records_in n (after b r.0) r.1))
    (record_in b (x ∷ rest))

-- what the first record counts from
abbrev pub opened : ℕ → Base
opened document = record { offset = None; document = document; start = None }

-- the document of the first point: that of the method's Document column, and where this is nil the one that stands
-- here (InitialDocument)
unfoldable pub document_in : ℕ → Reader ℕ
document_in document bytes = if document == 0 then document_row_in bytes else Some (document, bytes)

-- the local signature row, and the document of the first point (LocalSignature, InitialDocument)
unfoldable pub header_in : ℕ → Reader (ℕ × ℕ)
header_in document = both number_in (document_in document)

-- the offsets of points rise: each is past all before it
abbrev pub AreRising : List Point → Type 0
AreRising points = (i j : ℕ) (p q : Point) → i < j → slice_get points i ≡ Some p → slice_get points j ≡ Some q
    → p.offset < q.offset

-- the local signature row of a method and its sequence points
pub record MethodPoints : Type 0 where
  pub locals : ℕ
  pub points : List Point

abbrev pub method_points : ℕ → List Point → MethodPoints
method_points locals points = record { locals = locals; points = points }

-- what a blob with a header says
unfoldable pub body_in : ℕ → List ℕ → Option MethodPoints
body_in document bytes =
    option_and_then (λ (h : (ℕ × ℕ) × List ℕ). option_map (method_points h.0.0)
    (records_in (length h.1) (opened h.0.1) h.1))
    (header_in document bytes)

-- what a blob says of a method with this row in its Document column, 0 for nil; an empty one has no local variables
-- and no points
unfoldable pub points_in : ℕ → List ℕ → Option MethodPoints
points_in document [] = Some (method_points 0 [])
points_in document (b ∷ rest) = body_in document (b ∷ rest)
