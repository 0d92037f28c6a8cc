-- How a method's sequence points are spelled, each number as short as it can be (Portable PDB v1.0, Sequence Points
-- Blob).
use Rattle.std.specs.Prelude.{ℕ, ◌+◌, ◌-◌, Bool, true, ◌&&◌, ◌||◌, List, [], ◌∷◌, ◌++◌, Option, Some, None, is_some, Result, Ok, Err, nat_lt, nat_le, ◌==◌, if◌then◌else◌}
use Rattle.enc_base.specs.Numbers.{spelled, spelled_signed}
use Rattle.enc_seqpoints.specs.declared.point.Point.{Point}
use Rattle.enc_seqpoints.specs.declared.base.Base.{Base}
use Rattle.enc_seqpoints.specs.declared.base.Record.TheVariants.{Sequence}
use Rattle.enc_seqpoints.specs.Grammar.{is_row, are_lines, after, opened}

-- a compressed number, and a signed one by its 32 bits (ECMA-335 II.23.2)
unfoldable pub spelled_number : ℕ → List ℕ
spelled_number n = spelled n

unfoldable pub spelled_difference : ℕ → List ℕ
spelled_difference bits = spelled_signed bits

-- the 32 bits of the difference that leads from one number to another
unfoldable pub between : ℕ → ℕ → ℕ
between from to = if nat_le from to then to - from else 0x100000000 - (from - to)

-- the document holds already, or a document record can say it: it is a row, and a point stands before
unfoldable pub document_holds : Base → ℕ → Bool
document_holds b document = document == b.document || is_some b.offset && is_row document

-- the offset is below 2^29 and past that of the point before
unfoldable pub is_later : Option ℕ → ℕ → Bool
is_later None offset = nat_lt offset 0x20000000
is_later (Some before) offset = nat_lt before offset && nat_lt offset 0x20000000

-- the end is behind the start: a point that ends where it starts would read as hidden
unfoldable pub ends_behind : ℕ × ℕ × ℕ × ℕ → Bool
ends_behind l = nat_lt l.0 l.2 || l.0 == l.2 && nat_lt l.1 l.3

-- the difference of a number from another is from -2^28 to 2^28 - 1, so that a signed number can say it
abbrev pub is_close : ℕ → ℕ → Bool
is_close from to = nat_le from (to + 0x10000000) && nat_lt to (from + 0x10000000)

-- signed numbers can say the start from the last one
unfoldable pub is_near : Option (ℕ × ℕ) → ℕ × ℕ × ℕ × ℕ → Bool
is_near None l = true
is_near (Some s) l = is_close s.0 l.0 && is_close s.1 l.1

-- the lines can be spelled; hidden ones always
unfoldable pub are_writable : Option (ℕ × ℕ) → Option (ℕ × ℕ × ℕ × ℕ) → Bool
are_writable start None = true
are_writable start (Some l) = are_lines l && (ends_behind l && is_near start l)

-- the point can be spelled behind what stands before it
unfoldable pub is_writable : Base → Point → Bool
is_writable b p = document_holds b p.document && (is_later b.offset p.offset && are_writable b.start p.lines)

-- a document record, where another document holds (document-record)
unfoldable pub document_bytes : Base → ℕ → List ℕ
document_bytes b document = if document == b.document then [] else spelled_number 0 ++ spelled_number document

-- the offset, by its difference from that of the point before (δILOffset)
unfoldable pub offset_bytes : Option ℕ → ℕ → List ℕ
offset_bytes None offset = spelled_number offset
offset_bytes (Some before) offset = spelled_number (offset - before)

-- the column difference: unsigned where start and end are on one line, and signed else (ΔColumns)
unfoldable pub columns_bytes : ℕ × ℕ × ℕ × ℕ → List ℕ
columns_bytes l = if l.0 == l.2 then spelled_number (l.3 - l.1) else spelled_difference (between l.1 l.3)

-- the start: as it is at first, and later as differences from the last one (δStartLine, δStartColumn)
unfoldable pub start_bytes : Option (ℕ × ℕ) → ℕ × ℕ × ℕ × ℕ → List ℕ
start_bytes None l = spelled_number l.0 ++ spelled_number l.1
start_bytes (Some s) l = spelled_difference (between s.0 l.0) ++ spelled_difference (between s.1 l.1)

-- line difference, column difference and start; of a hidden point both differences are 0 and nothing follows
unfoldable pub lines_bytes : Option (ℕ × ℕ) → Option (ℕ × ℕ × ℕ × ℕ) → List ℕ
lines_bytes start None = spelled_number 0 ++ spelled_number 0
lines_bytes start (Some l) = spelled_number (l.2 - l.0) ++ (columns_bytes l ++ start_bytes start l)

-- the records of a point
unfoldable pub point_bytes : Base → Point → List ℕ
point_bytes b p = document_bytes b p.document ++ (offset_bytes b.offset p.offset ++ lines_bytes b.start p.lines)

-- these bytes and so many points stand before
abbrev pub preceded : ℕ → List ℕ → Result (List ℕ) ℕ → Result (List ℕ) ℕ
preceded n front (Ok bytes) = Ok (front ++ bytes)
preceded n front (Err i) = Err (n + i)

-- the records of these points, or the index of the first that can't be spelled
unfoldable pub records_of : Base → List Point → Result (List ℕ) ℕ
records_of b [] = Ok []
records_of b (p ∷ points) = if is_writable b p
    then preceded 1 (point_bytes b p) (records_of (after b (Sequence p)) points) else Err 0

-- a nil Document leaves it to the blob to say the first point's document; where no point can need it, row 1 is said
abbrev pub said_first : List Point → ℕ
said_first [] = 1
said_first (p ∷ points) = if is_row p.document then p.document else 1

-- the document that holds at first: that of the Document column, and where this is nil the one that the blob says
-- (InitialDocument)
unfoldable pub first_document : ℕ → List Point → ℕ
first_document document points = if document == 0 then said_first points else document

-- the local signature row, and the document that holds at first where the Document column is nil (LocalSignature,
-- InitialDocument)
unfoldable pub header_bytes : ℕ → ℕ → ℕ → List ℕ
header_bytes locals document first = spelled_number locals ++ (if document == 0 then spelled_number first else [])

-- the blob of a method with this local signature row, this row in its Document column, 0 for nil, and these points
unfoldable pub blob_of : ℕ → ℕ → List Point → Result (List ℕ) ℕ
blob_of locals document points =
    preceded 0 (header_bytes locals document (first_document document points))
    (records_of (opened (first_document document points)) points)
