-- The printed sequence points of a method.
use Rattle.std.specs.Prelude.{ℕ, List, [], ◌∷◌, ◌++◌, flat_map, Option, Some, None, decimal, codes}
use Rattle.enc_plain.specs.Debug.{Document, PlainPoint, MethodDebug}
use Rattle.enc_text.specs.Text.{quoted}
use Rattle.enc_text.specs.BodyText.{label}

-- the bytes of a document's name, none where there is no document
abbrev pub printed_name : Option Document → List ℕ
printed_name None = []
printed_name (Some d) = d.name

-- a line and a column with a colon between them
unfoldable pub position_text : ℕ → ℕ → List ℕ
position_text line column = decimal line ++ 0x3a ∷ decimal column

-- from the first character to one past the last
unfoldable pub extent_text : ℕ × ℕ × ℕ × ℕ → List ℕ
extent_text l = position_text l.0 l.1 ++ 0x2d ∷ position_text l.2 l.3

-- a space, and that the point is hidden or its document and lines
abbrev pub lines_text : Option Document → Option (ℕ × ℕ × ℕ × ℕ) → List ℕ
lines_text document None = codes " hidden"
lines_text document (Some l) = 0x20 ∷ quoted (printed_name document) ++ 0x20 ∷ extent_text l

-- the line of a point: its offset, and that it is hidden or its document and lines
unfoldable pub point_text : PlainPoint → List ℕ
point_text p = codes "  point " ++ label p.offset ++ lines_text p.document p.lines ++ 0x0a ∷ []

-- the lines of a method's points
unfoldable pub points_text : MethodDebug → List ℕ
points_text m = flat_map point_text m.points
