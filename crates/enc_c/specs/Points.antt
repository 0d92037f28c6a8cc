-- The sequence points of a method by numbers, and the documents that they stand in.
use Rattle.std.specs.Prelude.{ℕ, List, map, Option, Some, None, Result, Ok, Err}
use Rattle.enc_seqpoints.specs.declared.point.Point.{Point}
use Rattle.enc_seqpoints.specs.Grammar.{MethodPoints}
use Rattle.enc_plain.specs.Debug.{Document}
use Rattle.enc_c.specs.declared.status.Status.{Status}
use Rattle.enc_c.specs.declared.status.Status.TheVariants.{Absent}
use Rattle.enc_c.specs.declared.points.PointNumbers.{PointNumbers}

-- a point that is hidden has lines and columns 0
abbrev pub numbers_in : ℕ → ℕ → Option (ℕ × ℕ × ℕ × ℕ) → PointNumbers
numbers_in offset document None =
    record {
      offset = offset;
      document = document;
      hidden = 1;
      start_line = 0;
      start_column = 0;
      end_line = 0;
      end_column = 0;
    }
numbers_in offset document (Some l) =
    record {
      offset = offset;
      document = document;
      hidden = 0;
      start_line = l.0;
      start_column = l.1;
      end_line = l.2;
      end_column = l.3;
    }

abbrev pub point_numbers : Point → PointNumbers
point_numbers p = numbers_in p.offset p.document p.lines

-- the points of a method
unfoldable pub points_numbers : MethodPoints → List PointNumbers
points_numbers m = map point_numbers m.points

-- the name of a document
abbrev pub name_told : Option Document → Result (List ℕ) Status
name_told (Some d) = Ok d.name
name_told None = Err Absent
