-- What is known of sequence points that are read and written (Portable PDB v1.0, Sequence Points Blob).
use Rattle.std.specs.Prelude.{◌≡◌, ◌≢◌, ℕ, ◌+◌, ◌^◌, ◌<◌, true, List, length, take, Some, Ok, Err, is_ok}
use Rattle.enc_seqpoints.specs.declared.point.Point.{Point}
use Rattle.enc_seqpoints.specs.Grammar.{MethodPoints, method_points, points_in}
use Rattle.enc_seqpoints.specs.Spelling.{blob_of}

-- what is written reads back
abbrev pub PointsReadBack : Type 0
PointsReadBack = (locals document : ℕ) (points : List Point) (bytes : List ℕ) → locals < 2 ^ 29
    → blob_of locals document points ≡ Ok bytes
    → points_in document bytes ≡ Some (method_points locals points)

-- what is read can be written
abbrev pub ReadIsWritable : Type 0
ReadIsWritable = (document : ℕ) (bytes : List ℕ) (m : MethodPoints) → points_in document bytes ≡ Some m
    → (m.locals < 2 ^ 29) × (is_ok (blob_of m.locals document m.points) ≡ true)

-- the point that is named is one of the points, those before it can be written, and with it no blob reads as them
abbrev pub FirstIsNamed : Type 0
FirstIsNamed = (locals document i : ℕ) (points : List Point) → blob_of locals document points ≡ Err i
    → (i < length points) × (is_ok (blob_of locals document (take i points)) ≡ true)
    × ((bytes : List ℕ) (any : ℕ) → points_in document bytes ≢ Some (method_points any (take (i + 1) points)))
