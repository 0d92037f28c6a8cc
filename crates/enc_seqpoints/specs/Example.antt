-- A blob of 17 bytes, read by hand: three points in two documents, under a nil Document.
use Rattle.std.specs.Prelude.{◌≡◌, ℕ, List, [], ◌∷◌, Some, None, Ok}
use Rattle.enc_seqpoints.specs.declared.point.Point.{Point}
use Rattle.enc_seqpoints.specs.Grammar.{points_in, method_points}
use Rattle.enc_seqpoints.specs.Spelling.{blob_of}

-- no local signature; document 1; a hidden point at 0; document 2; a point 5 further, 1 line high, to 3 columns
-- before its start, from 10:9; and
-- one 4 further, 5 columns wide, 1 line below and at the same column
abbrev pub example : List ℕ
example =
    0x00 ∷ 0x01 ∷
    0x00 ∷ 0x00 ∷ 0x00 ∷
    0x00 ∷ 0x02 ∷
    0x05 ∷ 0x01 ∷ 0x7b ∷ 0x0a ∷ 0x09 ∷
    0x04 ∷ 0x00 ∷ 0x05 ∷ 0x02 ∷ 0x00 ∷ []

-- hidden at 0 in document 1; in document 2 at 5 from 10:9 to 11:6, and at 9 from 11:9 to 11:14
abbrev pub example_points : List Point
example_points =
    record { offset = 0; document = 1; lines = None } ∷
    record { offset = 5; document = 2; lines = Some (10, 9, 11, 6) } ∷
    record { offset = 9; document = 2; lines = Some (11, 9, 11, 14) } ∷ []

-- the blob is read so, and is what is written of these points
abbrev pub BlobIsRead : Type 0
BlobIsRead = points_in 0 example ≡ Some (method_points 0 example_points)

abbrev pub BlobIsWritten : Type 0
BlobIsWritten = blob_of 0 0 example_points ≡ Ok example
