-- A stream written part by part.
use Rattle.std.proofs.Common.{◌≡◌, ℕ, Bool, List, [], ◌∷◌, ◌++◌, replicate, ap, ◌∙◌}
use Rattle.std.specs.Prelude.{flat_map}
use Rattle.std.specs.Int.{w64, to_le_bytes}
use Rattle.enc_schema.specs.Widths.{Shape}
use Rattle.enc_rows.specs.Sums.{below}
use Rattle.enc_rows.specs.Written.{valid_of, header_written, count_written, table_written, shape_of, more_data, stream_of}
use Rattle.enc_rows.proofs.Pieces.{behind}

-- a header written in three parts
pub header_behind : (valid flags : ℕ) (out one two three : List ℕ) → one ≡ out ++ (0 ∷ 0 ∷ 0 ∷ 0 ∷ 2 ∷ 0 ∷ flags ∷ 1 ∷ []) → two ≡ one ++ to_le_bytes w64 valid → three ≡ two ++ replicate 8 0 → three ≡ out ++ header_written valid flags
header_behind valid flags out one two three a b c =
    behind out (0 ∷ 0 ∷ 0 ∷ 0 ∷ 2 ∷ 0 ∷ flags ∷ 1 ∷ []) (to_le_bytes w64 valid ++ replicate 8 0) one three a (behind one (to_le_bytes w64 valid) (replicate 8 0) two three b c)

-- a stream written in four: header, numbers of rows, the bytes of heap bit 40, and rows
pub stream_behind : (all : List (List (List ℕ))) (jtd : Bool) (flags valid : ℕ) (shape : Shape) (out one two three four : List ℕ) → valid ≡ valid_of all → shape ≡ shape_of all jtd flags → one ≡ out ++ header_written valid flags → two ≡ one ++ flat_map (count_written all) (below 64) → three ≡ two ++ more_data flags → four ≡ three ++ flat_map (table_written all shape) (below 64) → four ≡ out ++ stream_of all jtd flags
unfolding stream_of
stream_behind all jtd flags valid shape out one two three four bits by a b c d =
    let header = header_written (valid_of all) flags in
    let counts = flat_map (count_written all) (below 64) in
    let more = more_data flags in
    let rows = flat_map (table_written all (shape_of all jtd flags)) (below 64) in
    let a' : one ≡ out ++ header = a ∙ ap (λ v. out ++ header_written v flags) bits in
    let d' : four ≡ three ++ rows = d ∙ ap (λ s. three ++ flat_map (table_written all s) (below 64)) by in
    behind out ((header ++ counts) ++ more) rows three four (behind out (header ++ counts) more two three (behind out header counts one two a' b) c) d'
