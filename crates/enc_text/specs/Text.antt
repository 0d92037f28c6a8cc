-- Tokens, texts, blobs, GUIDs, refusals as printed bytes.
use Rattle.std.specs.Prelude.{ℕ, ◌-◌, Bool, not, ◌&&◌, List, [], ◌∷◌, ◌++◌, drop, unwrap_or, nat_le, ◌==◌, if◌then◌else◌, codes, flat_map, decimal}
use Rattle.std.specs.Int.{w32, to_be_bytes}
use Rattle.hex.specs.Hex.{encode_lower}
use Rattle.uuid.specs.Text.{hyphenated_text, lower}
use Rattle.uuid.specs.Parts.{swap_fields}
use Rattle.enc_base.specs.declared.token.Token.{Token}
use Rattle.enc_base.specs.declared.refusal.Code.{Code}
use Rattle.enc_base.specs.declared.refusal.Code.TheVariants.{F, E}
use Rattle.enc_base.specs.declared.refusal.Place.{Place}
use Rattle.enc_base.specs.declared.refusal.Place.TheVariants as place
use Rattle.enc_base.specs.declared.refusal.StreamName.{StreamName}
use Rattle.enc_base.specs.declared.refusal.StreamName.TheVariants as stream
use Rattle.enc_base.specs.declared.refusal.Refusal.{Refusal}
use Rattle.enc_schema.specs.Names.{column_name_in}

-- the last so many of the eight lower case hexadecimal digits of a number
unfoldable pub digits : ℕ → ℕ → List ℕ
digits count n = drop (8 - count) (encode_lower (to_be_bytes w32 n))

-- the eight digits of a token: two of its table, six of its row
unfoldable pub token_text : Token → List ℕ
token_text token = digits 2 token.table ++ digits 6 token.row

-- a byte from 20 to 7e stands as it is but for `"` and `\`, every other is `\x` and its two digits
abbrev pub stands_as_it_is : ℕ → Bool
stands_as_it_is b = nat_le 0x20 b && nat_le b 0x7e && not (b == 0x22) && not (b == 0x5c)

abbrev pub escaped : ℕ → List ℕ
escaped b = if stands_as_it_is b then b ∷ [] else 0x5c ∷ 0x78 ∷ digits 2 b

-- a text between `"` signs
unfoldable pub quoted : List ℕ → List ℕ
quoted bytes = 0x22 ∷ flat_map escaped bytes ++ 0x22 ∷ []

-- the digits of a blob in brackets
unfoldable pub bracketed : List ℕ → List ℕ
bracketed bytes = 0x5b ∷ encode_lower bytes ++ 0x5d ∷ []

-- a GUID with hyphens, its first three fields read little-endian
unfoldable pub guid_text : List ℕ → List ℕ
guid_text bytes = hyphenated_text lower (swap_fields bytes)

abbrev pub refusal_code_text : Code → List ℕ
refusal_code_text (F n) = 0x46 ∷ decimal n
refusal_code_text (E n) = 0x45 ∷ decimal n

abbrev pub stream_text : StreamName → List ℕ
stream_text stream.Compressed = codes "#~"
stream_text stream.Uncompressed = codes "#-"
stream_text stream.Strings = codes "#Strings"
stream_text stream.Users = codes "#US"
stream_text stream.Blobs = codes "#Blob"
stream_text stream.Guids = codes "#GUID"
stream_text stream.Pdb = codes "#Pdb"
stream_text stream.Jtd = codes "#JTD"

-- a column of a row, by its name
unfoldable pub cell_place_text : Token → ℕ → List ℕ
cell_place_text token i = token_text token ++ 0x2e ∷ unwrap_or (column_name_in token.table i) []

abbrev pub place_text : Place → List ℕ
place_text place.Root = codes "root"
place_text (place.Stream name) = stream_text name
place_text place.Headers = codes "headers"
place_text place.Cli = codes "cli"
place_text place.Metadata = codes "metadata"
place_text place.Resources = codes "resources"
place_text place.Debug = codes "debug"
place_text place.Tables = codes "tables"
place_text place.Pdb = codes "pdb"
place_text (place.Row token) = token_text token
place_text (place.Cell token i) = cell_place_text token i
place_text (place.Owner token) = token_text token ++ codes ".owner"
place_text (place.Log k) = codes "log " ++ decimal k

-- the line of a refused file
unfoldable pub refused_line : List ℕ → Refusal → List ℕ
refused_line name e = codes "refused " ++ name ++ 0x20 ∷ refusal_code_text e.code ++ 0x20 ∷ place_text e.place ++ 0x0a
    ∷ []
