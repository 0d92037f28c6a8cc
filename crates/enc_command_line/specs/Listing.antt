-- The listing of a base and its deltas: a line for each generation, and under a delta's a line for each token of its
-- EncMap.
use Rattle.std.specs.Prelude.{ℕ, ◌-◌, List, [], ◌∷◌, ◌++◌, length, drop, flat_map, unwrap_or, decimal, codes, Bool, true, false, sum_by}
use Rattle.enc_base.specs.declared.token.Token.{Token}
use Rattle.enc_meta.specs.declared.heaps.HeapLengths.{HeapLengths}
use Rattle.enc_meta.specs.Heaps.{lengths_of}
use Rattle.enc_rows.specs.Source.{Source}
use Rattle.enc_plain.specs.Module.{Module, Row}
use Rattle.enc_plain.specs.Chain.{Chain}
use Rattle.enc_image.specs.Base.{module_in}
use Rattle.enc_delta.specs.Delta.{listed, place_in}
use Rattle.enc_delta.specs.Rules.{is_insert, own_guid}
use Rattle.enc_plain.specs.declared.place.RowPlace.{RowPlace}
use Rattle.enc_agg.specs.Extend.{chain_with}
use Rattle.enc_agg.specs.Place.{place_of}
use Rattle.enc_agg.specs.Seen.{History}
use Rattle.enc_text.specs.Text.{token_text, guid_text}

-- ` rows N strings A users B blobs C guids D`: counted bytes of three heaps, and entries of `#GUID`
unfoldable pub counts_text : ℕ → HeapLengths → List ℕ
counts_text rows l =
    codes " rows " ++ decimal rows ++ codes " strings " ++ decimal l.strings ++ codes " users " ++ decimal l.users ++
    codes " blobs " ++ decimal l.blobs ++ codes " guids " ++ decimal l.guids ++ 0x0a ∷ []

-- how many rows a module has in all tables
abbrev pub all_rows : Module → ℕ
all_rows m = sum_by (λ (rows : List Row). length rows) m.tables

-- the line of the base
unfoldable pub base_text : Source → List ℕ
base_text base = codes "generation 0" ++ counts_text (all_rows (module_in base)) (lengths_of base.heaps)

-- a place in a generation
abbrev pub at_text : RowPlace → List ℕ
at_text p = decimal p.generation ++ 0x2e ∷ decimal p.row

-- a row of the chain before, or a new one
abbrev pub change_text : Bool → List ℕ
change_text true = codes " insert "
change_text false = codes " update "

-- a token of a generation's EncMap: a new row of the chain before or one of its rows, where it stands in this
-- generation, and its newest place
unfoldable pub token_line : Chain → ℕ → Source → List Source → Token → List ℕ
token_line before g d deltas token =
    codes "  " ++ token_text token ++ change_text (is_insert before token) ++
    at_text (record { generation = g; row = unwrap_or (place_in (listed d) token) 0 }) ++ codes " newest " ++ at_text
    (place_of deltas token) ++ 0x0a ∷ []

-- the first line of a delta, the g-th generation
unfoldable pub head_text : ℕ → List ℕ → ℕ → HeapLengths → List ℕ
head_text g id rows lengths = codes "generation " ++ decimal g ++ 0x20 ∷ guid_text id ++ counts_text rows lengths

-- the lines of a delta after the chain before it
unfoldable pub delta_text : Chain → ℕ → Source → List Source → List ℕ
delta_text before g d deltas =
    head_text g (own_guid before d 3) (length (listed d)) (lengths_of d.heaps) ++ flat_map
    (token_line before g d deltas) (listed d)

-- the lines up to a generation, where some deltas stand the newest first; all of them say where tokens are newest
unfoldable pub lines_upto : Source → List Source → List Source → List ℕ
lines_upto base deltas [] = base_text base
lines_upto base deltas (d ∷ older) =
    lines_upto base deltas older ++ delta_text (chain_with base older) (length (d ∷ older)) d deltas

unfoldable pub listing_of : Source → List Source → List ℕ
listing_of base deltas = lines_upto base deltas deltas

-- the chain before a generation
abbrev pub chain_before : History → ℕ → Chain
chain_before h generation = chain_with h.base (drop (length h.deltas - (generation - 1)) h.deltas)
