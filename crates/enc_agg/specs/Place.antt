-- The place of a token, the newest generation whose EncMap lists it; and the place of an offset of the joined heaps.
use Rattle.std.specs.Prelude.{ℕ, zero, suc, ◌+◌, ◌-◌, ◌*◌, List, [], ◌∷◌, length, map, Option, Some, None, option_map, reverse, slice_get, nat_lt, nat_le, if◌then◌else◌}
use Rattle.enc_base.specs.declared.token.Token.{Token}
use Rattle.enc_base.specs.declared.refusal.StreamName.{StreamName}
use Rattle.enc_base.specs.declared.refusal.StreamName.TheVariants as stream
use Rattle.enc_meta.specs.Heaps.{Counted}
use Rattle.enc_rows.specs.Source.{Source}
use Rattle.enc_delta.specs.Delta.{listed, place_in}
use Rattle.enc_plain.specs.declared.place.RowPlace.{RowPlace}
use Rattle.enc_agg.specs.declared.place.HeapPlace.{HeapPlace}

-- a token that no delta lists stands in the base, at its own row
abbrev pub base_place : Token → RowPlace
base_place token = record { generation = 0; row = token.row }

-- where a delta's map has the token, and else where it was before
abbrev pub place_or : ℕ → Option ℕ → RowPlace → RowPlace
place_or generation (Some row) before = record { generation = generation; row = row }
place_or generation None before = before

-- where a token stands after deltas, the newest first: in the newest whose EncMap lists it, at its position there
-- among its table's tokens
unfoldable pub place_of : List Source → Token → RowPlace
place_of [] token = base_place token
place_of (d ∷ older) token = place_or (length (d ∷ older)) (place_in (listed d) token) (place_of older token)

-- the same place, one generation later
abbrev pub later : HeapPlace → HeapPlace
later p = record { generation = p.generation + 1; offset = p.offset }

-- the heap in which an offset of the joined heaps stands, and the offset there
unfoldable pub heap_place : List (List ℕ) → ℕ → Option HeapPlace
heap_place [] offset = None
heap_place (heap ∷ heaps) offset =
    if nat_lt offset (length heap) then Some (record { generation = 0; offset = offset })
    else option_map later (heap_place heaps (offset - length heap))

-- the first `#GUID` that has k entries, k from 1
unfoldable pub guid_place : List (List ℕ) → ℕ → Option HeapPlace
guid_place heaps zero = None
guid_place [] (suc k) = None
guid_place (heap ∷ heaps) (suc k) =
    if nat_le (16 * suc k) (length heap) then Some (record { generation = 0; offset = suc k })
    else option_map later (guid_place heaps (suc k))

-- the place of an offset of a joined heap, or of an entry of `#GUID`; other streams have no places
abbrev pub place_in_heaps : List Counted → StreamName → ℕ → Option HeapPlace
place_in_heaps heaps stream.Strings offset = heap_place (map (λ (h : Counted). h.strings) heaps) offset
place_in_heaps heaps stream.Users offset = heap_place (map (λ (h : Counted). h.users) heaps) offset
place_in_heaps heaps stream.Blobs offset = heap_place (map (λ (h : Counted). h.blobs) heaps) offset
place_in_heaps heaps stream.Guids k = guid_place (map (λ (h : Counted). h.guids) heaps) k
place_in_heaps heaps _ offset = None

-- the delta of a generation, of deltas the newest first; the base has none
abbrev pub delta_at : List Source → ℕ → Option Source
delta_at deltas zero = None
delta_at deltas (suc n) = slice_get (reverse deltas) n
