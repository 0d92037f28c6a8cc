-- Heaps that are written: the distinct values of each in the order of their first use, and the bytes that hold them
-- (ECMA-335 II.24.2.3 to II.24.2.5).
use Rattle.std.specs.Prelude.{ℕ, ◌+◌, ◌*◌, ◌/◌, ◌%◌, ◌^◌, ◌≤◌, max, Bool, false, not, ◌&&◌, ◌||◌, List, [], ◌∷◌, ◌++◌, length, flat_map, replicate, sum_by, bytes_eq, nat_lt, nat_le, ◌==◌, if◌then◌else◌}
use Rattle.std.specs.List.{list_any}
use Rattle.enc_base.specs.Numbers.{spelled, is_empty}
use Rattle.enc_meta.specs.Heaps.{Counted, nil_guid}
use Rattle.enc_meta.specs.declared.heaps.HeapLengths.{HeapLengths}

-- where the heaps begin in the joined ones, and the distinct values of each that aren't empty; a user text is the
-- bytes of its units
pub record Built : Type 0 where
  pub starts : HeapLengths
  pub texts : List (List ℕ)
  pub users : List (List ℕ)
  pub blobs : List (List ℕ)
  pub guids : List (List ℕ)

-- no value yet
abbrev pub none_from : HeapLengths → Built
none_from starts = record { starts = starts; texts = []; users = []; blobs = []; guids = [] }

-- the value is one of these
abbrev pub is_among : List (List ℕ) → List ℕ → Bool
is_among values v = list_any (λ w. bytes_eq w v) values

-- the value takes no place of its own: it is empty, or it is there
unfoldable pub is_kept : List (List ℕ) → List ℕ → Bool
is_kept values v = is_empty v || is_among values v

-- the values with one more, where that takes a place of its own
unfoldable pub with_value : List (List ℕ) → List ℕ → List (List ℕ)
with_value values v = if is_kept values v then values else values ++ v ∷ []

-- UTF-16 units in bytes, the low one first
abbrev pub unit_bytes : List ℕ → List ℕ
unit_bytes [] = []
unit_bytes (u ∷ rest) = u % 0x100 ∷ u / 0x100 ∷ unit_bytes rest

-- a text and its zero (II.24.2.3)
abbrev pub text_bytes : List ℕ → List ℕ
text_bytes t = t ++ 0 ∷ []

-- a blob behind its compressed length (II.24.2.4)
abbrev pub blob_bytes : List ℕ → List ℕ
blob_bytes b = spelled (length b) ++ b

-- a unit asks for the mark: it has a high byte, or is 01 to 08, 0E to 1F, 27, 2D or 7F (II.24.2.4)
unfoldable pub asks_mark : ℕ → ℕ → Bool
asks_mark low high = not (high == 0) || (nat_le 0x01 low && nat_le low 0x08) || (nat_le 0x0E low && nat_le low 0x1F)
    || low == 0x27 || low == 0x2D
    || low == 0x7F

abbrev pub any_asks_mark : List ℕ → Bool
any_asks_mark (low ∷ high ∷ rest) = asks_mark low high || any_asks_mark rest
any_asks_mark _ = false

-- the byte behind the units
unfoldable pub mark_of : List ℕ → ℕ
mark_of units = if any_asks_mark units then 1 else 0

-- a user text: its units and the mark, behind their length
abbrev pub user_bytes : List ℕ → List ℕ
user_bytes units = blob_bytes (units ++ mark_of units ∷ [])

-- where a value begins among those from a place on; behind them all where it isn't there
unfoldable pub place_among : (List ℕ → List ℕ) → ℕ → List (List ℕ) → List ℕ → ℕ
place_among encode at [] v = at
place_among encode at (w ∷ rest) v = if bytes_eq w v then at else place_among encode (at + length (encode w)) rest v

-- a value's offset in a heap that begins at a joined offset: 0 for the empty one, else behind one zero and the
-- values before it
unfoldable pub offset_in : (List ℕ → List ℕ) → ℕ → List (List ℕ) → List ℕ → ℕ
offset_in encode start values v = if is_empty v then 0 else place_among encode (start + 1) values v

-- the bytes of a heap: a zero and the values
unfoldable pub heap_bytes : (List ℕ → List ℕ) → List (List ℕ) → List ℕ
heap_bytes encode values = 0 ∷ flat_map encode values

-- the joined length up to the end of a heap that begins there
unfoldable pub joined_end : (List ℕ → List ℕ) → ℕ → List (List ℕ) → ℕ
joined_end encode start values = start + 1 + sum_by (λ (v : List ℕ). length (encode v)) values

abbrev pub text_offset : Built → List ℕ → ℕ
text_offset b v = offset_in text_bytes b.starts.strings b.texts v

abbrev pub user_offset : Built → List ℕ → ℕ
user_offset b v = offset_in user_bytes b.starts.users b.users v

abbrev pub blob_offset : Built → List ℕ → ℕ
blob_offset b v = offset_in blob_bytes b.starts.blobs b.blobs v

abbrev pub with_text : Built → List ℕ → Built
with_text b v = record {
  starts = b.starts;
  texts = with_value b.texts v;
  users = b.users;
  blobs = b.blobs;
  guids = b.guids;
}

abbrev pub with_user : Built → List ℕ → Built
with_user b v = record {
  starts = b.starts;
  texts = b.texts;
  users = with_value b.users v;
  blobs = b.blobs;
  guids = b.guids;
}

abbrev pub with_blob : Built → List ℕ → Built
with_blob b v = record {
  starts = b.starts;
  texts = b.texts;
  users = b.users;
  blobs = with_value b.blobs v;
  guids = b.guids;
}

-- a joined heap passes its limit with a value that takes a place of its own
unfoldable pub passes : (List ℕ → List ℕ) → ℕ → ℕ → List (List ℕ) → List ℕ → Bool
passes encode limit start values v = not (is_kept values v) && nat_lt limit (joined_end encode start (values ++ v ∷ []))

-- the limit of `#US` is 2^24 bytes, that of each other joined heap 2^29
abbrev pub text_passes : Built → List ℕ → Bool
text_passes b v = passes text_bytes (2 ^ 29) b.starts.strings b.texts v

abbrev pub user_passes : Built → List ℕ → Bool
user_passes b v = passes user_bytes (2 ^ 24) b.starts.users b.users v

abbrev pub blob_passes : Built → List ℕ → Bool
blob_passes b v = passes blob_bytes (2 ^ 29) b.starts.blobs b.blobs v

unfoldable pub is_guid_kept : List (List ℕ) → List ℕ → Bool
is_guid_kept guids g = bytes_eq g nil_guid || is_among guids g

-- the entries with one more, where it takes one
unfoldable pub with_entry : List (List ℕ) → List ℕ → List (List ℕ)
with_entry guids g = if is_guid_kept guids g then guids else guids ++ g ∷ []

abbrev pub with_guid : Built → List ℕ → Built
with_guid b g = record {
  starts = b.starts;
  texts = b.texts;
  users = b.users;
  blobs = b.blobs;
  guids = with_entry b.guids g;
}

-- how many entries stand before this one, and all where it isn't there
abbrev pub entries_before : List (List ℕ) → List ℕ → ℕ
entries_before [] g = 0
entries_before (w ∷ rest) g = if bytes_eq w g then 0 else 1 + entries_before rest g

-- a GUID's number: 0 for nil, else counted from 1 behind the entries of the chain (II.24.2.5)
unfoldable pub guid_number_in : ℕ → List (List ℕ) → List ℕ → ℕ
guid_number_in start guids g = if bytes_eq g nil_guid then 0 else start + 1 + entries_before guids g

abbrev pub guid_number : Built → List ℕ → ℕ
guid_number b g = guid_number_in b.starts.guids b.guids g

-- as many nil entries as the chain has, and then the new ones
unfoldable pub guid_bytes : ℕ → List (List ℕ) → List ℕ
guid_bytes start guids = replicate (16 * start) 0 ++ flat_map (λ (g : List ℕ). g) guids

-- the joined entries pass the limit of 2^29 bytes with a GUID that takes an entry
unfoldable pub entry_passes : ℕ → List (List ℕ) → List ℕ → Bool
entry_passes start guids g = not (is_guid_kept guids g) && nat_lt (2 ^ 29) (16 * (start + length guids + 1))

abbrev pub guid_passes : Built → List ℕ → Bool
guid_passes b g = entry_passes b.starts.guids b.guids g

-- the bytes of all four heaps
unfoldable pub heaps_built : Built → Counted
heaps_built b = record {
  strings = heap_bytes text_bytes b.texts;
  users = heap_bytes user_bytes b.users;
  blobs = heap_bytes blob_bytes b.blobs;
  guids = guid_bytes b.starts.guids b.guids;
}

-- how long the four joined heaps are together
unfoldable pub joined_size : Built → ℕ
joined_size b =
    joined_end text_bytes b.starts.strings b.texts + joined_end user_bytes b.starts.users b.users + joined_end
    blob_bytes b.starts.blobs b.blobs
    + 16 * (b.starts.guids + length b.guids)

-- no joined heap is longer than its limit, but where it was before
pub record AreWithinLimits (b : Built) : Type 0 where
  pub texts : joined_end text_bytes b.starts.strings b.texts ≤ max (2 ^ 29) (b.starts.strings + 1)
  pub users : joined_end user_bytes b.starts.users b.users ≤ max (2 ^ 24) (b.starts.users + 1)
  pub blobs : joined_end blob_bytes b.starts.blobs b.blobs ≤ max (2 ^ 29) (b.starts.blobs + 1)
  pub guids : 16 * (b.starts.guids + length b.guids) ≤ max (2 ^ 29) (16 * b.starts.guids)
