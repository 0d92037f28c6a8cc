-- The joined heaps of several generations: their counted heaps one behind the other.
use Rattle.std.specs.Prelude.{ℕ, zero, suc, ◌-◌, ◌+◌, ◌*◌, ◌/◌, max, List, [], ◌∷◌, length, map, replicate, Option, Some, None, nat_lt, nat_le, ◌==◌, if◌then◌else◌, sum_by}
use Rattle.enc_meta.specs.Heaps.{Counted, text_entry, blob_entry, user_entry, sixteen_at}
use Rattle.enc_meta.specs.declared.heaps.HeapLengths.{HeapLengths}

-- the entry at an offset that counts from the front of the first heap; it lies whole in the heap in which it begins
unfoldable pub entry_in : (List ℕ → ℕ → Option (List ℕ)) → List (List ℕ) → ℕ → Option (List ℕ)
entry_in entry [] offset = None
entry_in entry (heap ∷ heaps) offset =
    if nat_lt offset (length heap) then entry heap offset else entry_in entry heaps (offset - length heap)

-- offset 0 of the joined heaps is the empty entry
unfoldable pub joined_entry : (List ℕ → ℕ → Option (List ℕ)) → List (List ℕ) → ℕ → Option (List ℕ)
joined_entry entry heaps offset = if offset == 0 then Some [] else entry_in entry heaps offset

abbrev pub joined_text : List Counted → ℕ → Option (List ℕ)
joined_text all offset = joined_entry text_entry (map (λ (c : Counted). c.strings) all) offset

abbrev pub joined_blob : List Counted → ℕ → Option (List ℕ)
joined_blob all offset = joined_entry blob_entry (map (λ (c : Counted). c.blobs) all) offset

abbrev pub joined_user : List Counted → ℕ → Option (List ℕ)
joined_user all offset = joined_entry user_entry (map (λ (c : Counted). c.users) all) offset

-- entry k from 1 of the first heap that has k entries
unfoldable pub first_guid : List (List ℕ) → ℕ → Option (List ℕ)
first_guid [] k = None
first_guid (heap ∷ heaps) k = if nat_le (16 * k + 16) (length heap) then sixteen_at heap k else first_guid heaps k

abbrev pub joined_guid : List Counted → ℕ → Option (List ℕ)
joined_guid all zero = Some (replicate 16 0)
joined_guid all (suc k) = first_guid (map (λ (c : Counted). c.guids) all) k

-- the bytes of the joined heaps
abbrev pub joined_length : List (List ℕ) → ℕ
joined_length heaps = sum_by (λ (h : List ℕ). length h) heaps

-- the greatest of some numbers
abbrev pub most : List ℕ → ℕ
most [] = 0
most (n ∷ ns) = max n (most ns)

-- how many entries of the joined `#GUID` can be read
abbrev pub guid_entries : List Counted → ℕ
guid_entries heaps = most (map (λ (h : Counted). length h.guids / 16) heaps)

-- how long the joined heaps are; of `#GUID` the entries count
unfoldable pub joined_lengths : List Counted → HeapLengths
joined_lengths heaps = record {
  strings = joined_length (map (λ (h : Counted). h.strings) heaps);
  users = joined_length (map (λ (h : Counted). h.users) heaps);
  blobs = joined_length (map (λ (h : Counted). h.blobs) heaps);
  guids = guid_entries heaps;
}
