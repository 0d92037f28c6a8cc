-- The entries of the joined `#GUID`, one behind the other.
use Rattle.std.proofs.Common.{◌≡◌, ℕ, suc, ◌+◌, ◌<◌, List, [], ◌++◌, length, map, flat_map, Some, None, refl, sym, ap, ◌∙◌, arith}
use Rattle.std.specs.Prelude.{unwrap_or}
use Rattle.enc_meta.specs.Heaps.{Counted}
use Rattle.enc_meta.specs.Joined.{first_guid, joined_guid, joined_lengths, guid_entries}
use Rattle.enc_meta.specs.declared.heaps.HeapLengths.{HeapLengths}
use Rattle.enc_rows.specs.Sums.{below}
use Rattle.enc_rows.proofs.Pieces.{pieces_more}
use Rattle.enc_merged_delta.specs.Merged.{guids_joined}
use Rattle.enc_merged_delta.proofs.HeapLengths.{first_there}

abbrev pub entry_of : List Counted → ℕ → List ℕ
entry_of heaps k = unwrap_or (first_guid (map (λ (h : Counted). h.guids) heaps) k) []

-- those of the first k
abbrev pub entries_upto : List Counted → ℕ → List ℕ
entries_upto heaps k = flat_map (entry_of heaps) (below k)

pub no_entries : (heaps : List Counted) → [] ≡ entries_upto heaps 0
unfolding below
no_entries heaps = refl

number_is : (heaps : List Counted) (k : ℕ) → joined_guid heaps (k + 1) ≡ first_guid (map (λ (h : Counted). h.guids) heaps) k
number_is heaps k = let e : k + 1 ≡ suc k = omega arith in ap (joined_guid heaps) e

-- each is there
pub entry_there : (heaps : List Counted) (k : ℕ) → k < guid_entries heaps → joined_guid heaps (k + 1) ≡ None → ⊥
entry_there heaps k low none =
    let long = first_there heaps k low in
    let empty : entry_of heaps k ≡ [] = ap (λ o. unwrap_or o []) (sym (number_is heaps k) ∙ none) in
    let zero : length (entry_of heaps k) ≡ 0 = ap length empty in
    omega (arith, long, zero)

-- one more
pub entry_more : (heaps : List Counted) (k : ℕ) (bytes new guid : List ℕ) → bytes ≡ entries_upto heaps k → joined_guid heaps (k + 1) ≡ Some guid → new ≡ bytes ++ guid
    → new ≡ entries_upto heaps (k + 1)
entry_more heaps k bytes new guid so_far there is =
    let here : entry_of heaps k ≡ guid = ap (λ o. unwrap_or o []) (sym (number_is heaps k) ∙ there) in
    is ∙ ap (λ xs. xs ++ guid) so_far ∙ ap (λ xs. entries_upto heaps k ++ xs) (sym here) ∙ sym (pieces_more (entry_of heaps) k)

-- and all
pub many_entries : (heaps : List Counted) (l : HeapLengths) → l ≡ joined_lengths heaps → l.guids ≡ guid_entries heaps
unfolding joined_lengths
many_entries heaps l is = ap (λ (x : HeapLengths). x.guids) is

pub all_entries : (heaps : List Counted) (k : ℕ) → k ≡ guid_entries heaps → entries_upto heaps k ≡ guids_joined heaps
unfolding guids_joined
all_entries heaps k is = ap (entries_upto heaps) is
