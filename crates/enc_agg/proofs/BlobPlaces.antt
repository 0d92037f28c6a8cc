-- The blob at an offset of all heaps.
use Rattle.std.proofs.Common.{◌≡◌, ℕ, true, List, [], ◌∷◌, Option, Some, None, refl, ap, ◌∙◌}
use Rattle.std.specs.Prelude.{is_some, option_map, MatchOption}
use Rattle.enc_base.specs.declared.token.Token.{Token}
use Rattle.enc_meta.specs.Heaps.{blob_at}
use Rattle.enc_meta.specs.Joined.{joined_blob}
use Rattle.enc_meta.proofs.Alone.{blob_alone}
use Rattle.enc_rows.specs.Source.{Source}
use Rattle.enc_plain.specs.Cell.{Cell, blob}
use Rattle.enc_image.specs.Base.{chain_of_base}
use Rattle.enc_delta.specs.Delta.{listed, place_in}
use Rattle.enc_delta.proofs.OneHeapMore.{blob_stays}
use Rattle.enc_agg.specs.declared.added.Added.{Added}
use Rattle.enc_agg.specs.Extend.{extended, chain_with}
use Rattle.enc_agg.specs.Seen.{sources, found_or, found_in}
use Rattle.enc_agg.proofs.Histories.{some_first}

-- a blob of the base is one of all
base_blobs : (b : Source) (added : List Added) (o : ℕ) (x : List ℕ) → blob_at b.heaps.blobs o ≡ Some x → joined_blob (chain_with b (sources added)).heaps o ≡ Some x
unfolding chain_with extended chain_of_base
base_blobs b [] o x is = blob_alone b.heaps o ∙ is
base_blobs b (a ∷ older) o x is = blob_stays (chain_with b (sources older)).heaps a.delta.heaps o x (base_blobs b older o x is)

-- a blob of the deltas up to one is one of all
found_step : (b : Source) (a : Added) (older upto : List Added) (k : ℕ) (p : Option ℕ) (rest : Option (List Added × ℕ)) (o : ℕ) (x : List ℕ) → (rest ≡ Some (upto, k) → joined_blob (chain_with b (sources older)).heaps o ≡ Some x) → found_or (a ∷ older) p rest ≡ Some (upto, k) → joined_blob (chain_with b (sources upto)).heaps o ≡ Some x → joined_blob (chain_with b (sources (a ∷ older))).heaps o ≡ Some x
unfolding chain_with extended
found_step b a older upto k None rest o x more is there = blob_stays (chain_with b (sources older)).heaps a.delta.heaps o x (more is)
found_step b a older upto k (Some j) rest o x more is there =
    let all : a ∷ older ≡ upto = some_first (a ∷ older, j) (upto, k) is in
    rw (← all) at there

found_blobs : (b : Source) (added upto : List Added) (u : Token) (k o : ℕ) (x : List ℕ) → found_in added u ≡ Some (upto, k) → joined_blob (chain_with b (sources upto)).heaps o ≡ Some x → joined_blob (chain_with b (sources added)).heaps o ≡ Some x
unfolding found_in
found_blobs b [] upto u k o x is there = absurd cc
found_blobs b (a ∷ older) upto u k o x is there = found_step b a older upto k (place_in (listed a.delta) u) (found_in older u) o x (λ h. found_blobs b older upto u k o x h there) is there

pub told_by : (o : Option (List ℕ)) (cell : Option Cell) (all : Option (List ℕ)) → ((x : List ℕ) → o ≡ Some x → all ≡ Some x) → is_some o ≡ true
    → cell ≡ option_map blob o → cell ≡ option_map blob all
told_by None cell all same some is = absurd cc
told_by (Some x) cell all same some is = rw (same x refl) is

pub some_by : (o all : Option (List ℕ)) → ((x : List ℕ) → o ≡ Some x → all ≡ Some x) → is_some o ≡ true → is_some all ≡ true
some_by None all same some = absurd cc
some_by (Some x) all same some = ap is_some (same x refl)

pub base_blob : (b : Source) (added : List Added) (o : ℕ) (cell : Option Cell) → is_some (blob_at b.heaps.blobs o) ≡ true → cell ≡ option_map blob (blob_at b.heaps.blobs o) → cell ≡ option_map blob (joined_blob (chain_with b (sources added)).heaps o)
base_blob b added o cell some is = told_by (blob_at b.heaps.blobs o) cell _ (λ x h. base_blobs b added o x h) some is

pub base_some : (b : Source) (added : List Added) (o : ℕ) → is_some (blob_at b.heaps.blobs o) ≡ true → is_some (joined_blob (chain_with b (sources added)).heaps o) ≡ true
base_some b added o some = some_by (blob_at b.heaps.blobs o) _ (λ x h. base_blobs b added o x h) some

pub matched : (o : Option (List ℕ)) (cell : Option Cell) (all : Option (List ℕ)) → ((x : List ℕ) → o ≡ Some x → all ≡ Some x)
    → MatchOption o ⊥ (λ a. cell ≡ Some (blob a)) → (cell ≡ option_map blob all) × (is_some all ≡ true)
matched None cell all same is = absurd is
matched (Some x) cell all same is = (rw (same x refl) is, ap is_some (same x refl))

pub found_blob : (b : Source) (added upto : List Added) (u : Token) (k o : ℕ) (cell : Option Cell) → found_in added u ≡ Some (upto, k) → MatchOption (joined_blob (chain_with b (sources upto)).heaps o) ⊥ (λ a. cell ≡ Some (blob a)) → (cell ≡ option_map blob (joined_blob (chain_with b (sources added)).heaps o)) × (is_some (joined_blob (chain_with b (sources added)).heaps o) ≡ true)
found_blob b added upto u k o cell is told = matched (joined_blob (chain_with b (sources upto)).heaps o) cell _ (λ x h. found_blobs b added upto u k o x is h) told

-- a cell of the base, where it is one of all
pub base_cell_blob : (o : Option (List ℕ)) (base all : Option Cell) → ((cell : Cell) → base ≡ Some cell → all ≡ Some cell) → is_some o ≡ true → base ≡ option_map blob o → all ≡ option_map blob o
base_cell_blob None base all same some is = absurd cc
base_cell_blob (Some x) base all same some is = same (blob x) is
