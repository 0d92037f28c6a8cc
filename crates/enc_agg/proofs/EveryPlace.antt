-- The places of tokens in all deltas, with one delta more and with some less.
use Rattle.std.proofs.Common.{◌≡◌, ℕ, zero, suc, ◌+◌, ◌-◌, ◌^◌, ◌<◌, ◌≤◌, false, List, [], ◌∷◌, ◌++◌, length, drop, reverse, Option, Some, None, refl, sym, ap, ◌∙◌, arith}
use Rattle.std.specs.Prelude.{option_map, slice_get}
use Rattle.std.specs.List.{list_any}
use Rattle.std.proofs.lemmas.List.{length-append, length-map, length-reverse, reverse-append, take_all}
use Rattle.enc_base.specs.declared.token.Token.{Token}
use Rattle.enc_base.specs.Token.{is_token}
use Rattle.enc_key_map.specs.declared.key.Key.{Key}
use Rattle.enc_key_map.specs.declared.index.Index.{Index}
use Rattle.enc_key_map.specs.Index.{value_at, latest, either}
use Rattle.enc_rows.specs.Source.{Source}
use Rattle.enc_plain.specs.Sound.{IsSound}
use Rattle.enc_plain.specs.declared.place.RowPlace.{RowPlace}
use Rattle.enc_generation_map.specs.declared.places.Places.{Places}
use Rattle.enc_generation_map.specs.declared.places.Listings.{Listings}
use Rattle.enc_generation_map.specs.Places.{place_key, places_kept, generation_kept, BeginWith, KeepsPlaces, KeepsAllPlaces, one_place, AreListings, AreOfThose}
use Rattle.enc_generation_map.proofs.Keeping.{those_all, all_listings, keeps_more, keeps_less, keeps_none, own_within, own_few, last_with}
use Rattle.enc_delta.specs.Delta.{listed, place_in}
use Rattle.enc_agg.specs.declared.added.Added.{Added}
use Rattle.enc_agg.specs.declared.aggregate.Ready.{Ready}
use Rattle.enc_agg.specs.declared.directory.Directory.{Directory}
use Rattle.enc_agg.specs.Directory.{row_key, place_seen}
use Rattle.enc_agg.specs.Extend.{extended, chain_with}
use Rattle.enc_agg.specs.Places.{place_listed, every_place}
use Rattle.enc_agg.specs.Prepared.{to_add, IsPrepared, IsWhole}
use Rattle.enc_agg.specs.Seen.{sources, AllAdded, found_in}
use Rattle.enc_agg.proofs.Directories.{directory_more, place_step}
use Rattle.enc_agg.proofs.Gained.{all_placed}
use Rattle.enc_agg.proofs.Generations.{one_more}
use Rattle.enc_agg.proofs.Histories.{few_added}

-- a token's place in a delta is of its generation
of_generation : (g : ℕ) (o : Option ℕ) (p : RowPlace) → option_map (λ (k : ℕ). record { generation = g; row = k }) o ≡ Some p → p.generation ≡ g
of_generation g None p is = absurd cc
of_generation g (Some k) p is = sym (ap generation_kept is)

-- a token that isn't among those of a delta has no place there
not_listed : (g : ℕ) (all : List Token) (u : Token) → list_any (λ t. is_token t u) all ≡ false → place_listed g all u ≡ None
not_listed g all u e = sym (all_placed g all (length all) u None (omega arith) (rw (take_all (length all) all (omega arith), e) refl))

-- what is made of all tokens are the listings
pub are_listings : (deltas : List Source) (x : Places) (own : Index RowPlace) (all : List Token) (l : Listings) → KeepsAllPlaces (every_place deltas) (length deltas) x
    → ((u : Token) → value_at own (row_key u) ≡ place_listed (suc (length deltas)) all u) → AreOfThose x all (λ u. value_at own (row_key u)) l
    → AreListings (every_place deltas) (place_listed (suc (length deltas)) all) l
are_listings deltas x own all l keeps is those =
    let g = suc (length deltas) in
    let has : Token → Option RowPlace = λ u. value_at own (row_key u) in
    all_listings (every_place deltas) (length deltas) x has (place_listed g all) all l keeps
    (λ u. those_all all has u (λ e. is u ∙ not_listed g all u e) ∙ is u) those

-- with the newest delta
places_with : (deltas : List Source) (d : Source) (x y : Places) (l : Listings)
    → ((q : Key) → value_at y.places q ≡ either (latest l.places.items q) (value_at x.places q))
    → ((q : Key) → value_at y.counts q ≡ either (latest l.counts.items q) (value_at x.counts q))
    → KeepsAllPlaces (every_place deltas) (length deltas) x → AreListings (every_place deltas) (place_listed (suc (length deltas)) (listed d)) l
    → KeepsAllPlaces (every_place (d ∷ deltas)) (length (d ∷ deltas)) y
unfolding every_place
places_with deltas d x y l places counts was brought =
    keeps_more (every_place deltas) (length deltas) (place_listed (suc (length deltas)) (listed d)) x y l places counts
    (λ u p is. of_generation (suc (length deltas)) (place_in (listed d) u) p is) was brought

-- without the newest deltas
all_within : (deltas : List Source) (u : Token) (i : ℕ) → i < length (every_place deltas u) → generation_kept (slice_get (every_place deltas u) i) ≤ length deltas
unfolding every_place
all_within [] u i low = absurd (omega arith)
all_within (d ∷ older) u i low =
    own_within (every_place older u) (length older) (place_listed (suc (length older)) (listed d) u) (λ p is. of_generation (suc (length older)) (place_in (listed d) u) p is)
    (all_within older u) i low

without_newest : (d : Source) (older : List Source) (x : Places) → KeepsPlaces (every_place (d ∷ older)) (length (d ∷ older)) x
    → KeepsPlaces (every_place older) (length older) x
unfolding every_place
without_newest d older x keeps = keeps_less (every_place older) (length older) (place_listed (suc (length older)) (listed d)) x
    (λ u p is. of_generation (suc (length older)) (place_in (listed d) u) p is) (all_within older) keeps

pub keeps_first : (deltas : List Source) (k : ℕ) (x : Places) → KeepsPlaces (every_place deltas) (length deltas) x
    → KeepsPlaces (every_place (drop k deltas)) (length (drop k deltas)) x
keeps_first deltas zero x keeps = keeps
keeps_first [] (suc k) x keeps = keeps
keeps_first (d ∷ older) (suc k) x keeps = keeps_first older k x (without_newest d older x keeps)

-- the last place of a token is the one that is found
last_place : (added : List Added) (u : Token)
    → slice_get (every_place (sources added) u) (length (every_place (sources added) u) - 1) ≡ option_map place_seen (found_in added u)
unfolding every_place found_in
last_place [] u = refl
last_place (a ∷ older) u =
    let g = suc (length (sources older)) in
    last_with (every_place (sources older) u) (place_listed g (listed a.delta) u) ∙ ap (either (place_listed g (listed a.delta) u)) (last_place older u)
    ∙ place_step a older (place_in (listed a.delta) u) g (found_in older u) (ap suc (length-map older (λ (x : Added). x.delta)))

pub kept_found : (added : List Added) (x : Places) (u : Token) (n : ℕ) (o : Option RowPlace) → n ≡ length added
    → KeepsPlaces (every_place (sources (reverse added))) (length (sources (reverse added))) x
    → ((first : List RowPlace) → BeginWith first n (places_kept x u) (λ i. value_at x.places (place_key u i)) → o ≡ slice_get first (length first - 1))
    → o ≡ option_map place_seen (found_in (reverse added) u)
kept_found added x u n o many keeps told =
    let all : length (sources (reverse added)) ≡ n = length-map (reverse added) (λ (a : Added). a.delta) ∙ length-reverse added ∙ sym many in
    told (every_place (sources (reverse added)) u) (rw all at (keeps u)) ∙ last_place (reverse added) u

-- the base alone
pub no_places : (x : Places) → ((q : Key) → value_at x.counts q ≡ None) → KeepsAllPlaces (every_place []) 0 x
unfolding every_place
no_places x none = keeps_none x none

-- a token has no more places than there are deltas
places_few : (deltas : List Source) (u : Token) → length (every_place deltas u) ≤ length deltas
unfolding every_place
places_few [] u = omega arith
places_few (d ∷ older) u =
    let own = place_listed (suc (length older)) (listed d) u in
    omega (arith, length-append (every_place older u) (one_place own), own_few own, places_few older u)

pub few_places : (b : Source) (added : List Added) (x : Places) (u : Token) → AllAdded b (reverse added)
    → KeepsAllPlaces (every_place (sources (reverse added))) (length (sources (reverse added))) x → places_kept x u + 1 < 2 ^ 32
few_places b added x u all keeps =
    omega (arith, keeps.all u, places_few (sources (reverse added)) u, length-map (reverse added) (λ (a : Added). a.delta), length-reverse added, few_added b added all)

-- the module is sound after each delta
sound_more : (b : Source) (a : Added) (older : List Added) → IsSound (extended (chain_with b (sources older)) a.delta).plain
    → ((n : ℕ) → IsSound (chain_with b (sources (drop n older))).plain) → (n : ℕ) → IsSound (chain_with b (sources (drop n (a ∷ older)))).plain
unfolding chain_with
sound_more b a older last before zero = last
sound_more b a older last before (suc n) = before n

pub sound_alone : (b : Source) → IsSound (chain_with b []).plain → (n : ℕ) → IsSound (chain_with b (sources (drop n []))).plain
sound_alone b sound zero = sound
sound_alone b sound (suc n) = sound

-- the deltas, the directory and the places with one delta more
pub whole_more : (b : Source) (added : List Added) (x y : Directory) (m n : Places) (p : Ready) → ((q : Key) → value_at y.places q ≡ either (latest p.entries.places.items q) (value_at x.places q)) → ((q : Key) → value_at y.owners q ≡ either (latest p.entries.owners.items q) (value_at x.owners q)) → ((q : Key) → value_at y.counts q ≡ either (latest p.entries.counts.items q) (value_at x.counts q)) → ((q : Key) → value_at y.kids q ≡ either (latest p.entries.kids.items q) (value_at x.kids q)) → ((q : Key) → value_at n.places q ≡ either (latest p.listings.places.items q) (value_at m.places q)) → ((q : Key) → value_at n.counts q ≡ either (latest p.listings.counts.items q) (value_at m.counts q)) → IsWhole b (reverse added) x m → IsPrepared b (sources (reverse added)) p → IsWhole b (reverse (added ++ to_add p ∷ [])) y n
unfolding IsPrepared chain_with
whole_more b added x y m n p places owners counts kids kept numbers whole ready = record {
  deltas = one_more b added (to_add p) whole.deltas ready.added;
  directory = rw (reverse-append added (to_add p ∷ [])) (directory_more b (to_add p) (reverse added) x y p.entries places owners counts kids whole.deltas whole.directory ready.added ready.entries);
  places = rw (reverse-append added (to_add p ∷ [])) (places_with (sources (reverse added)) p.delta m n p.listings kept numbers whole.places ready.listings);
  sound = rw (reverse-append added (to_add p ∷ [])) (sound_more b (to_add p) (reverse added) ready.sound whole.sound);
}
