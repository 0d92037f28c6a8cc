-- The places of tokens, kept for look-ups up to a generation.
use Rattle.std.specs.Prelude.{◌≡◌, ◌==◌, ℕ, ◌+◌, ◌<◌, ◌≤◌, List, [], ◌∷◌, ◌++◌, length, Option, Some, None, option_map, unwrap_or, slice_get, if◌then◌else◌}
use Rattle.std.specs.List.{list_any}
use Rattle.enc_base.specs.declared.token.Token.{Token}
use Rattle.enc_base.specs.Token.{is_token}
use Rattle.enc_key_map.specs.declared.key.Key.{Key}
use Rattle.enc_key_map.specs.Index.{value_at, latest}
use Rattle.enc_plain.specs.declared.place.RowPlace.{RowPlace}
use Rattle.enc_generation_map.specs.declared.places.Places.{Places}
use Rattle.enc_generation_map.specs.declared.places.Listings.{Listings}

-- the key of one of a token's places, by its number from 0
abbrev pub place_key : Token → ℕ → Key
place_key token n = record { table = token.table; row = token.row; place = n }

-- how many places of a token are kept
abbrev pub places_kept : Places → Token → ℕ
places_kept x u = unwrap_or (value_at x.counts (place_key u 0)) 0

-- the generation of a place that may be kept, 0 for none
abbrev pub generation_kept : Option RowPlace → ℕ
generation_kept None = 0
generation_kept (Some p) = p.generation

-- of so many places that are kept the first are these, none past a generation; the others are past it
pub record BeginWith (first : List RowPlace) (generation count : ℕ) (kept : ℕ → Option RowPlace) : Type 0 where
  pub few : length first ≤ count
  pub same : (i : ℕ) → i < length first → kept i ≡ slice_get first i
  pub low : (i : ℕ) → i < length first → generation_kept (kept i) ≤ generation
  pub high : (i : ℕ) → length first ≤ i → i < count → generation < generation_kept (kept i)

-- the first places that are kept of each token are these, up to a generation, whatever others follow
abbrev pub KeepsPlaces : (Token → List RowPlace) → ℕ → Places → Type 0
KeepsPlaces first generation x =
    (u : Token) → BeginWith (first u) generation (places_kept x u) (λ i. value_at x.places (place_key u i))

-- and there are no others
pub record KeepsAllPlaces (every : Token → List RowPlace) (generation : ℕ) (x : Places) : Type 0 where
  pub first : KeepsPlaces every generation x
  pub all : (u : Token) → places_kept x u ≡ length (every u)

-- the places with one more behind them, where there is one
abbrev pub one_place : Option RowPlace → List RowPlace
one_place None = []
one_place (Some p) = p ∷ []

abbrev pub with_own : (Token → List RowPlace) → (Token → Option RowPlace) → Token → List RowPlace
with_own every own u = every u ++ one_place (own u)

-- tokens have these places, each behind those that it had, and how many they are then
pub record AreListings (every : Token → List RowPlace) (own : Token → Option RowPlace) (l : Listings) : Type 0 where
  pub counts : (u : Token) → latest l.counts.items (place_key u 0) ≡ option_map (λ (p : RowPlace). length (every u) + 1)
      (own u)
  pub last : (u : Token) → latest l.places.items (place_key u (length (every u))) ≡ own u
  pub others : (u : Token) (i : ℕ) → i < length (every u) → latest l.places.items (place_key u i) ≡ None

-- what some tokens have, and no other
abbrev pub of_those : {V : Type 0} → List Token → (Token → Option V) → Token → Option V
of_those tokens has u = if list_any (λ t. is_token t u) tokens then has u else None

-- so it is of the places of these tokens alone
abbrev pub AreOfThose : Places → List Token → (Token → Option RowPlace) → Listings → Type 0
AreOfThose x tokens own l =
    ((u : Token) → latest l.counts.items (place_key u 0) ≡ option_map (λ (p : RowPlace). places_kept x u + 1)
    (of_those tokens own u))
    × ((u : Token) (i : ℕ) → latest l.places.items (place_key u i)
    ≡ (if places_kept x u == i then of_those tokens own u else None))
