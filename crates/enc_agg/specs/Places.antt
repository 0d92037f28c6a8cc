-- Where each token stood in every delta that lists it.
use Rattle.std.specs.Prelude.{ℕ, suc, List, [], ◌∷◌, ◌++◌, length, Option, option_map}
use Rattle.enc_base.specs.declared.token.Token.{Token}
use Rattle.enc_rows.specs.Source.{Source}
use Rattle.enc_plain.specs.declared.place.RowPlace.{RowPlace}
use Rattle.enc_generation_map.specs.Places.{one_place}
use Rattle.enc_delta.specs.Delta.{listed, place_in}

-- the place of a token in a generation whose map has these
abbrev pub place_listed : ℕ → List Token → Token → Option RowPlace
place_listed generation tokens u =
    option_map (λ (k : ℕ). record { generation = generation; row = k }) (place_in tokens u)

-- the places of a token in deltas, the newest first, that list it: the oldest place first
unfoldable pub every_place : List Source → Token → List RowPlace
every_place [] u = []
every_place (d ∷ older) u = every_place older u ++ one_place (place_listed (suc (length older)) (listed d) u)
