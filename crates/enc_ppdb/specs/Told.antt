-- Which deltas tell something of a method, and what is kept of them for look-ups.
use Rattle.std.specs.Prelude.{ℕ, suc, ◌+◌, ◌^◌, ◌<◌, reverse, Bool, ◌||◌, List, [], ◌∷◌, ◌++◌, length, map, drop, Option, Some, None, is_some, if◌then◌else◌}
use Rattle.std.specs.List.{list_any}
use Rattle.enc_base.specs.Token.{is_token}
use Rattle.enc_base.specs.declared.token.Token.{Token}
use Rattle.enc_generation_map.specs.declared.places.Listings.{Listings}
use Rattle.enc_generation_map.specs.declared.places.Places.{Places}
use Rattle.enc_generation_map.specs.Places.{one_place, KeepsPlaces, KeepsAllPlaces, AreListings}
use Rattle.enc_plain.specs.SoundDebug.{IsSoundPdb}
use Rattle.enc_plain.specs.declared.place.RowPlace.{RowPlace}
use Rattle.enc_rows.specs.Source.{Source}
use Rattle.enc_base.specs.Tables as tables
use Rattle.enc_ppdb.specs.Fault.{named_tokens}
use Rattle.enc_ppdb.specs.PdbChain.{DebugDelta, delta_row, pdb_with}

-- the method that a token of MethodDebugInformation names
abbrev pub method_named_by : Token → Token
method_named_by t = record { table = tables.method_def; row = t.row }

-- the methods of which a delta tells something: those with a new body, and those that its PDB names
abbrev pub methods_named : Option Source → List Token
methods_named None = []
methods_named (Some s) = map method_named_by (named_tokens s)

abbrev pub told_methods : DebugDelta → List Token
told_methods d = d.changed ++ methods_named d.pdb

abbrev pub tells_of : DebugDelta → Token → Bool
tells_of d method = list_any (is_token method) d.changed || is_some (delta_row d.pdb method)

-- that a generation tells of a method
abbrev pub own_told : ℕ → Token → Option RowPlace
own_told generation method = Some (record { generation = generation; row = method.row })

abbrev pub told_by : ℕ → DebugDelta → Token → Option RowPlace
told_by generation d method = if tells_of d method then own_told generation method else None

-- the generations that tell of a method, the oldest first; of deltas, the newest first
unfoldable pub every_told : List DebugDelta → Token → List RowPlace
every_told [] method = []
every_told (d ∷ older) method = every_told older method ++ one_place (told_by (suc (length older)) d method)

-- what is to be kept of a delta that follows others
unfoldable pub AreToldBy : List DebugDelta → DebugDelta → Listings → Type 0
AreToldBy deltas d l = AreListings (every_told deltas) (told_by (suc (length deltas)) d) l

-- what is known after each delta is sound, and for each method the deltas are kept that tell of it
pub record IsPdbWhole (base : Option Source) (deltas : List DebugDelta) (x : Places) : Type 0 where
  pub sound : (newer : ℕ) → IsSoundPdb (pdb_with base (drop newer deltas))
  pub places : KeepsAllPlaces (every_told deltas) (length deltas) x

-- so it is of the first deltas of a chain, with what is kept of all
pub record IsEarlierPdb (base : Option Source) (added : List DebugDelta) (x : Places) : Type 0 where
  pub few : length added + 1 < 2 ^ 32
  pub sound : IsSoundPdb (pdb_with base (reverse added))
  pub places : KeepsPlaces (every_told (reverse added)) (length (reverse added)) x
