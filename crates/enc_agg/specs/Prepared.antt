-- What an aggregate keeps, and what was made ready for it.
use Rattle.std.specs.Prelude.{ℕ, suc, List, length, drop}
use Rattle.enc_generation_map.specs.declared.places.Places.{Places}
use Rattle.enc_generation_map.specs.Places.{KeepsAllPlaces, AreListings}
use Rattle.enc_rows.specs.Source.{Source}
use Rattle.enc_plain.specs.Sound.{IsSound}
use Rattle.enc_delta.specs.Delta.{listed}
use Rattle.enc_agg.specs.declared.added.Added.{Added}
use Rattle.enc_agg.specs.declared.aggregate.Ready.{Ready}
use Rattle.enc_agg.specs.declared.directory.Directory.{Directory}
use Rattle.enc_agg.specs.Extend.{extended, chain_with}
use Rattle.enc_agg.specs.Seen.{sources, IsAdded, IsAggregate}
use Rattle.enc_agg.specs.Directory.{IsDirectory, AreBrought, IsOwn}
use Rattle.enc_agg.specs.Places.{every_place, place_listed}

-- the deltas follow the base, the directory and the places are those of them, and the module is sound after each of
-- them
pub record IsWhole (base : Source) (added : List Added) (x : Directory) (p : Places) : Type 0 where
  pub deltas : IsAggregate base added
  pub directory : IsDirectory base added x
  pub places : KeepsAllPlaces (every_place (sources added)) (length (sources added)) p
  pub sound : (newer : ℕ) → IsSound (chain_with base (sources (drop newer added))).plain

-- what is kept of a delta that was made ready
abbrev pub to_add : Ready → Added
to_add r = record { delta = r.delta; before = r.before; id = r.id; counts = r.counts }

-- it was prepared from this base with these deltas, the newest first, and leaves their chain sound
unfoldable pub IsPrepared : Source → List Source → Ready → Type 0
IsPrepared base deltas r = record {
  added : IsAdded (chain_with base deltas) (to_add r);
  entries : AreBrought (chain_with base deltas) r.delta r.entries;
  own : IsOwn (chain_with base deltas) r.delta r.own;
  listings : AreListings (every_place deltas) (place_listed (suc (length deltas)) (listed r.delta)) r.listings;
  sound : IsSound (extended (chain_with base deltas) r.delta).plain;
}
