-- An aggregate as it was after its first deltas.
use Rattle.std.specs.Prelude.{◌≡◌, ℕ, ◌-◌, ◌<◌, ◌≤◌, List, length, drop, Some, slice_get, IsTrue}
use Rattle.enc_base.specs.declared.token.Token.{Token}
use Rattle.enc_rows.specs.Source.{Source}
use Rattle.enc_schema.specs.Children.{is_child_table}
use Rattle.enc_plain.specs.Module.{Module, rows_in, has_row, owner_of, kids_of}
use Rattle.enc_plain.specs.Sound.{IsSound}
use Rattle.enc_agg.specs.declared.added.Added.{Added}
use Rattle.enc_generation_map.specs.declared.places.Places.{Places}
use Rattle.enc_generation_map.specs.Places.{KeepsPlaces}
use Rattle.enc_agg.specs.Extend.{chain_with}
use Rattle.enc_agg.specs.Places.{every_place}
use Rattle.enc_agg.specs.Seen.{History, sources, module_of_all, IsAggregate}

-- the base with so many deltas, the first of all; it has no room for others
abbrev pub earlier_of : ℕ → History → History
earlier_of generation h = record { base = h.base; deltas = drop (length h.deltas - generation) h.deltas; room = 0 }

-- of some numbers the first are these, all up to a number; the others are past it
pub record ComeFirst (first all : List ℕ) (last : ℕ) : Type 0 where
  pub few : length first ≤ length all
  pub same : (i : ℕ) → i < length first → slice_get all i ≡ slice_get first i
  pub low : (i x : ℕ) → i < length first → slice_get all i ≡ Some x → x ≤ last
  pub high : (i x : ℕ) → length first ≤ i → slice_get all i ≡ Some x → last < x

-- a later module has the rows of an earlier one, with the owners that they had; the rows of one's children come
-- first, and the others are new
pub record StayChildren (before after : Module) : Type 0 where
  pub rows : (u : Token) → IsTrue (has_row before u) → IsTrue (has_row after u)
  pub owners : (u : Token) → IsTrue (is_child_table u.table) → IsTrue (has_row before u)
      → owner_of after u ≡ owner_of before u
  pub kids : (u : Token) (t : ℕ) → IsTrue (is_child_table t)
      → ComeFirst (kids_of before u t) (kids_of after u t) (length (rows_in before t))

-- the first deltas of an aggregate, the newest first, with what is kept of all
pub record IsEarlier (base : Source) (added : List Added) (x : Places) (whole : History) : Type 0 where
  pub deltas : IsAggregate base added
  pub sound : IsSound (chain_with base (sources added)).plain
  pub places : KeepsPlaces (every_place (sources added)) (length (sources added)) x
  pub children : StayChildren (chain_with base (sources added)).plain (module_of_all whole)
