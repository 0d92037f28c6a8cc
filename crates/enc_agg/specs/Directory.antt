-- For the contracts of private functions: what is kept of the deltas for look-ups.
use Rattle.std.specs.Prelude.{◌≡◌, ℕ, zero, suc, ◌+◌, ◌-◌, ◌<◌, ◌≤◌, List, [], ◌∷◌, ◌++◌, length, Option, Some, None, option_map, unwrap_or, slice_get, IsTrue}
use Rattle.enc_base.specs.declared.token.Token.{Token}
use Rattle.enc_key_map.specs.declared.key.Key.{Key}
use Rattle.enc_key_map.specs.Index.{value_at, latest}
use Rattle.enc_rows.specs.Source.{Source}
use Rattle.enc_schema.specs.Children.{is_child_table, owner_table}
use Rattle.enc_plain.specs.Chain.{Chain}
use Rattle.enc_plain.specs.Module.{rows_in, owner_of, kids_of}
use Rattle.enc_plain.specs.declared.place.RowPlace.{RowPlace}
use Rattle.enc_delta.specs.Delta.{listed, place_in}
use Rattle.enc_agg.specs.declared.added.Added.{Added}
use Rattle.enc_agg.specs.declared.directory.Directory.{Directory}
use Rattle.enc_agg.specs.declared.directory.Entries.{Entries}
use Rattle.enc_agg.specs.declared.entries.Gained.{Gained}
use Rattle.enc_agg.specs.declared.kept.Kept.{Kept}
use Rattle.enc_agg.specs.Extend.{extended, chain_with}
use Rattle.enc_agg.specs.Seen.{sources, found_in}

-- the key of a row, and that of one of a row's children in a child table
abbrev pub row_key : Token → Key
row_key row = record { table = row.table; row = row.row; place = 0 }

abbrev pub kids_key : ℕ → Token → ℕ → Key
kids_key table owner place = record { table = table; row = owner.row; place = place }

-- where what was found stands
abbrev pub place_seen : List Added × ℕ → RowPlace
place_seen f = record { generation = length f.0; row = f.1 }

-- the values that entries give keys are those that an index has
abbrev pub IsSame : {V : Type 0} → Kept V → Type 0
IsSame k = (q : Key) → value_at k.own q ≡ latest k.entries.items q

pub record AreAsOwn (g : Gained) : Type 0 where
  pub owners : IsSame g.owners
  pub counts : IsSame g.counts
  pub kids : IsSame g.kids

-- nothing is kept
pub record IsBare (x : Directory) : Type 0 where
  pub no_place : (q : Key) → value_at x.places q ≡ None
  pub no_owner : (q : Key) → value_at x.owners q ≡ None
  pub no_count : (q : Key) → value_at x.counts q ≡ None
  pub no_kid : (q : Key) → value_at x.kids q ≡ None

-- each row that a delta lists has its newest place
abbrev pub HasPlaces : List Added → Directory → Type 0
HasPlaces added x = (u : Token) → value_at x.places (row_key u) ≡ option_map place_seen (found_in added u)

-- of some children the first are known elsewhere; how many there are, where there are more, and the others by their
-- places
pub record IsHeld (kids : List ℕ) (first : ℕ) (count : Option ℕ) (kid : ℕ → Option ℕ) : Type 0 where
  pub low : first ≤ length kids
  pub many : unwrap_or count first ≡ length kids
  pub old : (i : ℕ) → i < first → kid i ≡ None
  pub new : (i : ℕ) → first ≤ i → i < length kids → kid i ≡ slice_get kids i

-- the children from a place on, as far as they are kept
abbrev pub kept_one : Option ℕ → List ℕ
kept_one None = []
kept_one (Some row) = row ∷ []

unfoldable pub kids_kept : (ℕ → Option ℕ) → ℕ → ℕ → List ℕ
kids_kept kid at zero = []
kids_kept kid at (suc n) = kids_kept kid at n ++ kept_one (kid (at + n))

-- the children of a row of which the first are known elsewhere
abbrev pub with_kept : List ℕ → Option ℕ → (ℕ → Option ℕ) → List ℕ
with_kept first count kid = first ++ kids_kept kid (length first) (unwrap_or count (length first) - length first)

-- child rows past those of an earlier chain have their owners
pub record AreOwned (before after : Chain) (owner : Token → Option Token) : Type 0 where
  pub old : (u : Token) → IsTrue (is_child_table u.table) → u.row ≤ length (rows_in before.plain u.table)
      → owner u ≡ None
  pub new : (u : Token) → IsTrue (is_child_table u.table) → length (rows_in before.plain u.table) < u.row
      → u.row ≤ length (rows_in after.plain u.table)
      → owner u ≡ owner_of after.plain u

-- the children past those in an earlier chain are held
abbrev pub AreHeld : Chain → Chain → (Key → Option ℕ) → (Key → Option ℕ) → Type 0
AreHeld before after count kid =
    (u : Token) (t : ℕ) → IsTrue (is_child_table t) → u.table ≡ owner_table t
    → IsHeld (kids_of after.plain u t) (length (kids_of before.plain u t)) (count (kids_key t u 0))
    (λ i. kid (kids_key t u i))

-- what is kept of the deltas, the newest first
pub record IsDirectory (base : Source) (added : List Added) (x : Directory) : Type 0 where
  pub places : HasPlaces added x
  pub owners : AreOwned (chain_with base []) (chain_with base (sources added)) (λ u. value_at x.owners (row_key u))
  pub kids : AreHeld (chain_with base []) (chain_with base (sources added)) (value_at x.counts) (value_at x.kids)

-- what a delta brings after a chain, by its keys
pub record IsOfDelta (c : Chain) (d : Source) (place : Key → Option RowPlace) (owner : Key → Option Token)
    (count kid : Key → Option ℕ) : Type 0 where
  pub places : (u : Token) → place (row_key u)
      ≡ option_map (λ (k : ℕ). record { generation = length c.ids + 1; row = k }) (place_in (listed d) u)
  pub owners : AreOwned c (extended c d) (λ u. owner (row_key u))
  pub kids : AreHeld c (extended c d) count kid

-- entries bring it, and a directory of the delta alone has it
abbrev pub AreBrought : Chain → Source → Entries → Type 0
AreBrought c d e = IsOfDelta c d (latest e.places.items) (latest e.owners.items) (latest e.counts.items)
    (latest e.kids.items)

abbrev pub IsOwn : Chain → Source → Directory → Type 0
IsOwn c d x = IsOfDelta c d (value_at x.places) (value_at x.owners) (value_at x.counts) (value_at x.kids)
