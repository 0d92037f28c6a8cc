-- What the parts of the program stand for.
use Rattle.std.specs.Prelude.{◌≡◌, ℕ, zero, suc, ◌+◌, ◌*◌, ◌/◌, ◌%◌, ◌^◌, ◌<◌, ◌==◌, List, [], ◌∷◌, map, length, reverse, Option, Some, None, option_and_then, nat_lt, nat_le, slice_index, if◌then◌else◌}
use Rattle.enc_base.specs.declared.token.Token.{Token}
use Rattle.enc_meta.specs.Joined.{joined_user, joined_blob}
use Rattle.enc_opcodes.specs.Body.{Code, Body}
use Rattle.enc_plain.specs.Bodies.{code_loaded, body_loaded}
use Rattle.enc_rows.specs.Source.{Source, raw_in}
use Rattle.enc_schema.specs.declared.column.Column.{Column}
use Rattle.enc_schema.specs.declared.column.Column.TheVariants.{Index, Coded}
use Rattle.enc_schema.specs.Coding.{decoded}
use Rattle.enc_plain.specs.Reading.{index_token}
use Rattle.enc_plain.specs.Module.{Module, rows_in}
use Rattle.enc_plain.specs.Chain.{Chain}
use Rattle.enc_image.specs.Base.{cells_fault}
use Rattle.enc_delta.specs.Delta.{listed, place_in}
use Rattle.enc_delta.specs.Rules.{own_guid}
use Rattle.enc_meta.specs.Joined.{joined_lengths}
use Rattle.enc_agg.specs.declared.added.Added.{Added}
use Rattle.enc_agg.specs.declared.added.Found.{Found}
use Rattle.enc_agg.specs.declared.place.HeapPlace.{HeapPlace}
use Rattle.enc_agg.specs.Extend.{extended, chain_with}
use Rattle.enc_agg.specs.Follows.{Follows}
use Rattle.enc_agg.specs.Place.{delta_at}

-- a base and the deltas that follow it, the newest first, and room for so many more
pub record History : Type 0 where
  pub base : Source
  pub deltas : List Source
  pub room : ℕ

-- their chain, and its module
abbrev pub chain_of_all : History → Chain
chain_of_all h = chain_with h.base h.deltas

abbrev pub module_of_all : History → Module
module_of_all h = (chain_of_all h).plain

abbrev pub sources : List Added → List Source
sources added = map (λ (a : Added). a.delta) added

-- the delta follows the chain; the lengths of the heaps before it; its EncId; and the rows of each table after it
pub record IsAdded (c : Chain) (a : Added) : Type 0 where
  pub follows : Follows c a.delta
  pub before : a.before ≡ joined_lengths c.heaps
  pub id : a.id ≡ own_guid c a.delta 3
  pub counts : (t : ℕ) → t < 64 → slice_index a.counts.rows t ≡ length (rows_in (extended c a.delta).plain t)

-- so it is of all, the newest first
unfoldable pub AllAdded : Source → List Added → Type 0
AllAdded base [] = Unit {0}
AllAdded base (a ∷ older) = IsAdded (chain_with base (sources older)) a × AllAdded base older

-- nothing in the base is refused, and each delta follows those before it
pub record IsAggregate (base : Source) (added : List Added) : Type 0 where
  pub sound : cells_fault base ≡ None
  pub all : AllAdded base added

-- the newest of the deltas that lists a token, with those before it, and the token's position there
abbrev pub found_or : List Added → Option ℕ → Option (List Added × ℕ) → Option (List Added × ℕ)
found_or added (Some row) older = Some (added, row)
found_or added None older = older

unfoldable pub found_in : List Added → Token → Option (List Added × ℕ)
found_in [] token = None
found_in (a ∷ older) token = found_or (a ∷ older) (place_in (listed a.delta) token) (found_in older token)

abbrev pub found_seen : Found → List Added × ℕ
found_seen f = (reverse f.upto.now, f.row)

-- the number in a column of a row of the newest of some deltas
abbrev pub newest_number : List Added → Token → ℕ → ℕ
newest_number [] row column = 0
newest_number (a ∷ older) row column = raw_in a.delta row column

-- the parts of the body at a place of the newest delta's code
abbrev pub code_in : List Added → ℕ → Option Code
code_in [] n = None
code_in (a ∷ older) n = code_loaded a.delta.loaded n

-- the token that a number stands for in a column of an index; None for a tag of no table, and in other columns
abbrev pub token_meant : Option Column → ℕ → Option Token
token_meant (Some (Index table)) n = Some (index_token table n)
token_meant (Some (Coded kind)) n = decoded kind n
token_meant _ n = None

-- how many rows a table has, by the numbers of those of the first 64; others have none
abbrev pub rows_counted : List ℕ → ℕ → ℕ
rows_counted counts table = if nat_lt table 64 then slice_index counts table else 0

-- the user texts of all
abbrev pub users_of_all : History → ℕ → Option (List ℕ)
users_of_all h = joined_user (chain_of_all h).heaps

-- the blob at each offset of all
abbrev pub blob_of_all : History → ℕ → Option (List ℕ)
blob_of_all h = joined_blob (chain_of_all h).heaps

-- the file of a generation: the base's, or its delta's
abbrev pub file_of : History → ℕ → Option Source
file_of h zero = Some h.base
file_of h (suc n) = delta_at h.deltas (suc n)

-- the number of a place among those of all files: the generation stands above 32 bits for the place in that
-- generation's file, of which 0 is none
abbrev pub place_of_all : ℕ → ℕ → ℕ
place_of_all generation n = if n == 0 then 0 else generation * 2 ^ 32 + n

-- the body at a place of all, with these user texts
unfoldable pub body_with : (ℕ → Option (List ℕ)) → History → ℕ → Option Body
body_with texts h n = option_and_then (λ (s : Source). body_loaded s.loaded texts (n % 2 ^ 32)) (file_of h (n / 2 ^ 32))

-- with those of all
abbrev pub body_of_all : History → ℕ → Option Body
body_of_all h = body_with (users_of_all h) h

-- the place of an offset in a generation's own heap
abbrev pub own_place : List ℕ → ℕ → ℕ → Option HeapPlace
own_place heap generation offset =
    if nat_lt offset (length heap) then Some (record { generation = generation; offset = offset }) else None

-- and of entry k of its `#GUID`
abbrev pub own_guid_place : List ℕ → ℕ → ℕ → Option HeapPlace
own_guid_place heap generation zero = None
own_guid_place heap generation (suc k) =
    if nat_le (16 * suc k) (length heap) then Some (record { generation = generation; offset = suc k }) else None
