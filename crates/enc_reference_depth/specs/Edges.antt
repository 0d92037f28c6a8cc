-- For the contracts of private functions: the tokens from which depths count, and depths by the places of rows.
use Rattle.std.specs.Prelude.{◌≡◌, ℕ, ◌+◌, ◌-◌, ◌<◌, ◌≤◌, ◌^◌, ◌==◌, ◌||◌, Bool, false, List, [], ◌∷◌, ◌++◌, length, slice_index, max, nat_lt, Option, Some, None, if◌then◌else◌}
use Rattle.enc_base.specs.Token.{nth_row}
use Rattle.enc_base.specs.declared.token.Token.{Token}
use Rattle.enc_sigs.specs.Grammar.{is_coded, sig_in}
use Rattle.enc_sigs.specs.Tree.{Forest, none, more, trees}
use Rattle.enc_sigs.specs.declared.kind.SigKind.TheVariants.{TypeSpec}
use Rattle.enc_plain.specs.Module.{Module, cells_of}
use Rattle.enc_plain.specs.Rows.{Rows, bytes_at, token_at}
use Rattle.enc_plain.specs.Sound.{row_count}
use Rattle.enc_base.specs.Tables as tables
use Rattle.enc_schema.specs.Columns as columns
use Rattle.enc_reference_depth.specs.Depth.{deepest_in, depth_within, most_depth}
use Rattle.enc_reference_depth.specs.declared.edges.Edge.{Edge}

-- the rows of these tables have a depth
abbrev pub has_depth : Token → Bool
has_depth t = t.table == tables.type_ref || t.table == tables.type_spec

-- what counts from a token at a place, nothing where it has no depth
abbrev pub edge_of : ℕ → Token → List Edge
edge_of place t = if has_depth t then (record { place = place; token = t }) ∷ [] else []

-- what counts from the tokens in types
abbrev pub edges_in : ℕ → Forest → List Edge
edges_in place none = []
edges_in place (more e t n k r) = edge_of place t ++ (edges_in place k ++ edges_in place r)

-- few types stand in each of these
abbrev pub AreFew : Forest → Type 0
AreFew none = Unit {0}
AreFew (more e t n k r) = (length (trees k) < 2 ^ 30) × (AreFew k) × (AreFew r)

-- the greatest depth that counts from these at a place, 0 where none does
abbrev pub greatest : (Token → ℕ) → ℕ → List Edge → ℕ
greatest depth place [] = 0
greatest depth place (e ∷ es) =
    if e.place == place then max (1 + depth e.token) (greatest depth place es) else greatest depth place es

-- the rows by their places: those of TypeRef, and behind them those of TypeSpec
abbrev pub row_at_place : Module → ℕ → Token
row_at_place m k = if nat_lt k (row_count m tables.type_ref) then nth_row tables.type_ref k
    else nth_row tables.type_spec (k - row_count m tables.type_ref)

-- the depth of a TypeRef or a TypeSpec by those of the tokens from which it counts
unfoldable pub depth_from : Rows → (Token → ℕ) → Token → ℕ
depth_from rows depth t =
    if t.table == tables.type_ref then 1 + depth (token_at rows t columns.type_ref_resolution_scope)
    else 1 + deepest_in depth (sig_in is_coded TypeSpec (bytes_at rows t columns.type_spec_signature))

-- other tokens have no depth
pub record IsFlat (depth : Token → ℕ) : Type 0 where
  pub others : (t : Token) → has_depth t ≡ false → depth t ≡ 0

-- these tell the depths of the first n rows, and of no others
pub record TellDepths (m : Module) (n : ℕ) (edges : List Edge) (depth : Token → ℕ) : Type 0 where
  pub upto : (k : ℕ) → k < n → max 1 (greatest depth k edges) ≡ depth_from (cells_of m) depth (row_at_place m k)
  pub beyond : (k : ℕ) → n ≤ k → greatest depth k edges ≡ 0

pub record AreEdges (m : Module) (n : ℕ) (edges : List Edge) : Type 0 where
  pub each : (depth : Token → ℕ) → IsFlat depth → TellDepths m n edges depth

-- how many rows have a depth
abbrev pub deep_count : Module → ℕ
deep_count m = row_count m tables.type_ref + row_count m tables.type_spec

-- the depth that stands at a token's place, where so many rows are of TypeRef
unfoldable pub depth_in : ℕ → List ℕ → Token → ℕ
depth_in refs depths t =
    if t.row == 0 then 0
    else if t.table == tables.type_ref then slice_index depths (t.row - 1)
    else if t.table == tables.type_spec then slice_index depths (refs + t.row - 1)
    else 0

-- depths that are counted by walks of at most so many steps
pub record AreDepths (m : Module) (steps : ℕ) (depths : List ℕ) : Type 0 where
  pub count : length depths ≡ deep_count m
  pub each : (k : ℕ) → k < deep_count m → slice_index depths k ≡ depth_within (cells_of m) steps (row_at_place m k)

-- no depth is above 100
abbrev pub AreLow : List ℕ → Type 0
AreLow depths = (k : ℕ) → slice_index depths k ≤ most_depth

-- depths that are one step more
pub record AreNext (edges : List Edge) (refs : ℕ) (depths next : List ℕ) : Type 0 where
  pub count : length next ≡ length depths
  pub each : (k : ℕ) → k < length depths → slice_index next k ≡ max 1 (greatest (depth_in refs depths) k edges)

-- the same list but for one place, where the greater stands
pub record IsRaised (place depth : ℕ) (old new : List ℕ) : Type 0 where
  pub count : length new ≡ length old
  pub each : (k : ℕ) → k < length old
      → slice_index new k ≡ (if place == k then max depth (slice_index old k) else slice_index old k)

-- the n-th row of a table, n from 0, where its depth isn't below 100
unfoldable pub deep_row : List ℕ → ℕ → ℕ → ℕ → Option Token
deep_row depths first table n =
    if nat_lt (slice_index depths (first + n)) most_depth then None else Some (nth_row table n)
