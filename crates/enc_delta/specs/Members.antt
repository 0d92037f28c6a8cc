-- For the contracts of private functions: how twins are looked for: among the members of all owners, by numbers that
-- twins have in common.
use Rattle.std.specs.Prelude.{◌≡◌, ℕ, zero, suc, ◌+◌, ◌-◌, ◌<◌, Bool, true, false, not, ◌&&◌, ◌||◌, ◌==◌, nat_lt, List, [], ◌∷◌, ◌++◌, length, slice_index_or, Option, Some, None, if◌then◌else◌, IsTrue}
use Rattle.std.specs.List.{list_any, list_all}
use Rattle.enc_base.specs.Token.{is_token, number_of}
use Rattle.enc_base.specs.declared.token.Token.{Token}
use Rattle.enc_sigs.specs.Mix.{mixed, mixed_ends, finished}
use Rattle.enc_sigs.specs.declared.mix.Mix.{Mix}
use Rattle.enc_schema.specs.Children.{is_child_table}
use Rattle.enc_base.specs.Tables as tables
use Rattle.enc_plain.specs.Module.{Module, kids_of}
use Rattle.enc_plain.specs.Apply.{Attached}
use Rattle.enc_delta.specs.declared.pairs.Pair.{Pair}
use Rattle.enc_delta.specs.declared.shared.Keyed.{Keyed}
use Rattle.enc_delta.specs.declared.log_entry.LogEntry.{LogEntry}
use Rattle.enc_delta.specs.Cuts.{is_number_of}
use Rattle.enc_delta.specs.Rules.{is_add}
use Rattle.enc_delta.specs.Twins.{Asked, is_twin}

abbrev pub pair_seen : Pair → Attached
pair_seen p = record { owner = p.owner; child = p.child }

-- what an entry that counts gains by the last one before it
abbrev pub pair_behind : Option LogEntry → LogEntry → List Pair
pair_behind None f = []
pair_behind (Some e) f = if is_add e.operation then record { owner = e.token; child = f.token } ∷ [] else []

-- the children have one owner and one table
abbrev pub is_beside : Pair → Pair → Bool
is_beside a k = is_token k.owner a.owner && k.child.table == a.child.table

abbrev pub beside_last : Option Pair → Pair → Bool
beside_last None a = false
beside_last (Some k) a = is_beside a k

-- a row's pair beside another
abbrev pub row_beside : Pair → ℕ → Pair
row_beside a row = record { owner = a.owner; child = record { table = a.child.table; row = row } }

-- the rows of the old members beside a pair
unfoldable pub old_rows : Module → Pair → List ℕ
old_rows m a = if is_child_table a.child.table then kids_of m a.owner a.child.table else []

-- the child of another pair is a twin
abbrev pub is_twin_row : Asked → Pair → ℕ → Bool
is_twin_row q a row = is_twin q a.child (record { table = a.child.table; row = row })

abbrev pub is_twin_beside : Asked → Pair → Pair → Bool
is_twin_beside q a k = is_beside a k && is_twin_row q a k.child.row

-- the tables of members: Field, MethodDef, Event, Property (ECMA-335 II.22.15, II.22.26, II.22.13, II.22.34)
abbrev pub is_member_table : ℕ → Bool
is_member_table table = table == tables.field || table == tables.method_def || table == tables.event
    || table == tables.property

-- those that count are rows of these
abbrev pub AreInMemberTables : Asked → Type 0
AreInMemberTables q = (t : Token) → q.counts t ≡ true → is_member_table t.table ≡ true

-- members with alike signatures have one key
abbrev pub AlikeHaveOneKey : Asked → (Token → ℕ) → Type 0
AlikeHaveOneKey q keys = (t u : Token) → q.counts t ≡ true → q.counts u ≡ true → t.table ≡ u.table → q.alike t u ≡ true
    → keys t ≡ keys u

-- what the numbers of the members of a pair's owner in its child's table begin with
unfoldable pub owner_key : Pair → Mix
owner_key k = record { high = k.child.table; low = k.owner.row }

-- of its owner, its table and its child's name, with up to 32 bytes at either end
unfoldable pub name_key : Asked → Pair → ℕ
name_key q k = finished (mixed_ends 32 (owner_key k) (q.name k.child))

-- of its owner, its table, its child's name with up to 2,048 bytes at either end, and the key of its signature
unfoldable pub twin_key : Asked → (Token → ℕ) → Pair → ℕ
twin_key q keys k = finished (mixed_ends 0x800 (mixed (owner_key k) (keys k.child)) (q.name k.child))

-- a member by its name's key
abbrev pub keyed_by_name : Asked → Bool → Pair → Keyed
keyed_by_name q is_new k = record { key = name_key q k; pair = k; is_new = is_new }

-- a member by a key of its signature too
abbrev pub keyed_by_signature : Asked → (Token → ℕ) → Keyed → Keyed
keyed_by_signature q keys e = record { key = twin_key q keys e.pair; pair = e.pair; is_new = e.is_new }

abbrev pub no_keyed : Keyed
no_keyed = record {
  key = 0;
  pair = record {
    owner = record { table = 0; row = 0 };
    child = record { table = 0; row = 0 };
  };
  is_new = false;
}

-- the k-th of some members
abbrev pub keyed_at : List Keyed → ℕ → Keyed
keyed_at entries k = slice_index_or entries k no_keyed

-- one of some members has a key
abbrev pub has_key : List Keyed → ℕ → Bool
has_key entries key = is_number_of (λ (e : Keyed). e.key) entries key

-- the child is of a table of members, and one of some members has its name's key
abbrev pub is_namesake : Asked → List Keyed → Pair → Bool
is_namesake q entries k = is_member_table k.child.table && has_key entries (name_key q k)

-- the one before or the one behind has the same key
unfoldable pub has_neighbour : List Keyed → ℕ → Bool
has_neighbour entries k =
    nat_lt 0 k && (keyed_at entries (k - 1)).key == (keyed_at entries k).key
    || nat_lt (k + 1) (length entries) && (keyed_at entries (k + 1)).key == (keyed_at entries k).key

-- of the first n members those whose neighbour has the same key, told by their signatures too
unfoldable pub near_told : Asked → (Token → ℕ) → List Keyed → ℕ → List Keyed
near_told q keys entries zero = []
near_told q keys entries (suc n) = near_told q keys entries n
    ++ (if has_neighbour entries n then keyed_by_signature q keys (keyed_at entries n) ∷ [] else [])

-- the member doesn't count, or has another key than its pair, or is new and past the rows that there can be
abbrev pub is_other : Asked → (Pair → ℕ) → Keyed → Bool
is_other q key e = not (q.counts e.pair.child && e.key == key e.pair
    && (not e.is_new || nat_lt e.pair.child.row 0x1000000))

-- all count, each with its pair's key
abbrev pub AreKeyed : Asked → (Pair → ℕ) → List Keyed → Type 0
AreKeyed q key entries = list_any (is_other q key) entries ≡ false

-- a twin of a member is among some
abbrev pub is_twin_of : Asked → Keyed → Keyed → Bool
is_twin_of q e k = is_twin_beside q e.pair k.pair

abbrev pub has_twin_among : Asked → List Keyed → Keyed → Bool
has_twin_among q entries e = list_any (is_twin_of q e) entries

-- a new member with a twin among some
abbrev pub is_new_twin : Asked → List Keyed → Keyed → Bool
is_new_twin q entries e = e.is_new && has_twin_among q entries e

abbrev pub keyed_number : Keyed → ℕ
keyed_number e = number_of e.pair.child

-- a twin of the k-th stands behind it, or none does; and the same before it
abbrev pub IsTwinBehind : Asked → List Keyed → ℕ → Bool → Type 0
IsTwinBehind q entries k true = has_twin_among q entries (keyed_at entries k) ≡ true
IsTwinBehind q entries k false =
    (l : ℕ) → k < l → l < length entries → is_twin_of q (keyed_at entries k) (keyed_at entries l) ≡ false

abbrev pub IsTwinBefore : Asked → List Keyed → ℕ → Bool → Type 0
IsTwinBefore q entries k true = has_twin_among q entries (keyed_at entries k) ≡ true
IsTwinBefore q entries k false = (l : ℕ) → l < k → is_twin_of q (keyed_at entries k) (keyed_at entries l) ≡ false

-- the same members in another order
abbrev pub AreSame : List Keyed → List Keyed → Type 0
AreSame before after = (f : Keyed → Bool) → list_any f after ≡ list_any f before

-- a test of what stands beside a pair, by its row
abbrev pub row_passes : Pair → (ℕ → Bool) → Pair → Bool
row_passes a p k = is_beside a k && p k.child.row

-- the old members beside some pairs were added to others
abbrev pub AreAdded : Module → List Pair → List Pair → List Pair → Type 0
AreAdded m before pairs all =
    (a : Pair) (p : ℕ → Bool) → is_child_table a.child.table ≡ true
    → list_any (row_passes a p) all ≡ (list_any (row_passes a p) before
    || (list_any (is_beside a) pairs && list_any p (kids_of m a.owner a.child.table)))

-- the old members beside those of some pairs whose children count
abbrev pub AreOld : Asked → Module → List Pair → List Pair → Type 0
AreOld q m pairs old =
    (a : Pair) (p : ℕ → Bool) → is_child_table a.child.table ≡ true
    → list_any (row_passes a p) old
    ≡ (list_any (λ k. q.counts k.child && is_beside a k) pairs && list_any p (kids_of m a.owner a.child.table))

-- each owner and child is a token by its number
abbrev pub ArePairs : List Pair → Type 0
ArePairs pairs = IsTrue (list_all (λ (k : Pair). nat_lt k.owner.row 0x1000000 && nat_lt k.child.row 0x1000000) pairs)

-- those that count are rows of child tables
abbrev pub AreChildren : Asked → List Pair → Type 0
AreChildren q pairs = IsTrue (list_all (λ (k : Pair). not (q.counts k.child) || is_child_table k.child.table) pairs)
