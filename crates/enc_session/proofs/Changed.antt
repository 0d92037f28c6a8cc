-- An accepted delta changes a module by the rows that it lists.
use Rattle.std.proofs.Common.{◌≡◌, ◌<◌, ◌≤◌, ℕ, zero, suc, ◌-◌, Bool, true, false, List, [], ◌∷◌, ◌++◌, map, length, Option, Some, None, option_map, slice_get, refl, ap, arith}
use Rattle.std.specs.Prelude.{◌&&◌, ◌==◌, cond, filter, nat_lt, nat_le, IsTrue}
use Rattle.std.specs.List.{list_all}
use Rattle.std.proofs.lemmas.Bool.{eqb-true}
use Rattle.std.proofs.lemmas.Bool.Decides.{nat_tests}
use Rattle.enc_base.specs.Token.{is_token}
use Rattle.enc_base.specs.declared.token.Token.{Token}
use Rattle.enc_plain.specs.Apply.{Attached, gained}
use Rattle.enc_plain.specs.Cell.{Cell}
use Rattle.enc_plain.specs.Chain.{Chain, rows_before}
use Rattle.enc_plain.specs.Fits.{Fits}
use Rattle.enc_plain.specs.Module.{Row, rows_in, row_at, row_of, has_row, kids_of}
use Rattle.enc_plain.specs.Sound.{IsSound}
use Rattle.enc_rows.specs.Source.{Source}
use Rattle.enc_schema.specs.Children.{is_child_table}
use Rattle.enc_delta.specs.Delta.{listed, of_table, place_in}
use Rattle.enc_delta.specs.Judged.{first_meta}
use Rattle.enc_delta.specs.Pairs.{attached_of}
use Rattle.enc_delta.specs.Rules.{rows_with}
use Rattle.enc_delta.specs.Seen.{WasRead}
use Rattle.enc_delta.proofs.Placing.{place_there}
use Rattle.enc_dispatch.specs.Changed.{AreNew}
use Rattle.enc_agg.specs.Extend.{changes_of, extended}
use Rattle.enc_agg.specs.Follows.{Follows}
use Rattle.enc_agg.proofs.Children.{pairs_owned, kids_after, rows_grow}
use Rattle.enc_agg.proofs.Fitting.{fits, count_is}
use Rattle.enc_agg.proofs.Pairs.{OwnedBy, AllOwned}
use Rattle.enc_agg.proofs.SoundDeltas.{delta_bytes, bytes_follow}
use Rattle.enc_agg.proofs.Viewing.{listed_cells, other_cells, kept_row}
use Rattle.enc_checker.specs.Check.{new_bodies}
use Rattle.enc_versions.specs.Commit.{is_method_token}
use Rattle.enc_session.proofs.Brought.{stands, both_ways, kept_one, one_kept, or_right}
use Rattle.enc_session.proofs.ListedBodies.{IsNew, is_new}
use Rattle.enc_session.specs.Codes.{AcceptedRowsAreChanged}

-- what is known of a delta that is accepted
record Known (c : Chain) (d : Source) : Type 0 where
  follows : Follows c d
  sound : IsSound c.plain
  fit : Fits c.plain (changes_of c d)

known : (c : Chain) (d : Source) → WasRead d → first_meta c d ≡ None → IsSound c.plain → Known c d
known c d was rules sound =
    let follows = bytes_follow c d (delta_bytes was.metadata was.il d was.bytes was.code was.read) rules in
    record { follows = follows; sound = sound; fit = fits c d sound.owners.tables follows.lands }

-- one that has a place in a list is one of it
all_of : (ts : List Token) → filter (λ (t : Token). true) ts ≡ ts
all_of [] = refl
all_of (t ∷ ts) = ap (λ (xs : List Token). t ∷ xs) (all_of ts)

pub at_stands : (u : Token) (ts : List Token) (i : ℕ) → slice_get ts i ≡ Some u → stands u ts ≡ true
at_stands u ts i is = let h = one_kept (λ (t : Token). true) u ts i is refl in rw (all_of ts) at h

out_of : (u : Token) (ts : List Token) (o : Option ℕ) → place_in ts u ≡ o → stands u ts ≡ false → o ≡ None
out_of u ts None e out = refl
out_of u ts (Some k) e out =
    let there = at_stands u (of_table u.table ts) (k - 1) (place_there ts u k e).1 in
    absurd (both_ways (stands u ts) (kept_one (λ (t : Token). t.table == u.table) u ts there).1 out)

-- a new row is listed
new_listed : (c : Chain) (d : Source) (u : Token) (b : Bool) → Known c d → stands u (listed d) ≡ b → has_row (extended c d).plain u ≡ true
    → has_row c.plain u ≡ false → b ≡ true
new_listed c d u true k e there before = refl
new_listed c d u false k e there before =
    absurd (both_ways (has_row c.plain u) (kept_row c d u k.fit (out_of u (listed d) (place_in (listed d) u) refl e) there) before)

-- a row that a row gains is behind those that were there, and within those that are
both : (a b : Bool) → (a && b) ≡ true → b ≡ true
both true b h = h
both false b h = absurd cc

gained_one : (count before : ℕ → ℕ) (table : ℕ) (u : Token) (a : Attached) (pairs : List Attached) (b : Bool) (i row : ℕ)
    → (is_token a.owner u && a.child.table == table) ≡ b → OwnedBy count before a
    → ((j : ℕ) → slice_get (gained pairs u table) j ≡ Some row → (before table < row) × (row ≤ count table))
    → slice_get (map (λ (x : Attached). x.child.row) (cond b (a ∷ filter (λ (x : Attached). is_token x.owner u && x.child.table == table) pairs) (filter (λ (x : Attached). is_token x.owner u && x.child.table == table) pairs))) i ≡ Some row
    → (before table < row) × (row ≤ count table)
gained_one count before table u a pairs false i row e own later h = later i h
gained_one count before table u a pairs true zero row e own later h =
    let same : a.child.table ≡ table = eqb-true a.child.table table (both (is_token a.owner u) (a.child.table == table) e) in
    let is : a.child.row ≡ row = cc in
    let low : before table < row = rw (← same, ← is) own.new in
    let high : row ≤ count table = rw (← same, ← is) own.last in
    (low, high)
gained_one count before table u a pairs true (suc i) row e own later h = later i h

gained_rows : (count before : ℕ → ℕ) (table : ℕ) (u : Token) (pairs : List Attached) → AllOwned count before pairs → (i row : ℕ)
    → slice_get (gained pairs u table) i ≡ Some row → (before table < row) × (row ≤ count table)
gained_rows count before table u [] all i row h = absurd cc
gained_rows count before table u (a ∷ pairs) all i row h =
    gained_one count before table u a pairs (is_token a.owner u && a.child.table == table) i row refl all.0 (λ j there. gained_rows count before table u pairs all.1 j row there) h

row_there : (rows : List Row) (row : ℕ) → 0 < row → row ≤ length rows → (nat_lt 0 row && nat_le row (length rows)) ≡ true
row_there rows row low high = grind (arith, nat_tests, low, high)

row_past : (rows : List Row) (row : ℕ) → length rows < row → (nat_lt 0 row && nat_le row (length rows)) ≡ false
row_past rows row past = grind (arith, nat_tests, past)

is_there : (c : Chain) (d : Source) (table row : ℕ) → Known c d → 0 < row → row ≤ rows_with c (listed d) table
    → has_row (extended c d).plain (record { table = table; row = row }) ≡ true
unfolding has_row
is_there c d table row k low high =
    let count = count_is c d k.sound.owners.tables k.follows.lands table in
    row_there (rows_in (extended c d).plain table) row low (rw count high)

was_not : (c : Chain) (d : Source) (table row : ℕ) → rows_before c table < row → has_row c.plain (record { table = table; row = row }) ≡ false
unfolding has_row
was_not c d table row past = row_past (rows_in c.plain table) row past

gained_new : (c : Chain) (d : Source) (u : Token) (table : ℕ) → Known c d → AreNew c.plain (listed d) table (gained (attached_of d) u table)
gained_new c d u table k i row h =
    let bounds = gained_rows (rows_with c (listed d)) (rows_before c) table u (attached_of d) (pairs_owned c d k.follows.lands) i row h in
    let token : Token = record { table = table; row = row } in
    let there = is_there c d table row k (omega (arith, bounds.0)) bounds.1 in
    (bounds.0, new_listed c d token (stands token (listed d)) k refl there (was_not c d table row bounds.0))

kids_by : (c : Chain) (d : Source) (u : Token) (table : ℕ) (b : Bool) → Known c d → is_child_table table ≡ b
    → (more : List ℕ) × (kids_of (extended c d).plain u table ≡ kids_of c.plain u table ++ more) × AreNew c.plain (listed d) table more
unfolding kids_of
kids_by c d u table true k e =
    (gained (attached_of d) u table, kids_after c d k.sound.owners.tables k.follows.lands k.sound.owners.runs u table e, gained_new c d u table k)
kids_by c d u table false k e = ([], rw e refl, λ i row h. absurd cc)

pub accepted_rows_are_changed : AcceptedRowsAreChanged
accepted_rows_are_changed c d was rules sound =
    let k = known c d was rules sound in
    record {
      counts = λ table. rows_grow c d sound.owners.tables k.follows.lands table;
      same = λ u there out. other_cells c d u k.fit (out_of u (listed d) (place_in (listed d) u) refl out);
      new = λ u there before. new_listed c d u (stands u (listed d)) k refl there before;
      kids = λ u table. kids_by c d u table (is_child_table table) k refl;
    }

-- the methods with new bodies are rows of MethodDef
no_row : (rows : List Row) (row : ℕ) (cells : List Cell) → option_map (λ (r : Row). r.cells) (row_at rows row) ≡ Some cells → nat_lt 0 row ≡ true
no_row rows zero cells h = absurd cc
no_row rows (suc i) cells h = grind (arith, nat_tests)

listed_row : (c : Chain) (d : Source) (u : Token) (n : ℕ) → Known c d → place_in (listed d) u ≡ Some n → nat_lt 0 u.row ≡ true
unfolding row_of
listed_row c d u n k there = no_row (rows_in (extended c d).plain u.table) u.row _ (listed_cells c d u n k.fit there)

is_method : (c : Chain) (d : Source) (u : Token) → Known c d → IsNew d u → is_method_token u ≡ true
is_method c d u k new = rw (new.table, listed_row c d u new.place.0 k new.place.1) refl

all_by : (p : Token → Bool) (ts : List Token) → ((u : Token) → stands u ts ≡ true → p u ≡ true) → list_all p ts ≡ true
all_by p [] each = refl
all_by p (t ∷ ts) each = rw (each t (at_stands t (t ∷ ts) 0 refl), all_by p ts (λ u there. each u (or_right (is_token t u) (stands u ts) there))) refl

pub bodies_are_methods : (c : Chain) (d : Source) → WasRead d → first_meta c d ≡ None → IsSound c.plain → IsTrue (list_all is_method_token (new_bodies d))
bodies_are_methods c d was rules sound =
    let k = known c d was rules sound in
    all_by is_method_token (new_bodies d) (λ u there. is_method c d u k (is_new d u there))
