-- The module with a delta that was made ready: the delta's own rows, and else those before.
use Rattle.std.proofs.Common.{◌≡◌, ℕ, ◌+◌, ◌^◌, ◌<◌, ◌≤◌, true, List, [], ◌∷◌, ◌++◌, length, take, Option, Some, None, refl, sym, ap, subst, ◌∙◌, arith}
use Rattle.std.specs.Prelude.{◌==◌, not, is_some, option_map, unwrap_or, slice_get, IsTrue, IfSome, MatchOption}
use Rattle.std.proofs.lemmas.List.{take_at}
use Rattle.enc_base.specs.declared.token.Token.{Token}
use Rattle.enc_key_map.specs.Index.{value_at}
use Rattle.enc_meta.specs.Joined.{joined_text, joined_blob, joined_user, joined_guid}
use Rattle.enc_opcodes.specs.Body.{code_seen, body_of, texts_are_there, KeepsTexts}
use Rattle.enc_opcodes.specs.declared.code.CodeRef.{CodeRef}
use Rattle.enc_rows.specs.Source.{Source, raw_in}
use Rattle.enc_schema.specs.Children.{is_child_table, owner_table}
use Rattle.enc_schema.specs.Schema.{column_in}
use Rattle.enc_plain.specs.Bodies.{code_loaded, body_loaded}
use Rattle.enc_plain.specs.Cell.{Cell, number, text, blob, guid, refer, body, field, numbers, texts, blobs, guids, references, kind_in}
use Rattle.enc_plain.specs.Chain.{Chain}
use Rattle.enc_plain.proofs.MoreTexts.{texts_more}
use Rattle.enc_plain.specs.Module.{rows_in, has_row, cell_of, owner_of, kids_of}
use Rattle.enc_plain.specs.declared.place.RowPlace.{RowPlace}
use Rattle.enc_delta.specs.Delta.{listed, place_in}
use Rattle.enc_delta.proofs.OneHeapMore.{blob_stays}
use Rattle.enc_agg.specs.declared.aggregate.Ready.{Ready}
use Rattle.enc_agg.specs.Directory.{row_key, kids_key, with_kept}
use Rattle.enc_agg.specs.Extend.{extended, chain_with}
use Rattle.enc_agg.specs.Next.{MayBeNext, with_delta}
use Rattle.enc_agg.specs.Seen.{History, chain_of_all, module_of_all, users_of_all, body_with, body_of_all, place_of_all, file_of, token_meant, rows_counted}
use Rattle.enc_agg.proofs.Asked.{read_as}
use Rattle.enc_agg.proofs.BlobPlaces.{told_by, some_by, matched, base_cell_blob}
use Rattle.enc_agg.proofs.BodyPlaces.{in_place, stands_in_place, own_stands, next_file, place_stays}
use Rattle.enc_agg.proofs.Children.{kids_after, owner_kept}
use Rattle.enc_agg.proofs.Directories.{held_there, kept_kids, new_owner}
use Rattle.enc_agg.proofs.Fitting.{has_tables}
use Rattle.enc_agg.proofs.Histories.{after_few, counted_rows, ids_count, users_stay}
use Rattle.enc_agg.proofs.Paired.{changes_fit, row_kept, cell_kept}
use Rattle.enc_agg.proofs.RowsAndKids.{get_left}
use Rattle.enc_agg.proofs.Viewing.{text_listed, blob_listed, guid_listed, number_listed, refer_listed, body_listed, field_listed, texts_listed}

-- the chain with the delta
abbrev after : History → Ready → Chain
after h r = extended (chain_of_all h) r.delta

-- the heaps with the delta's
pub heaps_next : (c : Chain) (d : Source) → (extended c d).heaps ≡ c.heaps ++ d.heaps ∷ []
unfolding extended
heaps_next c d = refl

-- the place that is kept of a token is that in the delta
pub place_there : (g : ℕ) (o : Option ℕ) (p : RowPlace) → Some p ≡ option_map (λ (k : ℕ). record { generation = g; row = k }) o → Some p.row ≡ o
place_there g None p h = absurd cc
place_there g (Some k) p h = ap (λ (x : Option RowPlace). option_map (λ (y : RowPlace). y.row) x) h

pub place_none : (g : ℕ) (o : Option ℕ) (p : Option RowPlace) → p ≡ option_map (λ (k : ℕ). record { generation = g; row = k }) o → p ≡ None → None ≡ o
place_none g None p h none = refl
place_none g (Some k) p h none = absurd cc

-- rows and cells of other tokens are those before
pub old_row : (h : History) (r : Ready) (u : Token) (o : Option ℕ) → MayBeNext h r → o ≡ place_in (listed r.delta) u → o ≡ None
    → IsTrue (has_row (after h r).plain u) → IsTrue (has_row (module_of_all h) u)
old_row h r u o next is none there = row_kept (chain_of_all h) r.delta u next.owners next.added.follows.lands (sym is ∙ none) there

pub old_cell : (h : History) (r : Ready) (u : Token) (i : ℕ) (cell : Cell) (o : Option ℕ) → MayBeNext h r → o ≡ place_in (listed r.delta) u → o ≡ None
    → cell_of (module_of_all h) u i ≡ Some cell → cell_of (after h r).plain u i ≡ Some cell
old_cell h r u i cell o next is none here = cell_kept (chain_of_all h) r.delta u i cell next.owners next.added.follows.lands (sym is ∙ none) here

-- the cells of the delta's own rows
pub own_number : (h : History) (r : Ready) (u : Token) (k i n : ℕ) (o : Option ℕ) → MayBeNext h r → o ≡ place_in (listed r.delta) u → o ≡ Some k
    → kind_in u.table i ≡ Some numbers → n ≡ raw_in r.delta (record { table = u.table; row = k }) i → cell_of (after h r).plain u i ≡ Some (number n)
own_number h r u k i n o next is some kind raw =
    let lands = next.added.follows.lands in
    number_listed (chain_of_all h) r.delta u k i n lands (changes_fit (chain_of_all h) r.delta next.owners lands) (sym is ∙ some) kind (sym raw)

by_entry : (o p : Option (List ℕ)) (P : List ℕ → Type 0) → o ≡ p → MatchOption p ⊥ P → MatchOption o ⊥ P
by_entry o p P is h = subst (λ x. MatchOption x ⊥ P) (sym is) h

pub own_text : (h : History) (r : Ready) (u : Token) (k i n : ℕ) (o : Option ℕ) (entry : Option (List ℕ)) → MayBeNext h r → o ≡ place_in (listed r.delta) u
    → o ≡ Some k → kind_in u.table i ≡ Some texts → n ≡ raw_in r.delta (record { table = u.table; row = k }) i → entry ≡ joined_text (after h r).heaps n
    → MatchOption entry ⊥ (λ a. cell_of (after h r).plain u i ≡ Some (text a))
unfolding extended
own_text h r u k i n o entry next is some kind raw told =
    let lands = next.added.follows.lands in
    by_entry entry _ _ told
    (text_listed (chain_of_all h) r.delta u k i n lands (changes_fit (chain_of_all h) r.delta next.owners lands) (sym is ∙ some) kind (sym raw))

pub own_blob : (h : History) (r : Ready) (u : Token) (k i n : ℕ) (o : Option ℕ) (entry : Option (List ℕ)) → MayBeNext h r → o ≡ place_in (listed r.delta) u
    → o ≡ Some k → kind_in u.table i ≡ Some blobs → n ≡ raw_in r.delta (record { table = u.table; row = k }) i → entry ≡ joined_blob (after h r).heaps n
    → MatchOption entry ⊥ (λ a. cell_of (after h r).plain u i ≡ Some (blob a))
unfolding extended
own_blob h r u k i n o entry next is some kind raw told =
    let lands = next.added.follows.lands in
    by_entry entry _ _ told
    (blob_listed (chain_of_all h) r.delta u k i n lands (changes_fit (chain_of_all h) r.delta next.owners lands) (sym is ∙ some) kind (sym raw))

pub own_guid : (h : History) (r : Ready) (u : Token) (k i n : ℕ) (o : Option ℕ) (entry : Option (List ℕ)) → MayBeNext h r → o ≡ place_in (listed r.delta) u
    → o ≡ Some k → kind_in u.table i ≡ Some guids → n ≡ raw_in r.delta (record { table = u.table; row = k }) i
    → entry ≡ joined_guid ((chain_of_all h).heaps ++ r.delta.heaps ∷ []) n → MatchOption entry ⊥ (λ a. cell_of (after h r).plain u i ≡ Some (guid a))
own_guid h r u k i n o entry next is some kind raw told =
    let lands = next.added.follows.lands in
    by_entry entry _ _ told
    (guid_listed (chain_of_all h) r.delta u k i n lands (changes_fit (chain_of_all h) r.delta next.owners lands) (sym is ∙ some) kind (sym raw))

pub own_refer : (h : History) (r : Ready) (u : Token) (k i n : ℕ) (o : Option ℕ) → MayBeNext h r → o ≡ place_in (listed r.delta) u → o ≡ Some k
    → kind_in u.table i ≡ Some references → n ≡ raw_in r.delta (record { table = u.table; row = k }) i
    → MatchOption (token_meant (column_in u.table i) n) ⊥ (λ t. cell_of (after h r).plain u i ≡ Some (refer t))
own_refer h r u k i n o next is some kind raw =
    let lands = next.added.follows.lands in
    refer_listed (chain_of_all h) r.delta u k i n lands (changes_fit (chain_of_all h) r.delta next.owners lands) (sym is ∙ some) kind (sym raw)

pub own_field : (h : History) (r : Ready) (u : Token) (k : ℕ) (o : Option ℕ) → MayBeNext h r → o ≡ place_in (listed r.delta) u → o ≡ Some k
    → u.table ≡ 0x1D → cell_of (after h r).plain u 0 ≡ Some (field [])
own_field h r u k o next is some table = field_listed (chain_of_all h) r.delta u k
    (changes_fit (chain_of_all h) r.delta next.owners next.added.follows.lands) (sym is ∙ some) table

-- the places of blobs
blob_kept : (c : Chain) (d : Source) (n : ℕ) (x : List ℕ) → joined_blob c.heaps n ≡ Some x → joined_blob (extended c d).heaps n ≡ Some x
unfolding extended
blob_kept c d n x is = blob_stays c.heaps d.heaps n x is

pub old_blob : (h : History) (r : Ready) (u : Token) (i n : ℕ) (o : Option ℕ) → MayBeNext h r → o ≡ place_in (listed r.delta) u → o ≡ None
    → is_some (joined_blob (chain_of_all h).heaps n) ≡ true → cell_of (module_of_all h) u i ≡ option_map blob (joined_blob (chain_of_all h).heaps n)
    → cell_of (after h r).plain u i ≡ option_map blob (joined_blob (after h r).heaps n)
old_blob h r u i n o next is none some told =
    told_by (joined_blob (chain_of_all h).heaps n) _ _ (blob_kept (chain_of_all h) r.delta n) some
    (base_cell_blob _ _ _ (λ cell here. old_cell h r u i cell o next is none here) some told)

pub old_stored : (h : History) (r : Ready) (n : ℕ) → is_some (joined_blob (chain_of_all h).heaps n) ≡ true → is_some (joined_blob (after h r).heaps n) ≡ true
old_stored h r n some = some_by (joined_blob (chain_of_all h).heaps n) _ (blob_kept (chain_of_all h) r.delta n) some

pub own_place : (h : History) (r : Ready) (u : Token) (k i n : ℕ) (o : Option ℕ) → MayBeNext h r → o ≡ place_in (listed r.delta) u → o ≡ Some k
    → kind_in u.table i ≡ Some blobs → n ≡ raw_in r.delta (record { table = u.table; row = k }) i
    → (cell_of (after h r).plain u i ≡ option_map blob (joined_blob (after h r).heaps n)) × (is_some (joined_blob (after h r).heaps n) ≡ true)
own_place h r u k i n o next is some kind raw = matched (joined_blob (after h r).heaps n) _ _ (λ x there. there)
    (own_blob h r u k i n o (joined_blob (after h r).heaps n) next is some kind raw refl)

-- bodies
pub old_code : (h : History) (r : Ready) (u : Token) (p : Option CodeRef) (o : Option ℕ) → MayBeNext h r → o ≡ place_in (listed r.delta) u → o ≡ None
    → ((texts : ℕ → Option (List ℕ)) → KeepsTexts (users_of_all h) texts
    → cell_of (module_of_all h) u 0 ≡ Some (body (option_map (λ c. body_of texts (code_seen c)) p)))
    → cell_of (after h r).plain u 0 ≡ Some (body (option_map (λ c. body_of (joined_user (after h r).heaps) (code_seen c)) p))
old_code h r u p o next is none told = old_cell h r u 0 _ o next is none (told (joined_user (after h r).heaps) (users_stay (chain_of_all h) r.delta))

own_loaded : (h : History) (r : Ready) (u : Token) (k n : ℕ) (o : Option ℕ) → MayBeNext h r → o ≡ place_in (listed r.delta) u → o ≡ Some k → u.table ≡ 0x06
    → n ≡ raw_in r.delta (record { table = u.table; row = k }) 0
    → cell_of (after h r).plain u 0 ≡ Some (body (body_loaded r.delta.loaded (joined_user (after h r).heaps) n))
unfolding extended
own_loaded h r u k n o next is some table raw = body_listed (chain_of_all h) r.delta u k n
    (changes_fit (chain_of_all h) r.delta next.owners next.added.follows.lands) (sym is ∙ some) table (sym raw)

pub own_code : (h : History) (r : Ready) (u : Token) (k n : ℕ) (p : Option CodeRef) (o : Option ℕ) → MayBeNext h r → o ≡ place_in (listed r.delta) u
    → o ≡ Some k → u.table ≡ 0x06 → n ≡ raw_in r.delta (record { table = u.table; row = k }) 0 → option_map code_seen p ≡ code_loaded r.delta.loaded n
    → cell_of (after h r).plain u 0 ≡ Some (body (option_map (λ c. body_of (joined_user (after h r).heaps) (code_seen c)) p))
unfolding body_loaded
own_code h r u k n p o next is some table raw parts = own_loaded h r u k n o next is some table raw
    ∙ ap (λ x. Some (body x)) (read_as (joined_user (after h r).heaps) (code_loaded r.delta.loaded n) p parts)

-- the user texts that they name are there
pub old_texts : (h : History) (r : Ready) (p : Option CodeRef) → IfSome p (λ (c : CodeRef). IsTrue (texts_are_there (users_of_all h) c.code.now))
    → IfSome p (λ (c : CodeRef). IsTrue (texts_are_there (joined_user (after h r).heaps) c.code.now))
old_texts h r None there = _
old_texts h r (Some c) there =
    texts_more (users_of_all h) (joined_user (after h r).heaps) (code_seen c).code there (users_stay (chain_of_all h) r.delta)

pub own_texts : (h : History) (r : Ready) (u : Token) (k n : ℕ) (p : Option CodeRef) (o : Option ℕ) → MayBeNext h r → o ≡ place_in (listed r.delta) u
    → o ≡ Some k → u.table ≡ 0x06 → n ≡ raw_in r.delta (record { table = u.table; row = k }) 0 → option_map code_seen p ≡ code_loaded r.delta.loaded n
    → IfSome p (λ (c : CodeRef). IsTrue (texts_are_there (joined_user (after h r).heaps) c.code.now))
unfolding extended
own_texts h r u k n None o next is some table raw parts = _
own_texts h r u k n (Some c) o next is some table raw parts =
    texts_listed (chain_of_all h) r.delta u k n (code_seen c) next.added.follows (sym is ∙ some) table (sym raw) (sym parts)

-- and their places
users_next : (h : History) (d : Source) → users_of_all (with_delta h d) ≡ joined_user (extended (chain_of_all h) d).heaps
unfolding chain_with
users_next h d = refl

pub old_code_place : (h : History) (r : Ready) (u : Token) (n : ℕ) (o : Option ℕ) → MayBeNext h r → o ≡ place_in (listed r.delta) u → o ≡ None
    → ((texts : ℕ → Option (List ℕ)) → KeepsTexts (users_of_all h) texts → cell_of (module_of_all h) u 0 ≡ Some (body (body_with texts h n)))
    → ((texts : ℕ → Option (List ℕ)) → is_some (body_with texts h n) ≡ not (n == 0))
    → cell_of (after h r).plain u 0 ≡ Some (body (body_of_all (with_delta h r.delta) n))
old_code_place h r u n o next is none told some =
    let texts = joined_user (after h r).heaps in
    old_cell h r u 0 _ o next is none (told texts (users_stay (chain_of_all h) r.delta))
    ∙ ap (λ x. Some (body x)) (sym (place_stays texts h r.delta n (some texts))
    ∙ ap (λ f. body_with f (with_delta h r.delta) n) (sym (users_next h r.delta)))

pub old_place_stands : (h : History) (d : Source) (n : ℕ) → ((texts : ℕ → Option (List ℕ)) → is_some (body_with texts h n) ≡ not (n == 0))
    → is_some (body_of_all (with_delta h d) n) ≡ not (n == 0)
old_place_stands h d n some =
    let texts = users_of_all (with_delta h d) in
    ap is_some (place_stays texts h d n (some texts)) ∙ some texts

last_file : (h : History) (d : Source) (g : ℕ) → g ≡ length (chain_of_all h).ids + 1 → file_of (with_delta h d) g ≡ Some d
last_file h d g is = next_file h d g (is ∙ ap (λ n. n + 1) (ids_count h.base h.deltas))

pub own_code_place : (h : History) (r : Ready) (u : Token) (k n g : ℕ) (o : Option ℕ) → MayBeNext h r → o ≡ place_in (listed r.delta) u → o ≡ Some k
    → u.table ≡ 0x06 → n ≡ raw_in r.delta (record { table = u.table; row = k }) 0 → n < 2 ^ 32 → g ≡ length (chain_of_all h).ids + 1
    → cell_of (after h r).plain u 0 ≡ Some (body (body_of_all (with_delta h r.delta) (place_of_all g n)))
own_code_place h r u k n g o next is some table raw low last =
    let told = own_loaded h r u k n o next is some table raw in
    let place = in_place (users_of_all (with_delta h r.delta)) (with_delta h r.delta) g n r.delta low (last_file h r.delta g last) in
    told ∙ ap (λ x. Some (body x)) (ap (λ f. body_loaded r.delta.loaded f n) (sym (users_next h r.delta)) ∙ sym place)

pub own_place_stands : (h : History) (r : Ready) (u : Token) (k n g : ℕ) (o : Option ℕ) → MayBeNext h r → o ≡ place_in (listed r.delta) u → o ≡ Some k
    → u.table ≡ 0x06 → n ≡ raw_in r.delta (record { table = u.table; row = k }) 0 → n < 2 ^ 32 → g ≡ length (chain_of_all h).ids + 1
    → is_some (body_of_all (with_delta h r.delta) (place_of_all g n)) ≡ not (place_of_all g n == 0)
own_place_stands h r u k n g o next is some table raw low last =
    stands_in_place (users_of_all (with_delta h r.delta)) (with_delta h r.delta) g n r.delta low (last_file h r.delta g last)
    (own_stands (chain_of_all h) r.delta u k n next.added.follows (sym is ∙ some) table (sym raw))

-- how many rows a table has
pub next_count : (h : History) (r : Ready) (t n : ℕ) → MayBeNext h r → n ≡ rows_counted r.counts.rows t → n ≡ length (rows_in (after h r).plain t)
next_count h r t n next is = is ∙ counted_rows (after h r).plain r.counts.rows t (has_tables (chain_of_all h) r.delta next.owners.tables) next.added.counts

pub next_few : (h : History) (r : Ready) (t n : ℕ) → MayBeNext h r → n ≡ rows_counted r.counts.rows t → n < 2 ^ 24
next_few h r t n next is = rw (next_count h r t n next is) (after_few (chain_of_all h) r.delta t next.owners.tables next.added.follows)

-- owners and children
pub old_owner : (h : History) (r : Ready) (u : Token) (n : ℕ) (o : Option Token) → MayBeNext h r → IsTrue (is_child_table u.table) → 0 < u.row
    → n ≡ length (rows_in (module_of_all h) u.table) → u.row ≤ n → owner_of (module_of_all h) u ≡ o → owner_of (after h r).plain u ≡ o
old_owner h r u n o next child low many high is =
    owner_kept (chain_of_all h) r.delta next.owners.tables next.added.follows.lands next.owners.runs next.owners.owned u child (omega (arith, low))
    (omega (arith, many, high)) ∙ is

next_kids : (h : History) (r : Ready) (u : Token) (t : ℕ) → MayBeNext h r → IsTrue (is_child_table t)
    → (more : List ℕ) × (kids_of (after h r).plain u t ≡ kids_of (module_of_all h) u t ++ more)
next_kids h r u t next child = (_, kids_after (chain_of_all h) r.delta next.owners.tables next.added.follows.lands next.owners.runs u t child)

pub old_kid : (h : History) (r : Ready) (u : Token) (t i x : ℕ) → MayBeNext h r → IsTrue (is_child_table t)
    → slice_get (kids_of (module_of_all h) u t) i ≡ Some x → slice_get (kids_of (after h r).plain u t) i ≡ Some x
old_kid h r u t i x next child is = let w = next_kids h r u t next child in rw w.1 (get_left (kids_of (module_of_all h) u t) w.0 i x is)

first_kids : (h : History) (r : Ready) (u : Token) (t : ℕ) (rows : List ℕ) → MayBeNext h r → IsTrue (is_child_table t)
    → rows ≡ kids_of (module_of_all h) u t → rows ≡ take (length rows) (kids_of (after h r).plain u t)
first_kids h r u t rows next child is = let w = next_kids h r u t next child in rw (w.1, is)
    (sym (take_at (kids_of (module_of_all h) u t) w.0 (length (kids_of (module_of_all h) u t)) refl))

pub all_kids : (h : History) (r : Ready) (u : Token) (t : ℕ) (first rows : List ℕ) → MayBeNext h r → IsTrue (is_child_table t) → u.table ≡ owner_table t
    → first ≡ kids_of (module_of_all h) u t → rows ≡ with_kept first (value_at r.own.counts (kids_key t u 0)) (λ i. value_at r.own.kids (kids_key t u i))
    → rows ≡ kids_of (after h r).plain u t
all_kids h r u t first rows next child owners is made = made
    ∙ kept_kids (kids_of (after h r).plain u t) first (value_at r.own.counts (kids_key t u 0)) (λ i. value_at r.own.kids (kids_key t u i))
    (rw is (next.own.kids u t child owners)) (first_kids h r u t first next child is)

pub own_owner : (h : History) (r : Ready) (u : Token) (n : ℕ) → MayBeNext h r → n ≡ length (rows_in (module_of_all h) u.table) → n < u.row
    → IsTrue (has_row (after h r).plain u) → IsTrue (is_child_table u.table)
    → (value_at r.own.owners (row_key u) ≡ owner_of (after h r).plain u) × (value_at r.own.owners (row_key u) ≡ None → ⊥)
own_owner h r u n next many past row child = new_owner (chain_of_all h) (after h r) (λ t. value_at r.own.owners (row_key t)) u n next.own.owners
    next.sound.owners many past row child

by_count : (o : Option ℕ) (first n many : ℕ) → unwrap_or o first ≡ many → o ≡ Some n → n ≡ many
by_count o first n many h is = rw is at h

by_first : (o : Option ℕ) (first many : ℕ) → unwrap_or o first ≡ many → o ≡ None → first ≡ many
by_first o first many h is = rw is at h

pub more_kids : (h : History) (r : Ready) (u : Token) (t n : ℕ) → MayBeNext h r → IsTrue (is_child_table t) → u.table ≡ owner_table t
    → value_at r.own.counts (kids_key t u 0) ≡ Some n → n ≡ length (kids_of (after h r).plain u t)
more_kids h r u t n next child owners is = by_count _ _ n _ (next.own.kids u t child owners).many is

pub no_more_kids : (h : History) (r : Ready) (u : Token) (t n : ℕ) → MayBeNext h r → IsTrue (is_child_table t) → u.table ≡ owner_table t
    → value_at r.own.counts (kids_key t u 0) ≡ None → n ≡ length (kids_of (module_of_all h) u t) → n ≡ length (kids_of (after h r).plain u t)
no_more_kids h r u t n next child owners is many = many ∙ by_first _ _ _ (next.own.kids u t child owners).many is

pub own_kid : (h : History) (r : Ready) (u : Token) (t i n : ℕ) → MayBeNext h r → IsTrue (is_child_table t) → u.table ≡ owner_table t
    → n ≡ length (kids_of (module_of_all h) u t) → n ≤ i → i < length (kids_of (after h r).plain u t)
    → (value_at r.own.kids (kids_key t u i) ≡ slice_get (kids_of (after h r).plain u t) i) × (value_at r.own.kids (kids_key t u i) ≡ None → ⊥)
own_kid h r u t i n next child owners many le low =
    let held = next.own.kids u t child owners in
    (held.new i (omega (arith, many, le)) low, λ none. held_there _ _ _ _ i held (omega (arith, many, le)) low none)
