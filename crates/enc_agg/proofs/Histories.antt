-- The deltas after a base, the newest first.
use Rattle.std.proofs.Common.{◌≡◌, ℕ, suc, ◌+◌, ◌-◌, ◌<◌, ◌≤◌, Bool, true, false, List, [], ◌∷◌, ◌++◌, length, map, reverse, Option, Some, None, refl, sym, ap, ◌∙◌, inl, inr, arith}
use Rattle.std.specs.Prelude.{IsTrue, unwrap_or, slice_get, slice_index, nat_lt}
use Rattle.std.proofs.lemmas.Option.{slice_get_past}
use Rattle.std.proofs.lemmas.List.{reverse-append, reverse-reverse, map-append, length-append, length-map, length-reverse}
use Rattle.std.proofs.lemmas.Bool.Decides.{nat_tests}
use Rattle.enc_base.specs.declared.token.Token.{Token}
use Rattle.enc_rows.specs.Source.{Source}
use Rattle.enc_meta.specs.Joined.{joined_user}
use Rattle.enc_delta.proofs.OneHeapMore.{user_stays}
use Rattle.enc_plain.specs.Cell.{Cell}
use Rattle.enc_plain.specs.Chain.{Chain, id_of}
use Rattle.enc_schema.specs.Schema.{list_at}
use Rattle.enc_plain.specs.Module.{Module, Row, rows_in, has_row, cell_of}
use Rattle.enc_image.specs.Base.{users_of, cells_fault, module_in, chain_of_base}
use Rattle.enc_meta.proofs.Alone.{user_alone}
use Rattle.enc_base.proofs.First.{silent}
use Rattle.std.proofs.lemmas.Bool.{cases_lt}
use Rattle.enc_plain.specs.Apply.{Change, put, apply, Attached, attach, attach_all}
use Rattle.enc_agg.proofs.Fitting.{count_is}
use Rattle.enc_image.proofs.Rows.{tables_there}
use Rattle.enc_delta.specs.Delta.{listed, place_in}
use Rattle.enc_delta.specs.Rules.{module_token, own_guid, broken, too_many_in, too_many}
use Rattle.enc_agg.specs.declared.added.Added.{Added}
use Rattle.enc_agg.specs.Extend.{changes_of, extended, chain_with}
use Rattle.enc_delta.specs.Pairs.{attached_of}
use Rattle.enc_agg.specs.Follows.{Lands, Follows}
use Rattle.enc_plain.specs.Sound.{HasTables, HasOwners}
use Rattle.enc_agg.specs.Next.{with_delta}
use Rattle.enc_agg.specs.Seen.{sources, IsAdded, AllAdded, found_or, found_in, rows_counted}
use Rattle.enc_opcodes.specs.Body.{KeepsTexts}
use Rattle.enc_base.specs.Order.{or_else, first_below}
use Rattle.enc_base.specs.declared.refusal.Place.TheVariants as place
use Rattle.enc_base.specs.declared.refusal.Place.{Place}
use Rattle.enc_delta.proofs.HeapLimits.{Limited, limited}
use Rattle.enc_delta.proofs.Unbroken.{unbroken, heaps_unbroken}
use Rattle.enc_image.proofs.SoundOwners.{begun_runs, begun_owned}
use Rattle.enc_agg.proofs.Fitting.{has_tables, has_runs}
use Rattle.enc_agg.proofs.Children.{owned_after}
use Rattle.enc_agg.proofs.Paired.{row_kept, cell_kept}

-- a base that isn't refused begins a sound chain
begun_sound : (b : Source) → cells_fault b ≡ None → HasOwners (chain_of_base b).plain
unfolding chain_of_base
begun_sound b sound = record { tables = record { all = tables_there b }; runs = begun_runs b; owned = begun_owned b sound }

-- a delta that follows it leaves it so
extended_sound : (c : Chain) (d : Source) → HasOwners c.plain → Lands c d → HasOwners (extended c d).plain
extended_sound c d sound follows = record {
  tables = has_tables c d sound.tables;
  runs = has_runs c d sound.tables follows sound.runs;
  owned = owned_after c d sound.tables follows sound.runs sound.owned;
}

-- the newest delta, and those before it
pub last_added : (b : Source) (a : Added) (older : List Added) → AllAdded b (a ∷ older) → IsAdded (chain_with b (sources older)) a × AllAdded b older
unfolding AllAdded
last_added b a older all = all

pub with_sound : (b : Source) (added : List Added) → cells_fault b ≡ None → AllAdded b added → HasOwners (chain_with b (sources added)).plain
unfolding chain_with
with_sound b [] sound all = begun_sound b sound
with_sound b (a ∷ older) sound all =
    let parts = last_added b a older all in
    extended_sound (chain_with b (sources older)) a.delta (with_sound b older sound parts.1) parts.0.follows.lands

-- none of the deltas lists the token: its row and its cells are the base's
not_found : (a : Added) (older : List Added) (o : Option ℕ) (rest : Option (List Added × ℕ)) → found_or (a ∷ older) o rest ≡ None → (o ≡ None) × (rest ≡ None)
not_found a older None rest h = (refl, h)
not_found a older (Some k) rest h = absurd cc

pub unfound_row : (b : Source) (added : List Added) (u : Token) → cells_fault b ≡ None → AllAdded b added → found_in added u ≡ None → IsTrue (has_row (chain_with b (sources added)).plain u) → IsTrue (has_row (module_in b) u)
unfolding chain_with found_in chain_of_base
unfound_row b [] u sound all none there = there
unfound_row b (a ∷ older) u sound all none there =
    let parts = last_added b a older all in
    let o = not_found a older (place_in (listed a.delta) u) (found_in older u) none in
    unfound_row b older u sound parts.1 o.1 (row_kept (chain_with b (sources older)) a.delta u (with_sound b older sound parts.1) parts.0.follows.lands o.0 there)

pub unfound_cell : (b : Source) (added : List Added) (u : Token) (i : ℕ) (cell : Cell) → cells_fault b ≡ None → AllAdded b added → found_in added u ≡ None → cell_of (module_in b) u i ≡ Some cell → cell_of (chain_with b (sources added)).plain u i ≡ Some cell
unfolding chain_with found_in chain_of_base
unfound_cell b [] u i cell sound all none is = is
unfound_cell b (a ∷ older) u i cell sound all none is =
    let parts = last_added b a older all in
    let o = not_found a older (place_in (listed a.delta) u) (found_in older u) none in
    cell_kept (chain_with b (sources older)) a.delta u i cell (with_sound b older sound parts.1) parts.0.follows.lands o.0 (unfound_cell b older u i cell sound parts.1 o.1 is)

-- what is known where one was found
pub record IsFound (b : Source) (added : List Added) (u : Token) (upto : List Added) (k : ℕ) : Type 0 where
  pub last : Added
  pub older : List Added
  pub upto_is : upto ≡ last ∷ older
  pub is_added : IsAdded (chain_with b (sources older)) last
  pub all : AllAdded b upto
  pub sound : HasOwners (chain_with b (sources older)).plain
  pub place : place_in (listed last.delta) u ≡ Some k
  pub cells : (i : ℕ) (cell : Cell) → cell_of (chain_with b (sources upto)).plain u i ≡ Some cell → cell_of (chain_with b (sources added)).plain u i ≡ Some cell
  pub users : (o : ℕ) (x : List ℕ) → joined_user ((chain_with b (sources older)).heaps ++ last.delta.heaps ∷ []) o ≡ Some x → joined_user (chain_with b (sources added)).heaps o ≡ Some x

pub some_first : {X : Type 0} (p q : X × ℕ) → Some p ≡ Some q → p.0 ≡ q.0
some_first p q h = ap (λ o. (unwrap_or o p).0) h

pub some_second : {X : Type 0} (p q : X × ℕ) → Some p ≡ Some q → p.1 ≡ q.1
some_second p q h = ap (λ o. (unwrap_or o p).1) h

found_step : (b : Source) (a : Added) (older : List Added) (u : Token) (o : Option ℕ) (upto : List Added) (k : ℕ) → cells_fault b ≡ None → AllAdded b (a ∷ older) → place_in (listed a.delta) u ≡ o → found_or (a ∷ older) o (found_in older u) ≡ Some (upto, k) → (found_in older u ≡ Some (upto, k) → IsFound b older u upto k) → IsFound b (a ∷ older) u upto k
unfolding chain_with extended
found_step b a older u (Some k2) upto k sound all place h rest =
    let same_upto = some_first (a ∷ older, k2) (upto, k) h in
    let same_k = some_second (a ∷ older, k2) (upto, k) h in
    let parts = last_added b a older all in
    record {
      last = a;
      older = older;
      upto_is = sym same_upto;
      is_added = parts.0;
      all = rw (← same_upto) all;
      sound = with_sound b older sound parts.1;
      place = rw same_k at place;
      cells = λ i cell is. rw (← same_upto) at is;
      users = λ o x is. is;
    }
found_step b a older u None upto k sound all place h rest =
    let found = rest h in
    let parts = last_added b a older all in
    record {
      last = found.last;
      older = found.older;
      upto_is = found.upto_is;
      is_added = found.is_added;
      all = found.all;
      sound = found.sound;
      place = found.place;
      cells = λ i cell is. cell_kept (chain_with b (sources older)) a.delta u i cell (with_sound b older sound parts.1) parts.0.follows.lands place (found.cells i cell is);
      users = λ o x is. user_stays (chain_with b (sources older)).heaps a.delta.heaps o x (found.users o x is);
    }

pub is_found : (b : Source) (added : List Added) (u : Token) (upto : List Added) (k : ℕ) → cells_fault b ≡ None → AllAdded b added → found_in added u ≡ Some (upto, k) → IsFound b added u upto k
unfolding found_in
is_found b [] u upto k sound all h = absurd cc
is_found b (a ∷ older) u upto k sound all h = found_step b a older u (place_in (listed a.delta) u) upto k sound all refl h (is_found b older u upto k sound (last_added b a older all).1)

-- the heaps of a chain with one delta more
pub heaps_with : (b d : Source) (older : List Source) → (chain_with b (d ∷ older)).heaps ≡ (chain_with b older).heaps ++ d.heaps ∷ []
unfolding chain_with extended
heaps_with b d older = refl

pub heaps_alone : (b : Source) → (chain_with b []).heaps ≡ b.heaps ∷ []
unfolding chain_with chain_of_base
heaps_alone b = refl

-- the heaps of all: the base's and then each delta's, oldest first
heaps_by : (b : Source) (added : List Added) → (chain_with b (sources added)).heaps ≡ b.heaps ∷ map (λ (a : Added). a.delta.heaps) (reverse added)
heaps_by b [] = heaps_alone b
heaps_by b (a ∷ older) =
    rw (heaps_with b a.delta (sources older), heaps_by b older, reverse-append (a ∷ []) older, map-append (λ (x : Added). x.delta.heaps) (reverse older) (a ∷ [])) refl

pub heaps_are : (b : Source) (added : List Added) → (chain_with b (sources (reverse added))).heaps ≡ b.heaps ∷ map (λ (a : Added). a.delta.heaps) added
heaps_are b added = heaps_by b (reverse added) ∙ ap (λ xs. b.heaps ∷ map (λ (a : Added). a.delta.heaps) xs) (reverse-reverse added)

-- the rows of a table after the newest delta
pub counts_are : (b : Source) (a : Added) (older : List Added) (t : ℕ) → AllAdded b (a ∷ older) → t < 64 → slice_index a.counts.rows t ≡ length (rows_in (chain_with b (sources (a ∷ older))).plain t)
unfolding chain_with
counts_are b a older t all low = (last_added b a older all).0.counts t low

-- and of one that no module has
pub no_table : (m : Module) (t : ℕ) → HasTables m → 0x2D ≤ t → 0 ≡ length (rows_in m t)
no_table m t tables high = sym (ap (λ (xs : List Row). length xs) (past_tables m.tables t (omega (arith, tables.all))))
  where
    past_tables : {X : Type 0} (xs : List (List X)) (t : ℕ) → length xs ≤ t → list_at xs t ≡ []
    past_tables xs t h = rw (slice_get_past xs t h) refl

-- the rows of a table, by the numbers of those of the first 64
pub counted_rows : (m : Module) (counts : List ℕ) (t : ℕ) → HasTables m → ((k : ℕ) → k < 64 → slice_index counts k ≡ length (rows_in m k))
    → rows_counted counts t ≡ length (rows_in m t)
counted_rows m counts t tables are =
    elim (cases_lt t 64) [
      | inl low ↦ let e : nat_lt t 64 ≡ true = grind (arith, nat_tests) in rw e (are t low)
      | inr high ↦ let e : nat_lt t 64 ≡ false = grind (arith, nat_tests) in rw e (no_table m t tables (omega (arith, high)))
    ]

-- all tables are there, whatever the deltas
pub with_tables : (b : Source) (ds : List Source) → HasTables (chain_with b ds).plain
unfolding chain_with chain_of_base
with_tables b [] = record { all = tables_there b }
with_tables b (d ∷ older) = has_tables (chain_with b older) d (with_tables b older)

-- the newest delta follows a sound chain
pub lasted : (b : Source) (a : Added) (older : List Added) → cells_fault b ≡ None → AllAdded b (a ∷ older) → HasOwners (chain_with b (sources older)).plain × Lands (chain_with b (sources older)) a.delta
lasted b a older sound all =
    let parts = last_added b a older all in
    (with_sound b older sound parts.1, parts.0.follows.lands)

-- the EncIds are those that are kept, oldest first
pub ids_are : (b : Source) (added : List Added) → AllAdded b added → (chain_with b (sources added)).ids ≡ map (λ (a : Added). a.id) (reverse added)
unfolding chain_with chain_of_base extended
ids_are b [] all = refl
ids_are b (a ∷ older) all =
    let parts = last_added b a older all in
    rw (reverse-append (a ∷ []) older, map-append (λ (x : Added). x.id) (reverse older) (a ∷ [])) (ap (λ (x : List ℕ). (chain_with b (sources older)).ids ++ x ∷ []) (sym parts.0.id) ∙ ap (λ (xs : List (List ℕ)). xs ++ a.id ∷ []) (ids_are b older parts.1))

-- there are as many as deltas
pub ids_count : (b : Source) (ds : List Source) → length (chain_with b ds).ids ≡ length ds
unfolding chain_with chain_of_base extended
ids_count b [] = refl
ids_count b (d ∷ older) = length-append (chain_with b older).ids (own_guid (chain_with b older) d 3 ∷ []) ∙ omega (arith, ids_count b older)

-- and heaps of one more
pub heaps_count : (b : Source) (ds : List Source) → length (chain_with b ds).heaps ≡ length ds + 1
unfolding chain_with chain_of_base extended
heaps_count b [] = refl
heaps_count b (d ∷ older) = length-append (chain_with b older).heaps (d.heaps ∷ []) ∙ omega (arith, heaps_count b older)

limit_is : (n : ℕ) (p : Place) (rest : Option Place) → or_else (broken (nat_lt 65535 n) p) rest ≡ None → n ≤ 65535
limit_is n p rest h = by_test (nat_lt 65535 n) refl h
  where
    by_test : (t : Bool) → nat_lt 65535 n ≡ t → or_else (broken t p) rest ≡ None → n ≤ 65535
    by_test true e h = absurd cc
    by_test false e h = grind (arith, nat_tests)

-- no more deltas follow than Generation counts
pub few_deltas : (b : Source) (added : List Added) → AllAdded b added → length added ≤ 65535
unfolding too_many
few_deltas b [] all = omega arith
few_deltas b (a ∷ older) all =
    let limit = limit_is (length (chain_with b (sources older)).ids + 1) (place.Row module_token) (first_below (too_many_in (chain_with b (sources older)) a.delta) 0x2D) (unbroken (chain_with b (sources older)) a.delta (last_added b a older all).0.follows.rules).limit in
    omega (arith, limit, ids_count b (sources older), length-map older (λ (x : Added). x.delta))

-- the EncId of a generation past the base
pub id_at : (b : Source) (added : List Added) (g : ℕ) (id : List ℕ) → AllAdded b (reverse added) → Some id ≡ slice_get (map (λ (a : Added). a.id) added) g → id ≡ id_of (chain_with b (sources (reverse added))) (suc g)
id_at b added g id all is =
    let ids : (chain_with b (sources (reverse added))).ids ≡ map (λ (a : Added). a.id) added = ids_are b (reverse added) all ∙ ap (map (λ (a : Added). a.id)) (reverse-reverse added) in
    rw (ids, ← is) refl

-- as many EncIds and heaps as there are deltas
pub ids_many : (b : Source) (added : List Added) → length added + 1 ≡ length (chain_with b (sources (reverse added))).ids + 1
ids_many b added = omega (arith, ids_count b (sources (reverse added)), length-map (reverse added) (λ (x : Added). x.delta), length-reverse added)

pub heaps_many : (b : Source) (added : List Added) → length added + 1 ≡ length (chain_with b (sources (reverse added))).heaps
heaps_many b added = omega (arith, heaps_count b (sources (reverse added)), length-map (reverse added) (λ (x : Added). x.delta), length-reverse added)

pub few_added : (b : Source) (added : List Added) → AllAdded b (reverse added) → length added ≤ 65535
few_added b added all = omega (arith, few_deltas b (reverse added) all, length-reverse added)

-- with the newest delta the heaps keep their limits
pub last_limited : (b : Source) (a : Added) (older : List Added) → AllAdded b (a ∷ older) → Limited (chain_with b (sources older)) a.delta a.before
last_limited b a older all =
    let last = (last_added b a older all).0 in
    limited (chain_with b (sources older)) a.delta a.before last.before (heaps_unbroken (chain_with b (sources older)) a.delta last.follows.rules)

-- a user text that is there stays with one delta more
pub users_stay : (c : Chain) (d : Source) → KeepsTexts (joined_user c.heaps) (joined_user (extended c d).heaps)
unfolding extended
users_stay c d = λ o units is. user_stays c.heaps d.heaps o units is

pub user_kept : (b : Source) (added more : List Added) (a : Added) → more ≡ added ++ a ∷ [] → (o : ℕ) (units : List ℕ) → joined_user (chain_with b (sources (reverse added))).heaps o ≡ Some units → joined_user (chain_with b (sources (reverse more))).heaps o ≡ Some units
unfolding chain_with extended
user_kept b added more a e o units is = rw (e, reverse-append added (a ∷ [])) (user_stays (chain_with b (sources (reverse added))).heaps a.delta.heaps o units is)

-- a history with one delta more
pub chain_more : (b : Source) (added more : List Added) (a : Added) → more ≡ added ++ a ∷ []
    → chain_with b (sources (reverse more)) ≡ extended (chain_with b (sources (reverse added))) a.delta
unfolding chain_with
chain_more b added more a e = rw (e, reverse-append added (a ∷ [])) refl

pub history_more : (b : Source) (added more : List Added) (a : Added) (was room : ℕ) → more ≡ added ++ a ∷ [] → room + 1 ≡ was
    → with_delta (record { base = b; deltas = sources (reverse added); room = was }) a.delta ≡ record { base = b; deltas = sources (reverse more); room = room }
history_more b added more a was room e less =
    let one : was - 1 ≡ room = omega (arith, less) in
    rw (e, reverse-append added (a ∷ []), one) refl

-- a user text of the base is one of all
pub base_users : (b : Source) (added : List Added) (o : ℕ) (x : List ℕ) → users_of b o ≡ Some x → joined_user (chain_with b (sources added)).heaps o ≡ Some x
unfolding chain_with extended chain_of_base
base_users b [] o x is = user_alone b.heaps o ∙ is
base_users b (a ∷ older) o x is = user_stays (chain_with b (sources older)).heaps a.delta.heaps o x (base_users b older o x is)

-- a delta changes neither the resources nor the entry point
applied_else : (m : Module) (cs : List Change) → ((apply m cs).resources ≡ m.resources) × ((apply m cs).entry ≡ m.entry)
unfolding apply put
applied_else m [] = (refl, refl)
applied_else m (c ∷ cs) = applied_else (put m c) cs

attached_else : (m : Module) (pairs : List Attached) → ((attach_all m pairs).resources ≡ m.resources) × ((attach_all m pairs).entry ≡ m.entry)
unfolding attach_all attach
attached_else m [] = (refl, refl)
attached_else m (a ∷ pairs) = attached_else (attach m a) pairs

pub extended_else : (c : Chain) (d : Source) → ((extended c d).plain.resources ≡ c.plain.resources) × ((extended c d).plain.entry ≡ c.plain.entry)
unfolding extended
extended_else c d =
    let put_else = applied_else c.plain (changes_of c d) in
    let set_else = attached_else (apply c.plain (changes_of c d)) (attached_of d) in
    (set_else.0 ∙ put_else.0, set_else.1 ∙ put_else.1)

pub all_else : (b : Source) (added : List Added) → ((chain_with b (sources added)).plain.resources ≡ (module_in b).resources) × ((chain_with b (sources added)).plain.entry ≡ (module_in b).entry)
unfolding chain_with chain_of_base
all_else b [] = (refl, refl)
all_else b (a ∷ older) =
    let last = extended_else (chain_with b (sources older)) a.delta in
    let before = all_else b older in
    (last.0 ∙ before.0, last.1 ∙ before.1)

limited_at : (n : ℕ) (p : Place) → broken (nat_lt 0xFFFFFF n) p ≡ None → n < 0x1000000
limited_at n p h = by_test (nat_lt 0xFFFFFF n) refl h
  where
    by_test : (t : Bool) → nat_lt 0xFFFFFF n ≡ t → broken t p ≡ None → n < 0x1000000
    by_test true is h = absurd cc
    by_test false is h = grind (arith, nat_tests)

second_none : {A : Type 0} (a b : Option A) → or_else a b ≡ None → b ≡ None
second_none None b h = h
second_none (Some x) b h = absurd cc

-- a table has fewer rows after a delta than a token can name
pub after_few : (c : Chain) (d : Source) (t : ℕ) → HasTables c.plain → Follows c d → length (rows_in (extended c d).plain t) < 0x1000000
unfolding too_many too_many_in
after_few c d t tables follows =
    elim (cases_lt t 0x2D) [
      | inl low ↦ rw (count_is c d tables follows.lands t) (limited_at _ _ (silent (too_many_in c d) 0x2D t (second_none _ _ (unbroken c d follows.rules).limit) low))
      | inr high ↦ rw (← (no_table (extended c d).plain t (has_tables c d tables) high)) (omega arith)
    ]

pub rows_few : (b : Source) (a : Added) (older : List Added) (t : ℕ) → cells_fault b ≡ None → AllAdded b (a ∷ older) → length (rows_in (chain_with b (sources (a ∷ older))).plain t) < 0x1000000
unfolding chain_with
rows_few b a older t sound all =
    let parts = last_added b a older all in
    after_few (chain_with b (sources older)) a.delta t (with_sound b older sound parts.1).tables parts.0.follows
