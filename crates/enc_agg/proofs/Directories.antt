-- What is kept of the deltas, with one delta more.
use Rattle.std.proofs.Common.{◌≡◌, ℕ, zero, suc, ◌+◌, ◌-◌, ◌<◌, ◌≤◌, List, [], ◌∷◌, ◌++◌, length, take, drop, reverse, Option, Some, None, refl, sym, ap, ◌∙◌, append_assoc, append-nil, inl, inr, arith}
use Rattle.std.specs.Prelude.{IsTrue, option_map, unwrap_or, slice_get}
use Rattle.std.proofs.lemmas.Bool.{cases_lt}
use Rattle.std.proofs.lemmas.List.{length-map, length-reverse, take_at, take_all}
use Rattle.enc_base.specs.declared.token.Token.{Token}
use Rattle.enc_key_map.specs.declared.key.Key.{Key}
use Rattle.enc_key_map.specs.Index.{value_at, latest, either}
use Rattle.enc_rows.specs.Source.{Source}
use Rattle.enc_schema.specs.Children.{is_child_table, owner_table}
use Rattle.enc_plain.specs.Chain.{Chain}
use Rattle.enc_plain.specs.Module.{rows_in, has_row, owner_of, kids_of}
use Rattle.enc_plain.specs.Apply.{gained}
use Rattle.enc_plain.specs.Sound.{HasOwners}
use Rattle.enc_plain.proofs.Owned.{has_owner}
use Rattle.enc_plain.specs.declared.place.RowPlace.{RowPlace}
use Rattle.enc_delta.specs.Delta.{listed, place_in}
use Rattle.enc_delta.specs.Pairs.{attached_of}
use Rattle.enc_agg.specs.declared.added.Added.{Added}
use Rattle.enc_agg.specs.declared.directory.Directory.{Directory}
use Rattle.enc_agg.specs.declared.directory.Entries.{Entries}
use Rattle.enc_agg.specs.Extend.{extended, chain_with}
use Rattle.enc_agg.specs.Follows.{Lands}
use Rattle.enc_agg.specs.Seen.{sources, AllAdded, IsAdded, IsAggregate, found_or, found_in}
use Rattle.enc_agg.specs.Directory.{row_key, kids_key, place_seen, HasPlaces, IsBare, IsHeld, kept_one, kids_kept, with_kept, AreOwned, AreHeld, IsDirectory, AreBrought}
use Rattle.std.proofs.lemmas.Bool.Decides.{nat_tests}
use Rattle.enc_image.specs.Base.{cells_fault, module_in, chain_of_base}
use Rattle.enc_generation_map.specs.declared.places.Places.{Places}
use Rattle.enc_generation_map.proofs.Keeping.{get_front}
use Rattle.enc_agg.specs.Prepared.{IsWhole}
use Rattle.enc_agg.proofs.Histories.{last_added, with_sound, ids_count}
use Rattle.enc_agg.proofs.Children.{kids_after, owner_kept, owned_after, rows_grow}
use Rattle.enc_agg.proofs.Generations.{reversed_part}

-- what was found is a front of the deltas, oldest first
front_step : (a : Added) (older : List Added) (o : Option ℕ) (rest : Option (List Added × ℕ)) (f : List Added × ℕ) → (rest ≡ Some f → (length f.0 ≤ length older) × (f.0 ≡ drop (length older - length f.0) older)) → found_or (a ∷ older) o rest ≡ Some f → (length f.0 ≤ suc (length older)) × (f.0 ≡ drop (suc (length older) - length f.0) (a ∷ older))
front_step a older None rest f back is =
    let b = back is in
    let e : suc (length older) - length f.0 ≡ suc (length older - length f.0) = omega (arith, b.0) in
    (omega (arith, b.0), rw e b.1)
front_step a older (Some k) rest f back is =
    let e : a ∷ older ≡ f.0 = cc in
    let z : suc (length older) - length (a ∷ older) ≡ 0 = omega arith in
    (rw (← e) (omega arith), rw (← e, z) refl)

found_front : (added : List Added) (u : Token) (f : List Added × ℕ) → found_in added u ≡ Some f → (length f.0 ≤ length added) × (f.0 ≡ drop (length added - length f.0) added)
unfolding found_in
found_front [] u f is = absurd cc
found_front (a ∷ older) u f is = front_step a older (place_in (listed a.delta) u) (found_in older u) f (found_front older u f) is

-- the place that is kept of a row tells what is found
seen_is : (o : Option (List Added × ℕ)) (p : RowPlace) → Some p ≡ option_map place_seen o → (f : List Added × ℕ) × (o ≡ Some f) × (p ≡ place_seen f)
seen_is None p h = absurd cc
seen_is (Some f) p h = let e : p ≡ place_seen f = cc in (f, refl, e)

pub place_within : (added : List Added) (u : Token) (p : RowPlace) → Some p ≡ option_map place_seen (found_in (reverse added) u) → p.generation ≤ length added
place_within added u p h =
    let w = seen_is (found_in (reverse added) u) p h in
    let front = found_front (reverse added) u w.0 w.1 in
    rw w.2 (omega (arith, front.0, length-reverse added))

pub place_found : (added upto : List Added) (u : Token) (p : RowPlace) → Some p ≡ option_map place_seen (found_in (reverse added) u) → upto ≡ take p.generation added → Some (reverse upto, p.row) ≡ found_in (reverse added) u
place_found added upto u p h is =
    let w = seen_is (found_in (reverse added) u) p h in
    let front = found_front (reverse added) u w.0 w.1 in
    let part : reverse (take (length w.0.0) added) ≡ drop (length added - length w.0.0) (reverse added) = reversed_part added (length w.0.0) in
    let same : reverse upto ≡ w.0.0 = ap reverse is ∙ ap (λ (x : RowPlace). reverse (take x.generation added)) w.2 ∙ part ∙ ap (λ n. drop (n - length w.0.0) (reverse added)) (sym (length-reverse added)) ∙ sym front.1 in
    ap (λ xs. Some (xs, p.row)) same ∙ ap (λ (x : RowPlace). Some (w.0.0, x.row)) w.2 ∙ sym w.1

pub no_place : (added : List Added) (u : Token) → None ≡ option_map place_seen (found_in (reverse added) u) → None ≡ found_in (reverse added) u
no_place added u h = none_is (found_in (reverse added) u) h
  where
    none_is : (o : Option (List Added × ℕ)) → None ≡ option_map place_seen o → None ≡ o
    none_is None h = refl
    none_is (Some f) h = absurd cc

-- children that are held in two steps
either_same : (o p : Option ℕ) (x : ℕ) → o ≡ Some x → either o p ≡ o
either_same o p x h = rw h refl

count_both : (c d : Option ℕ) (m n k : ℕ) → unwrap_or c m ≡ n → unwrap_or d n ≡ k → unwrap_or (either d c) m ≡ k
count_both c (Some v) m n k h i = i
count_both c None m n k h i = h ∙ i

pub get_some : (xs : List ℕ) (i : ℕ) → i < length xs → (x : ℕ) × (slice_get xs i ≡ Some x)
get_some [] i low = absurd (omega arith)
get_some (x ∷ xs) zero low = (x, refl)
get_some (x ∷ xs) (suc i) low = get_some xs i (omega arith)

held_both : (first : ℕ) (xs ys : List ℕ) (c d : Option ℕ) (kid more : ℕ → Option ℕ) → IsHeld xs first c kid → IsHeld (xs ++ ys) (length xs) d more → IsHeld (xs ++ ys) first (either d c) (λ i. either (more i) (kid i))
held_both first xs ys c d kid more h k = record {
  low = omega (arith, h.low, k.low);
  many = count_both c d first (length xs) _ h.many k.many;
  old = λ i low. rw (k.old i (omega (arith, h.low, low)), h.old i low) refl;
  new = λ i le low. elim (cases_lt i (length xs)) [
    | inl before ↦ rw (k.old i before) (h.new i le before ∙ sym (get_front xs ys i before))
    | inr behind ↦
        let w = get_some (xs ++ ys) i low in
        let is = k.new i behind low in
        either_same (more i) (kid i) w.0 (is ∙ w.1) ∙ is
  ];
}

held_by : (first : ℕ) (xs ys : List ℕ) (c d : Option ℕ) (kid more : ℕ → Option ℕ) → xs ≡ ys → c ≡ d → ((i : ℕ) → more i ≡ kid i) → IsHeld xs first c kid → IsHeld ys first d more
held_by first xs ys c d kid more e f same h = rw (← e, ← f) (record {
  low = h.low;
  many = h.many;
  old = λ i low. same i ∙ h.old i low;
  new = λ i le low. same i ∙ h.new i le low;
})

held_after : (b c d : Chain) (s : Source) (count kid more_count more_kid now_count now_kid : Key → Option ℕ) → HasOwners c.plain → Lands c s → d ≡ extended c s → ((q : Key) → now_count q ≡ either (more_count q) (count q)) → ((q : Key) → now_kid q ≡ either (more_kid q) (kid q)) → AreHeld b c count kid → AreHeld c d more_count more_kid → AreHeld b d now_count now_kid
held_after b c d s count kid more_count more_kid now_count now_kid sound lands is counts kids held more u t there owners =
    let after : kids_of d.plain u t ≡ kids_of c.plain u t ++ gained (attached_of s) u t = rw is (kids_after c s sound.tables lands sound.runs u t there) in
    let both = held_both (length (kids_of b.plain u t)) (kids_of c.plain u t) (gained (attached_of s) u t) (count (kids_key t u 0)) (more_count (kids_key t u 0)) (λ i. kid (kids_key t u i)) (λ i. more_kid (kids_key t u i)) (held u t there owners) (rw (← after) (more u t there owners)) in
    held_by (length (kids_of b.plain u t)) _ (kids_of d.plain u t) _ (now_count (kids_key t u 0)) _ (λ i. now_kid (kids_key t u i)) (sym after) (sym (counts (kids_key t u 0))) (λ i. kids (kids_key t u i)) both

-- owners that are known in two steps
some_owner : (o p : Option Token) (x : Token) → o ≡ Some x → either o p ≡ o
some_owner o p x h = rw h refl

owned_both : (b c : Chain) (s : Source) (owner more now : Token → Option Token) → HasOwners c.plain → Lands c s → ((t : ℕ) → length (rows_in b.plain t) ≤ length (rows_in c.plain t)) → ((u : Token) → now u ≡ either (more u) (owner u)) → AreOwned b c owner → AreOwned c (extended c s) more → AreOwned b (extended c s) now
owned_both b c s owner more now sound lands grows puts old new = record {
  old = λ u there low. puts u ∙ rw (new.old u there (omega (arith, low, grows u.table)), old.old u there low) refl;
  new = λ u there past high. puts u ∙ elim (cases_lt (length (rows_in c.plain u.table)) u.row) [
    | inr before ↦ rw (new.old u there before) (old.new u there past before ∙ sym (owner_kept c s sound.tables lands sound.runs sound.owned u there (omega (arith, past)) before))
    | inl behind ↦
        let is = new.new u there behind high in
        let w = has_owner (extended c s).plain u (owned_after c s sound.tables lands sound.runs sound.owned) there (omega (arith, behind)) high in
        some_owner (more u) (owner u) w.owner (is ∙ w.is) ∙ is
  ];
}

-- no table has fewer rows than in the base
pub rows_more : (b : Source) (added : List Added) → cells_fault b ≡ None → AllAdded b added → (t : ℕ) → length (rows_in (chain_with b []).plain t) ≤ length (rows_in (chain_with b (sources added)).plain t)
unfolding chain_with
rows_more b [] clean all t = omega arith
rows_more b (a ∷ older) clean all t =
    let parts = last_added b a older all in
    let sound = with_sound b older clean parts.1 in
    omega (arith, rows_more b older clean parts.1 t, rows_grow (chain_with b (sources older)) a.delta sound.tables parts.0.follows.lands t)

-- the newest places
pub place_step : (a : Added) (older : List Added) (o : Option ℕ) (n : ℕ) (rest : Option (List Added × ℕ)) → n ≡ length (a ∷ older) → either (option_map (λ (k : ℕ). record { generation = n; row = k }) o) (option_map place_seen rest) ≡ option_map place_seen (found_or (a ∷ older) o rest)
place_step a older None n rest e = refl
place_step a older (Some k) n rest e = rw e refl

places_more : (b : Source) (a : Added) (older : List Added) (x y : Directory) (e : Entries) → ((q : Key) → value_at y.places q ≡ either (latest e.places.items q) (value_at x.places q)) → HasPlaces older x → AreBrought (chain_with b (sources older)) a.delta e → HasPlaces (a ∷ older) y
unfolding found_in
places_more b a older x y e puts places entries u =
    let many : length (chain_with b (sources older)).ids + 1 ≡ length (a ∷ older) = omega (arith, ids_count b (sources older), length-map older (λ (z : Added). z.delta)) in
    puts (row_key u) ∙ rw (entries.places u, places u) (place_step a older (place_in (listed a.delta) u) _ (found_in older u) many)

-- the directory with one delta more
pub directory_more : (b : Source) (a : Added) (older : List Added) (x y : Directory) (e : Entries) → ((q : Key) → value_at y.places q ≡ either (latest e.places.items q) (value_at x.places q)) → ((q : Key) → value_at y.owners q ≡ either (latest e.owners.items q) (value_at x.owners q)) → ((q : Key) → value_at y.counts q ≡ either (latest e.counts.items q) (value_at x.counts q)) → ((q : Key) → value_at y.kids q ≡ either (latest e.kids.items q) (value_at x.kids q)) → IsAggregate b older → IsDirectory b older x → IsAdded (chain_with b (sources older)) a → AreBrought (chain_with b (sources older)) a.delta e → IsDirectory b (a ∷ older) y
unfolding chain_with
directory_more b a older x y e places owners counts kids agg was last entries =
    let c = chain_with b (sources older) in
    let sound = with_sound b older agg.sound agg.all in
    let lands = last.follows.lands in
    record {
      places = places_more b a older x y e places was.places entries;
      owners = owned_both (chain_with b []) c a.delta (λ u. value_at x.owners (row_key u)) (λ u. latest e.owners.items (row_key u)) (λ u. value_at y.owners (row_key u)) sound lands (rows_more b older agg.sound agg.all) (λ u. owners (row_key u)) was.owners entries.owners;
      kids = held_after (chain_with b []) c (extended c a.delta) a.delta (value_at x.counts) (value_at x.kids) (latest e.counts.items) (latest e.kids.items) (value_at y.counts) (value_at y.kids) sound lands refl counts kids was.kids entries.kids;
    }

-- a base alone
pub bare_is : (b : Source) (x : Directory) → IsBare x → IsDirectory b [] x
unfolding found_in
bare_is b x bare = record {
  places = λ u. bare.no_place (row_key u);
  owners = record { old = λ u there low. bare.no_owner (row_key u); new = λ u there past high. absurd (omega arith) };
  kids = λ u t there owners. record {
    low = omega arith;
    many = rw (bare.no_count (kids_key t u 0)) refl;
    old = λ i low. bare.no_kid (kids_key t u i);
    new = λ i le low. absurd (omega arith);
  };
}

-- the module of a base alone
base_plain : (b : Source) → (chain_with b []).plain ≡ module_in b
unfolding chain_with chain_of_base
base_plain b = refl

-- a row of the base has the owner that it had
owner_stays : (b : Source) (added : List Added) (u : Token) → cells_fault b ≡ None → AllAdded b added → IsTrue (is_child_table u.table) → 0 < u.row → u.row ≤ length (rows_in (chain_with b []).plain u.table) → owner_of (chain_with b (sources added)).plain u ≡ owner_of (chain_with b []).plain u
unfolding chain_with
owner_stays b [] u clean all there low high = refl
owner_stays b (a ∷ older) u clean all there low high =
    let parts = last_added b a older all in
    let sound = with_sound b older clean parts.1 in
    let grow = rows_more b older clean parts.1 u.table in
    owner_kept (chain_with b (sources older)) a.delta sound.tables parts.0.follows.lands sound.runs sound.owned u there low (omega (arith, high, grow)) ∙ owner_stays b older u clean parts.1 there low high

pub owner_before : (b : Source) (added : List Added) (u : Token) (n : ℕ) (o : Option Token) → cells_fault b ≡ None → AllAdded b added → IsTrue (is_child_table u.table) → 0 < u.row → n ≡ length (rows_in (module_in b) u.table) → u.row ≤ n → owner_of (module_in b) u ≡ o → owner_of (chain_with b (sources added)).plain u ≡ o
owner_before b added u n o clean all there low many high is =
    let within : u.row ≤ length (rows_in (chain_with b []).plain u.table) = rw (base_plain b) (omega (arith, many, high)) in
    owner_stays b added u clean all there low within ∙ rw (base_plain b) is

-- and a row's children begin with those of the base
pub kids_begin : (b : Source) (added : List Added) (u : Token) (t : ℕ) → cells_fault b ≡ None → AllAdded b added → IsTrue (is_child_table t) → (more : List ℕ) × (kids_of (chain_with b (sources added)).plain u t ≡ kids_of (chain_with b []).plain u t ++ more)
unfolding chain_with
kids_begin b [] u t clean all there = ([], sym (append-nil (kids_of (chain_with b []).plain u t)))
kids_begin b (a ∷ older) u t clean all there =
    let parts = last_added b a older all in
    let sound = with_sound b older clean parts.1 in
    let before = kids_begin b older u t clean parts.1 there in
    (before.0 ++ gained (attached_of a.delta) u t, kids_after (chain_with b (sources older)) a.delta sound.tables parts.0.follows.lands sound.runs u t there ∙ ap (λ xs. xs ++ gained (attached_of a.delta) u t) before.1 ∙ append_assoc (kids_of (chain_with b []).plain u t) before.0 (gained (attached_of a.delta) u t))

pub kid_before : (b : Source) (added : List Added) (u : Token) (t i n : ℕ) (o : Option ℕ) → cells_fault b ≡ None → AllAdded b added → IsTrue (is_child_table t) → n ≡ length (kids_of (chain_with b []).plain u t) → i < n → slice_get (kids_of (module_in b) u t) i ≡ o → slice_get (kids_of (chain_with b (sources added)).plain u t) i ≡ o
kid_before b added u t i n o clean all there many low is =
    let w = kids_begin b added u t clean all there in
    let here : slice_get (kids_of (chain_with b []).plain u t) i ≡ o = by_base b u t i o is in
    rw w.1 (get_front (kids_of (chain_with b []).plain u t) w.0 i (omega (arith, many, low)) ∙ here)
  where
    by_base : (b : Source) (u : Token) (t i : ℕ) (o : Option ℕ) → slice_get (kids_of (module_in b) u t) i ≡ o → slice_get (kids_of (chain_with b []).plain u t) i ≡ o
    by_base b u t i o is = rw (base_plain b) is

pub kids_front : (b : Source) (added : List Added) (u : Token) (t n : ℕ) (rows : List ℕ) → cells_fault b ≡ None → AllAdded b added → IsTrue (is_child_table t) → n ≡ length (kids_of (chain_with b []).plain u t) → rows ≡ kids_of (chain_with b []).plain u t → rows ≡ take n (kids_of (chain_with b (sources added)).plain u t)
kids_front b added u t n rows clean all there many is =
    let w = kids_begin b added u t clean all there in
    rw (w.1, is, many) (sym (take_at (kids_of (chain_with b []).plain u t) w.0 (length (kids_of (chain_with b []).plain u t)) refl))

-- one child more
pub take_got : (xs : List ℕ) (i x : ℕ) → slice_get xs i ≡ Some x → take (i + 1) xs ≡ take i xs ++ x ∷ []
take_got [] i x h = absurd cc
take_got (y ∷ xs) zero x h = let e : y ≡ x = cc in rw e refl
take_got (y ∷ xs) (suc i) x h = let e : suc i + 1 ≡ suc (i + 1) = omega arith in rw e (ap (λ zs. y ∷ zs) (take_got xs i x h))

-- a child that is held is there
pub held_there : (kids : List ℕ) (first : ℕ) (count : Option ℕ) (kid : ℕ → Option ℕ) (i : ℕ) → IsHeld kids first count kid → first ≤ i → i < length kids → kid i ≡ None → ⊥
held_there kids first count kid i held le low none =
    let w = get_some kids i low in
    let e : None ≡ Some w.0 = sym none ∙ held.new i le low ∙ w.1 in
    absurd cc

-- the children that are kept follow those that are known elsewhere
kept_front : (kids first : List ℕ) (kid : ℕ → Option ℕ) (n : ℕ) → ((i : ℕ) → length first ≤ i → i < length kids → kid i ≡ slice_get kids i)
    → first ≡ take (length first) kids → length first + n ≤ length kids → first ++ kids_kept kid (length first) n ≡ take (length first + n) kids
unfolding kids_kept
kept_front kids first kid zero new front few =
    let e : length first ≡ length first + 0 = omega arith in
    append-nil first ∙ front ∙ ap (λ m. take m kids) e
kept_front kids first kid (suc n) new front few =
    let k = length first + n in
    let low : k < length kids = omega (arith, few) in
    let w = get_some kids k low in
    let next : kid k ≡ Some w.0 = new k (omega arith) low ∙ w.1 in
    let e : k + 1 ≡ length first + suc n = omega arith in
    ap (λ o. first ++ (kids_kept kid (length first) n ++ kept_one o)) next ∙ sym (append_assoc first (kids_kept kid (length first) n) (w.0 ∷ []))
    ∙ ap (λ xs. xs ++ w.0 ∷ []) (kept_front kids first kid n new front (omega (arith, few))) ∙ sym (take_got kids k w.0 w.1) ∙ ap (λ m. take m kids) e

pub kept_kids : (kids first : List ℕ) (count : Option ℕ) (kid : ℕ → Option ℕ) → IsHeld kids (length first) count kid → first ≡ take (length first) kids
    → with_kept first count kid ≡ kids
kept_kids kids first count kid held front =
    let all : length first + (length kids - length first) ≡ length kids = omega (arith, held.low) in
    ap (λ m. first ++ kids_kept kid (length first) (m - length first)) held.many
    ∙ kept_front kids first kid (length kids - length first) held.new front (omega (arith, all)) ∙ ap (λ m. take m kids) all
    ∙ take_all (length kids) kids (omega arith)

pub base_kids : (b : Source) (added : List Added) (x : Directory) (m : Places) (u : Token) (t : ℕ) (first rows : List ℕ) → IsWhole b added x m → IsTrue (is_child_table t)
    → u.table ≡ owner_table t → first ≡ kids_of (chain_with b []).plain u t
    → rows ≡ with_kept first (value_at x.counts (kids_key t u 0)) (λ i. value_at x.kids (kids_key t u i))
    → rows ≡ kids_of (chain_with b (sources added)).plain u t
base_kids b added x m u t first rows whole child owners is made =
    let many : length first ≡ length (kids_of (chain_with b []).plain u t) = ap (λ (xs : List ℕ). length xs) is in
    made ∙ kept_kids (kids_of (chain_with b (sources added)).plain u t) first (value_at x.counts (kids_key t u 0)) (λ i. value_at x.kids (kids_key t u i))
    (rw is (whole.directory.kids u t child owners)) (kids_front b added u t (length first) first whole.deltas.sound whole.deltas.all child many is)

-- no more than the first
pub none_more : (first : List ℕ) (kid : ℕ → Option ℕ) (i : ℕ) → i ≡ length first → first ≡ first ++ kids_kept kid (length first) (i - length first)
unfolding kids_kept
none_more first kid i is =
    let e : i - length first ≡ 0 = omega (arith, is) in
    sym (append-nil first) ∙ ap (λ n. first ++ kids_kept kid (length first) n) (sym e)

pub none_kept : (first : List ℕ) (o : Option ℕ) (kid : ℕ → Option ℕ) → o ≡ None → first ≡ with_kept first o kid
none_kept first o kid none = none_more first kid (length first) refl
    ∙ ap (λ x. first ++ kids_kept kid (length first) (unwrap_or x (length first) - length first)) (sym none)

-- and all, where there are so many
pub all_kept : (first rows : List ℕ) (o : Option ℕ) (kid : ℕ → Option ℕ) (i count : ℕ) → o ≡ Some count
    → rows ≡ first ++ kids_kept kid (length first) (i - length first) → i - length first ≤ count - length first → count ≤ i → rows ≡ with_kept first o kid
all_kept first rows o kid i count is made high past =
    let e : i - length first ≡ count - length first = omega (arith, high, past) in
    made ∙ ap (λ n. first ++ kids_kept kid (length first) n) e
    ∙ ap (λ x. first ++ kids_kept kid (length first) (unwrap_or x (length first) - length first)) (sym is)

-- with the next one
pub one_kept : (first rows more : List ℕ) (o : Option ℕ) (kid : ℕ → Option ℕ) (i : ℕ) → length first ≤ i → o ≡ kid i
    → rows ≡ first ++ kids_kept kid (length first) (i - length first) → more ≡ rows ++ kept_one o
    → more ≡ first ++ kids_kept kid (length first) (i + 1 - length first)
unfolding kids_kept
one_kept first rows more o kid i low is made put =
    let e : i + 1 - length first ≡ suc (i - length first) = omega (arith, low) in
    let at : length first + (i - length first) ≡ i = omega (arith, low) in
    let n = i - length first in
    put ∙ ap (λ x. rows ++ kept_one x) (is ∙ ap kid (sym at)) ∙ ap (λ xs. xs ++ kept_one (kid (length first + n))) made
    ∙ append_assoc first (kids_kept kid (length first) n) (kept_one (kid (length first + n))) ∙ ap (λ m. first ++ kids_kept kid (length first) m) (sym e)

-- the owner of a new child row is known
pub new_owner : (before after : Chain) (owner : Token → Option Token) (u : Token) (n : ℕ) → AreOwned before after owner → HasOwners after.plain
    → n ≡ length (rows_in before.plain u.table) → n < u.row → IsTrue (has_row after.plain u) → IsTrue (is_child_table u.table)
    → (owner u ≡ owner_of after.plain u) × (owner u ≡ None → ⊥)
unfolding has_row
new_owner before after owner u n owned sound many past row there =
    let high : u.row ≤ length (rows_in after.plain u.table) = grind (arith, nat_tests) in
    let is = owned.new u there (omega (arith, many, past)) high in
    let w = has_owner after.plain u sound.owned there (omega arith) high in
    (is, λ none. let e : Some w.owner ≡ None = sym (is ∙ w.is) ∙ none in cc)

pub owner_known : (b : Source) (added : List Added) (x : Directory) (m : Places) (u : Token) → IsWhole b added x m → (n : ℕ) → n ≡ length (rows_in (module_in b) u.table) → n < u.row → IsTrue (has_row (chain_with b (sources added)).plain u) → IsTrue (is_child_table u.table) → (value_at x.owners (row_key u) ≡ owner_of (chain_with b (sources added)).plain u) × (value_at x.owners (row_key u) ≡ None → ⊥)
owner_known b added x m u whole n many past row there =
    new_owner (chain_with b []) (chain_with b (sources added)) (λ t. value_at x.owners (row_key t)) u n whole.directory.owners
    (with_sound b added whole.deltas.sound whole.deltas.all) (rw (base_plain b) many) past row there
