-- The newest delta that tells of a method, as it is looked for.
use Rattle.std.proofs.Common.{◌≡◌, ℕ, zero, suc, ◌+◌, ◌-◌, ◌^◌, ◌<◌, ◌≤◌, Bool, true, false, List, [], ◌∷◌, ◌++◌, length, take, drop, map, get_or, reverse, Option, Some, None, refl, sym, ap, subst, ◌∙◌, append_assoc, append-nil, arith}
use Rattle.std.specs.Prelude.{◌==◌, ◌&&◌, ◌||◌, if◌then◌else◌, is_some, position, option_map, slice_get}
use Rattle.std.specs.List.{list_any}
use Rattle.std.proofs.lemmas.Bool.Decides.{nat_tests}
use Rattle.std.proofs.lemmas.List.{reverse-append, reverse-reverse, length-append, length-map, length-reverse, take_all, take_more}
use Rattle.std.proofs.lemmas.Option.{get_or_from_slice_get, slice_get_within}
use Rattle.enc_base.specs.Token.{is_token, nth_row}
use Rattle.enc_base.specs.declared.token.Token.{Token}
use Rattle.enc_key_map.specs.declared.key.Key.{Key}
use Rattle.enc_key_map.specs.Key.{is_key}
use Rattle.enc_key_map.specs.Index.{value_at, latest, either}
use Rattle.enc_generation_map.specs.declared.places.Listings.{Listings}
use Rattle.enc_generation_map.specs.declared.places.Places.{Places}
use Rattle.enc_generation_map.specs.Places.{place_key, places_kept, generation_kept, BeginWith, KeepsPlaces, KeepsAllPlaces, one_place, AreOfThose}
use Rattle.enc_generation_map.proofs.Keeping.{get_front, get_behind, those_behind, all_listings, keeps_more, keeps_less, keeps_none, own_within, own_few, last_with}
use Rattle.enc_plain.specs.SoundDebug.{IsSoundPdb}
use Rattle.enc_plain.specs.declared.place.RowPlace.{RowPlace}
use Rattle.enc_rows.specs.Source.{Source}
use Rattle.enc_base.specs.Tables as tables
use Rattle.enc_ppdb.specs.Fault.{named_tokens}
use Rattle.enc_ppdb.specs.KnownAt.{known_or, known_at}
use Rattle.enc_ppdb.specs.PdbChain.{DebugDelta, base_row, delta_row, pdb_with}
use Rattle.enc_ppdb.specs.PlacedAt.{number_or, file_number}
use Rattle.enc_ppdb.specs.Points.{names_method, row_for}
use Rattle.enc_ppdb.specs.Told.{method_named_by, methods_named, told_methods, tells_of, own_told, told_by, every_told, AreToldBy, IsPdbWhole, IsEarlierPdb}
use Rattle.enc_ppdb.proofs.KnownFiles.{take_short, reversed_front}
use Rattle.enc_ppdb.proofs.Positions.{position_any}

-- methods listed one by one behind others
pub none_listed : (x : Places) (ts ms : List Token) (own : Token → Option RowPlace) (l : Listings) → AreOfThose x ts own l → AreOfThose x (ts ++ take 0 ms) own l
none_listed x ts ms own l those = rw (append-nil ts) those

pub listed_more : (x : Places) (ts ms : List Token) (own : Token → Option RowPlace) (k n : ℕ) (t : Token) (p : Option RowPlace) (old new : Listings) → slice_get ms k ≡ Some t
    → n ≡ places_kept x t → p ≡ own t
    → ((q : Key) → latest new.counts.items q ≡ either (if is_key (place_key t 0) q then option_map (λ (r : RowPlace). n + 1) p else None) (latest old.counts.items q))
    → ((q : Key) → latest new.places.items q ≡ either (if is_key (place_key t n) q then p else None) (latest old.places.items q))
    → AreOfThose x (ts ++ take k ms) own old → AreOfThose x (ts ++ take (k + 1) ms) own new
listed_more x ts ms own k n t p old new at many place counts places was =
    let more : take (k + 1) ms ≡ take k ms ++ t ∷ [] = take_more ms k t (slice_get_within ms k t at) ∙ ap (λ y. take k ms ++ y ∷ []) (get_or_from_slice_get ms k t t at) in
    let e : ts ++ take (k + 1) ms ≡ (ts ++ take k ms) ++ t ∷ [] = ap (λ ys. ts ++ ys) more ∙ sym (append_assoc ts (take k ms) (t ∷ [])) in
    rw e (those_behind x own (ts ++ take k ms) n t p old new many place counts places was)

pub all_listed : (x : Places) (ts : List Token) (s : Source) (own : Token → Option RowPlace) (k : ℕ) (l : Listings) → length (named_tokens s) ≤ k
    → AreOfThose x (ts ++ take k (map method_named_by (named_tokens s))) own l → AreOfThose x (ts ++ map method_named_by (named_tokens s)) own l
all_listed x ts s own k l past those =
    let e : take k (map method_named_by (named_tokens s)) ≡ map method_named_by (named_tokens s) = take_all k (map method_named_by (named_tokens s)) (omega (arith, past, length-map (named_tokens s) method_named_by)) in
    rw e at those

pub both_listed : (x : Places) (changed : List Token) (pdb : Option Source) (s : Source) (own : Token → Option RowPlace) (l : Listings) → pdb ≡ Some s
    → AreOfThose x (changed ++ map method_named_by (named_tokens s)) own l → AreOfThose x (told_methods (record { pdb = pdb; changed = changed })) own l
both_listed x changed pdb s own l is those = rw is those

-- they are those of which the delta tells something
turned : (a b : ℕ) → (a == b) ≡ (b == a)
turned a b = grind (arith, nat_tests)

turned_token : (t u : Token) → is_token t u ≡ is_token u t
turned_token t u = ap (λ x. x && (t.row == u.row)) (turned t.table u.table) ∙ ap (λ x. (u.table == t.table) && x) (turned t.row u.row)

any_same : (p q : Token → Bool) (ts : List Token) → ((t : Token) → p t ≡ q t) → list_any p ts ≡ list_any q ts
any_same p q [] h = refl
any_same p q (t ∷ ts) h = ap (λ b. b || list_any p ts) (h t) ∙ ap (λ b. q t || b) (any_same p q ts h)

any_map : (p : Token → Bool) (f : Token → Token) (ts : List Token) → list_any p (map f ts) ≡ list_any (λ t. p (f t)) ts
any_map p f [] = refl
any_map p f (t ∷ ts) = ap (λ b. p (f t) || b) (any_map p f ts)

any_append : (p : Token → Bool) (ts us : List Token) → list_any p (ts ++ us) ≡ (list_any p ts || list_any p us)
any_append p [] us = refl
any_append p (t ∷ ts) us = ap (λ b. p t || b) (any_append p ts us) ∙ or_three (p t) (list_any p ts) (list_any p us)
  where
    or_three : (a b c : Bool) → (a || (b || c)) ≡ ((a || b) || c)
    or_three true b c = refl
    or_three false b c = refl

some_mapped : {A B : Type 0} (f : A → B) (o : Option A) → is_some (option_map f o) ≡ is_some o
some_mapped f None = refl
some_mapped f (Some x) = refl

named_any : (pdb : Option Source) (u : Token) → list_any (λ t. is_token t u) (methods_named pdb) ≡ is_some (delta_row pdb u)
unfolding row_for
named_any None u = refl
named_any (Some s) u =
    any_map (λ t. is_token t u) method_named_by (named_tokens s)
    ∙ any_same (λ t. is_token (method_named_by t) u) (names_method u) (named_tokens s) (λ t. ap (λ b. b && (t.row == u.row)) (turned tables.method_def u.table))
    ∙ sym (position_any (names_method u) (named_tokens s))
    ∙ sym (some_mapped (nth_row tables.method_debug_information) (position (names_method u) (named_tokens s)))
    ∙ sym (some_mapped (λ (r : Token). (s, r)) (option_map (nth_row tables.method_debug_information) (position (names_method u) (named_tokens s))))

told_any : (d : DebugDelta) (u : Token) → list_any (λ t. is_token t u) (told_methods d) ≡ tells_of d u
told_any d u = any_append (λ t. is_token t u) d.changed (methods_named d.pdb)
    ∙ ap (λ b. b || list_any (λ t. is_token t u) (methods_named d.pdb)) (any_same (λ t. is_token t u) (is_token u) d.changed (λ t. turned_token t u))
    ∙ ap (λ b. list_any (is_token u) d.changed || b) (named_any d.pdb u)

pub are_told : (deltas : List DebugDelta) (d : DebugDelta) (x : Places) (g : ℕ) (l : Listings) → KeepsAllPlaces (every_told deltas) (length deltas) x → g ≡ suc (length deltas)
    → AreOfThose x (told_methods d) (own_told g) l → AreToldBy deltas d l
unfolding AreToldBy
are_told deltas d x g l keeps is those =
    all_listings (every_told deltas) (length deltas) x (own_told (suc (length deltas))) (told_by (suc (length deltas)) d) (told_methods d) l keeps
    (λ u. ap (λ b. if b then own_told (suc (length deltas)) u else None) (told_any d u)) (rw is at those)

-- with the newest delta, and without
of_generation : (g : ℕ) (b : Bool) (u : Token) (p : RowPlace) → (if b then own_told g u else None) ≡ Some p → p.generation ≡ g
of_generation g true u p is = sym (ap generation_kept is)
of_generation g false u p is = absurd cc

told_within : (deltas : List DebugDelta) (u : Token) (i : ℕ) → i < length (every_told deltas u) → generation_kept (slice_get (every_told deltas u) i) ≤ length deltas
unfolding every_told
told_within [] u i low = absurd (omega arith)
told_within (d ∷ older) u i low =
    own_within (every_told older u) (length older) (told_by (suc (length older)) d u) (λ p is. of_generation (suc (length older)) (tells_of d u) u p is) (told_within older u) i low

pub told_more : (deltas : List DebugDelta) (d : DebugDelta) (x y : Places) (l : Listings)
    → ((q : Key) → value_at y.places q ≡ either (latest l.places.items q) (value_at x.places q))
    → ((q : Key) → value_at y.counts q ≡ either (latest l.counts.items q) (value_at x.counts q))
    → KeepsAllPlaces (every_told deltas) (length deltas) x → AreToldBy deltas d l → KeepsAllPlaces (every_told (d ∷ deltas)) (length (d ∷ deltas)) y
unfolding every_told AreToldBy
told_more deltas d x y l places counts was brought =
    keeps_more (every_told deltas) (length deltas) (told_by (suc (length deltas)) d) x y l places counts
    (λ u p is. of_generation (suc (length deltas)) (tells_of d u) u p is) was brought

told_less : (d : DebugDelta) (older : List DebugDelta) (x : Places) → KeepsPlaces (every_told (d ∷ older)) (length (d ∷ older)) x
    → KeepsPlaces (every_told older) (length older) x
unfolding every_told
told_less d older x keeps = keeps_less (every_told older) (length older) (told_by (suc (length older)) d) x
    (λ u p is. of_generation (suc (length older)) (tells_of d u) u p is) (told_within older) keeps

pub told_first : (deltas : List DebugDelta) (k : ℕ) (x : Places) → KeepsPlaces (every_told deltas) (length deltas) x
    → KeepsPlaces (every_told (drop k deltas)) (length (drop k deltas)) x
told_first deltas zero x keeps = keeps
told_first [] (suc k) x keeps = keeps
told_first (d ∷ older) (suc k) x keeps = told_first older k x (told_less d older x keeps)

pub nothing_told : (x : Places) → ((q : Key) → value_at x.counts q ≡ None) → KeepsAllPlaces (every_told []) 0 x
unfolding every_told
nothing_told x none = keeps_none x none

told_few : (deltas : List DebugDelta) (u : Token) → length (every_told deltas u) ≤ length deltas
unfolding every_told
told_few [] u = omega arith
told_few (d ∷ older) u =
    let own = told_by (suc (length older)) d u in
    omega (arith, length-append (every_told older u) (one_place own), own_few own, told_few older u)

pub few_told : (added : List DebugDelta) (x : Places) (u : Token) → length added + 1 < 2 ^ 32 → KeepsAllPlaces (every_told (reverse added)) (length (reverse added)) x
    → places_kept x u + 1 < 2 ^ 32
few_told added x u few keeps = omega (arith, few, keeps.all u, told_few (reverse added) u, length-reverse added)

-- the newest delta that tells of a method is the one by which it is known
pub record IsTeller (base : Option Source) (none : ℕ) (deltas : List DebugDelta) (u : Token) (p : RowPlace) : Type 0 where
  pub delta : DebugDelta
  pub there : slice_get (reverse deltas) (p.generation - 1) ≡ Some delta
  pub low : 1 ≤ p.generation
  pub high : p.generation ≤ length deltas
  pub known : known_at base deltas u ≡ delta_row delta.pdb u
  pub number : file_number base none deltas u ≡ (if is_some (delta_row delta.pdb u) then p.generation else none)

abbrev Teller : Option Source → ℕ → List DebugDelta → Token → Option RowPlace → Type 0
Teller base none deltas u None =
    (known_at base deltas u ≡ base_row base u) × (file_number base none deltas u ≡ (if is_some (base_row base u) then 0 else none))
Teller base none deltas u (Some p) = IsTeller base none deltas u p

known_tells : (o : Option (Source × Token)) (c : Bool) (rest : Option (Source × Token)) → (c || is_some o) ≡ true → known_or o c rest ≡ o
known_tells (Some x) c rest h = refl
known_tells None true rest h = refl
known_tells None false rest h = absurd cc

known_else : (o : Option (Source × Token)) (c : Bool) (rest : Option (Source × Token)) → (c || is_some o) ≡ false → known_or o c rest ≡ rest
known_else (Some x) true rest h = absurd cc
known_else (Some x) false rest h = absurd cc
known_else None true rest h = absurd cc
known_else None false rest h = refl

number_tells : (s c : Bool) (own none rest : ℕ) → (c || s) ≡ true → number_or s c own none rest ≡ (if s then own else none)
number_tells true c own none rest h = refl
number_tells false true own none rest h = refl
number_tells false false own none rest h = absurd cc

number_else : (s c : Bool) (own none rest : ℕ) → (c || s) ≡ false → number_or s c own none rest ≡ rest
number_else true true own none rest h = absurd cc
number_else true false own none rest h = absurd cc
number_else false true own none rest h = absurd cc
number_else false false own none rest h = refl

teller_step : (base : Option Source) (none : ℕ) (d : DebugDelta) (older : List DebugDelta) (u : Token) (b : Bool) (o : Option RowPlace) → tells_of d u ≡ b
    → Teller base none older u o → Teller base none (d ∷ older) u (either (if b then own_told (suc (length older)) u else None) o)
unfolding known_at file_number
teller_step base none d older u true o tells rest =
    let e : length older + 1 ≡ suc (length older) = omega arith in
    let own : suc (length older) - 1 ≡ length older = omega arith in
    let front : reverse (d ∷ older) ≡ reverse older ++ d ∷ [] = reverse-append (d ∷ []) older in
    let last : slice_get (reverse older ++ d ∷ []) (length older) ≡ Some d = ap (slice_get (reverse older ++ d ∷ [])) (sym (length-reverse older)) ∙ get_behind (reverse older) (d ∷ []) in
    record {
      delta = d;
      there = ap (slice_get (reverse (d ∷ older))) own ∙ ap (λ xs. slice_get xs (length older)) front ∙ last;
      low = omega arith;
      high = omega arith;
      known = known_tells (delta_row d.pdb u) (list_any (is_token u) d.changed) _ tells;
      number = number_tells (is_some (delta_row d.pdb u)) (list_any (is_token u) d.changed) (length older + 1) none _ tells ∙ ap (λ n. if is_some (delta_row d.pdb u) then n else none) e;
    }
teller_step base none d older u false None tells rest = (
  known_else (delta_row d.pdb u) (list_any (is_token u) d.changed) _ tells ∙ rest.0,
  number_else (is_some (delta_row d.pdb u)) (list_any (is_token u) d.changed) (length older + 1) none _ tells ∙ rest.1,
)
teller_step base none d older u false (Some p) tells rest =
    let front : reverse (d ∷ older) ≡ reverse older ++ d ∷ [] = reverse-append (d ∷ []) older in
    record {
      delta = rest.delta;
      there = ap (λ xs. slice_get xs (p.generation - 1)) front ∙ get_front (reverse older) (d ∷ []) (p.generation - 1) (omega (arith, rest.low, rest.high, length-reverse older)) ∙ rest.there;
      low = rest.low;
      high = omega (arith, rest.high);
      known = known_else (delta_row d.pdb u) (list_any (is_token u) d.changed) _ tells ∙ rest.known;
      number = number_else (is_some (delta_row d.pdb u)) (list_any (is_token u) d.changed) (length older + 1) none _ tells ∙ rest.number;
    }

base_alone : (base : Option Source) (none : ℕ) (u : Token) → Teller base none [] u None
unfolding known_at file_number
base_alone base none u = (refl, refl)

teller : (base : Option Source) (none : ℕ) (deltas : List DebugDelta) (u : Token) → Teller base none deltas u (slice_get (every_told deltas u) (length (every_told deltas u) - 1))
unfolding every_told
teller base none [] u = base_alone base none u
teller base none (d ∷ older) u =
    subst (Teller base none (d ∷ older) u) (sym (last_with (every_told older u) (told_by (suc (length older)) d u)))
    (teller_step base none d older u (tells_of d u) (slice_get (every_told older u) (length (every_told older u) - 1)) refl (teller base none older u))

teller_kept : (base : Option Source) (none : ℕ) (added : List DebugDelta) (x : Places) (u : Token) (o : Option RowPlace)
    → KeepsPlaces (every_told (reverse added)) (length (reverse added)) x
    → ((first : List RowPlace) → BeginWith first (length added) (places_kept x u) (λ i. value_at x.places (place_key u i)) → o ≡ slice_get first (length first - 1))
    → Teller base none (reverse added) u o
teller_kept base none added x u o keeps told =
    let e : o ≡ slice_get (every_told (reverse added) u) (length (every_told (reverse added) u) - 1) = told (every_told (reverse added) u) (rw (length-reverse added) at (keeps u)) in
    subst (Teller base none (reverse added) u) (sym e) (teller base none (reverse added) u)

pub told_nowhere : (base : Option Source) (none : ℕ) (added : List DebugDelta) (x : Places) (u : Token) (o : Option RowPlace)
    → KeepsPlaces (every_told (reverse added)) (length (reverse added)) x
    → ((first : List RowPlace) → BeginWith first (length added) (places_kept x u) (λ i. value_at x.places (place_key u i)) → o ≡ slice_get first (length first - 1))
    → o ≡ None → Teller base none (reverse added) u None
told_nowhere base none added x u o keeps told is = subst (Teller base none (reverse added) u) is (teller_kept base none added x u o keeps told)

pub told_there : (base : Option Source) (none : ℕ) (added : List DebugDelta) (x : Places) (u : Token) (o : Option RowPlace) (p : RowPlace)
    → KeepsPlaces (every_told (reverse added)) (length (reverse added)) x
    → ((first : List RowPlace) → BeginWith first (length added) (places_kept x u) (λ i. value_at x.places (place_key u i)) → o ≡ slice_get first (length first - 1))
    → o ≡ Some p → IsTeller base none (reverse added) u p
told_there base none added x u o p keeps told is = subst (Teller base none (reverse added) u) is (teller_kept base none added x u o keeps told)

teller_is : (base : Option Source) (none : ℕ) (added : List DebugDelta) (u : Token) (p : RowPlace) (d : DebugDelta) (t : IsTeller base none (reverse added) u p)
    → d ≡ get_or added (p.generation - 1) d → d ≡ t.delta
teller_is base none added u p d t is =
    let there : slice_get added (p.generation - 1) ≡ Some t.delta = ap (λ xs. slice_get xs (p.generation - 1)) (sym (reverse-reverse added)) ∙ t.there in
    is ∙ get_or_from_slice_get added (p.generation - 1) t.delta d there

pub told_row : (base : Option Source) (none : ℕ) (added : List DebugDelta) (u : Token) (p : RowPlace) (d : DebugDelta) (o : Option (Source × Token))
    → IsTeller base none (reverse added) u p → d ≡ get_or added (p.generation - 1) d → o ≡ delta_row d.pdb u → o ≡ known_at base (reverse added) u
told_row base none added u p d o t is row = row ∙ ap (λ (x : DebugDelta). delta_row x.pdb u) (teller_is base none added u p d t is) ∙ sym t.known

pub told_number : (base : Option Source) (none : ℕ) (added : List DebugDelta) (u : Token) (p : RowPlace) (d : DebugDelta) (b : Bool)
    → IsTeller base none (reverse added) u p → d ≡ get_or added (p.generation - 1) d → is_some (delta_row d.pdb u) ≡ b
    → (if b then p.generation else none) ≡ file_number base none (reverse added) u
told_number base none added u p d b t is some =
    ap (λ c. if c then p.generation else none) (sym some ∙ ap (λ (x : DebugDelta). is_some (delta_row x.pdb u)) (teller_is base none added u p d t is)) ∙ sym t.number

pub base_number : (base : Option Source) (none : ℕ) (added : List DebugDelta) (u : Token) (b : Bool) → Teller base none (reverse added) u None → is_some (base_row base u) ≡ b
    → (if b then 0 else none) ≡ file_number base none (reverse added) u
base_number base none added u b t some = ap (λ c. if c then 0 else none) (sym some) ∙ sym t.1

-- what is kept of a chain, with one delta more
sound_behind : (base : Option Source) (d : DebugDelta) (older : List DebugDelta) → IsSoundPdb (pdb_with base (d ∷ older))
    → ((n : ℕ) → IsSoundPdb (pdb_with base (drop n older))) → (n : ℕ) → IsSoundPdb (pdb_with base (drop n (d ∷ older)))
sound_behind base d older last before zero = last
sound_behind base d older last before (suc n) = before n

pub whole_more : (base : Option Source) (added more : List DebugDelta) (d : DebugDelta) (x y : Places) (l : Listings) → more ≡ added ++ d ∷ []
    → IsSoundPdb (pdb_with base (reverse more))
    → ((q : Key) → value_at y.places q ≡ either (latest l.places.items q) (value_at x.places q))
    → ((q : Key) → value_at y.counts q ≡ either (latest l.counts.items q) (value_at x.counts q))
    → IsPdbWhole base (reverse added) x → AreToldBy (reverse added) d l → IsPdbWhole base (reverse more) y
whole_more base added more d x y l is sound places counts was brought =
    let e : reverse more ≡ d ∷ reverse added = ap reverse is ∙ reverse-append added (d ∷ []) in
    rw e (record { sound = sound_behind base d (reverse added) (rw e at sound) was.sound; places = told_more (reverse added) d x y l places counts was.places brought })

-- of a base alone
pub whole_begun : (base : Option Source) (x : Places) → IsSoundPdb (pdb_with base []) → ((q : Key) → value_at x.counts q ≡ None) → IsPdbWhole base [] x
whole_begun base x sound none = record { sound = by_number; places = nothing_told x none }
  where
    by_number : (n : ℕ) → IsSoundPdb (pdb_with base (drop n []))
    by_number zero = sound
    by_number (suc n) = sound

-- and of the first deltas
pub whole_first : (base : Option Source) (added : List DebugDelta) (g : ℕ) (x : Places) → length added + 1 < 2 ^ 32 → IsPdbWhole base (reverse added) x
    → IsEarlierPdb base (take g added) x
whole_first base added g x few whole =
    let front = reversed_front added g in
    record {
      few = omega (arith, few, take_short g added);
      sound = rw front (whole.sound (length (reverse added) - g));
      places = rw front (told_first (reverse added) (length (reverse added) - g) x whole.places.first);
    }
