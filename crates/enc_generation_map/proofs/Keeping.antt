-- Places with one generation more, and with some less.
use Rattle.std.proofs.Common.{◌≡◌, ℕ, zero, suc, ◌+◌, ◌-◌, ◌<◌, ◌≤◌, Bool, true, false, List, [], ◌∷◌, ◌++◌, length, take, get_or, Option, Some, None, refl, sym, ap, ◌∙◌, append-nil, inl, inr, arith}
use Rattle.std.specs.Prelude.{◌==◌, ◌&&◌, ◌||◌, if◌then◌else◌, option_map, unwrap_or, slice_get}
use Rattle.std.specs.List.{list_any}
use Rattle.std.proofs.lemmas.Bool.{cases_lt}
use Rattle.std.proofs.lemmas.Bool.Decides.{nat_tests}
use Rattle.std.proofs.lemmas.List.{length-append}
use Rattle.std.proofs.lemmas.List.Folds.{list_any_more}
use Rattle.enc_base.specs.declared.token.Token.{Token}
use Rattle.enc_base.specs.Token.{is_token}
use Rattle.enc_key_map.specs.declared.key.Key.{Key}
use Rattle.enc_key_map.specs.Key.{is_key}
use Rattle.enc_key_map.specs.Index.{value_at, latest, either}
use Rattle.enc_plain.proofs.Applied.{same_is}
use Rattle.enc_plain.specs.declared.place.RowPlace.{RowPlace}
use Rattle.enc_generation_map.specs.declared.places.Places.{Places}
use Rattle.enc_generation_map.specs.declared.places.Listings.{Listings}
use Rattle.enc_generation_map.specs.Places.{place_key, places_kept, generation_kept, BeginWith, KeepsPlaces, KeepsAllPlaces, one_place, with_own, AreListings, of_those, AreOfThose}

-- elements of lists one behind the other
pub get_front : {X : Type 0} (xs ys : List X) (i : ℕ) → i < length xs → slice_get (xs ++ ys) i ≡ slice_get xs i
get_front [] ys i low = absurd (omega arith)
get_front (x ∷ xs) ys zero low = refl
get_front (x ∷ xs) ys (suc i) low = get_front xs ys i (omega arith)

pub get_behind : {X : Type 0} (xs ys : List X) → slice_get (xs ++ ys) (length xs) ≡ slice_get ys 0
get_behind [] ys = refl
get_behind (x ∷ xs) ys = get_behind xs ys

-- the search by halves
pub before_next : (first : List RowPlace) (g n m : ℕ) (kept : ℕ → Option RowPlace) → BeginWith first g n kept → m < n → generation_kept (kept m) ≤ g → m < length first
before_next first g n m kept h low le = elim (cases_lt m (length first)) [
  | inl front ↦ front
  | inr behind ↦ absurd (let past = h.high m behind low in omega arith)
]

pub before_this : (first : List RowPlace) (g n m : ℕ) (kept : ℕ → Option RowPlace) → BeginWith first g n kept → g < generation_kept (kept m) → length first ≤ m
before_this first g n m kept h less = elim (cases_lt m (length first)) [
  | inl front ↦ absurd (let le = h.low m front in omega arith)
  | inr behind ↦ behind
]

pub none_last : (first : List RowPlace) (n : ℕ) → n ≡ length first → (1 ≤ n → ⊥) → None ≡ slice_get first (length first - 1)
none_last [] n e none = refl
none_last (p ∷ ps) n e none = absurd (none (omega (arith, e)))

pub last_is : (first : List RowPlace) (g n c last : ℕ) (kept : ℕ → Option RowPlace) (o : Option RowPlace) → BeginWith first g n kept → c ≡ length first → (1 ≤ c) × (last ≡ c - 1)
    → o ≡ kept last → o ≡ slice_get first (length first - 1)
last_is first g n c last kept o h many there is =
    let e : last ≡ length first - 1 = omega (arith, many, there.1) in
    is ∙ h.same last (omega (arith, many, there.0, there.1)) ∙ ap (slice_get first) e

-- what tokens have, with one token more
either_same : {V : Type 0} (o : Option V) → either o o ≡ o
either_same None = refl
either_same (Some v) = refl

either_none : {V : Type 0} (o : Option V) → either o None ≡ o
either_none None = refl
either_none (Some v) = refl

any_more : (all : List Token) (k : ℕ) (d t u : Token) → k < length all → t ≡ get_or all k d
    → list_any (λ x. is_token x u) (take (k + 1) all) ≡ (list_any (λ x. is_token x u) (take k all) || is_token t u)
any_more all k d t u low at = list_any_more (λ x. is_token x u) all k d low ∙ ap (λ x. list_any (λ y. is_token y u) (take k all) || is_token x u) (sym at)

and_true : (b : Bool) → (b && true) ≡ b
and_true true = refl
and_true false = refl

same_token : (u : Token) → is_token u u ≡ true
same_token u =
    let table : (u.table == u.table) ≡ true = grind (arith, nat_tests) in
    let row : (u.row == u.row) ≡ true = grind (arith, nat_tests) in
    rw (table, row) refl

count_step : {V : Type 0} (m l : Bool) (f : RowPlace → V) (v o : Option RowPlace) (g : RowPlace → V) → (m ≡ true → option_map g v ≡ option_map f o)
    → either (if m then option_map g v else None) (option_map f (if l then o else None)) ≡ option_map f (if l || m then o else None)
count_step true true f v o g mine = ap (λ x. either x (option_map f o)) (mine refl) ∙ either_same (option_map f o)
count_step true false f v o g mine = ap (λ x. either x None) (mine refl) ∙ either_none (option_map f o)
count_step false true f v o g mine = refl
count_step false false f v o g mine = refl

place_step : (m l a b : Bool) (v o : Option RowPlace) → (m ≡ true → a ≡ b) → (m ≡ true → v ≡ o)
    → either (if m && a then v else None) (if b then (if l then o else None) else None) ≡ (if b then (if l || m then o else None) else None)
place_step true true a true v o same mine = rw (same refl, mine refl) (either_same o)
place_step true false a true v o same mine = rw (same refl, mine refl) (either_none o)
place_step true l a false v o same mine = rw (same refl) refl
place_step false true a true v o same mine = refl
place_step false false a true v o same mine = refl
place_step false l a false v o same mine = refl

-- tokens with one more behind them
abbrev IsOneMore : List Token → Token → List Token → Type 0
IsOneMore ts t more = (u : Token) → list_any (λ x. is_token x u) more ≡ (list_any (λ x. is_token x u) ts || is_token t u)

one_listed : (x : Places) (own : Token → Option RowPlace) (ts more : List Token) (n : ℕ) (t : Token) (p : Option RowPlace) (old new : Listings) → IsOneMore ts t more
    → n ≡ places_kept x t → p ≡ own t
    → ((q : Key) → latest new.counts.items q ≡ either (if is_key (place_key t 0) q then option_map (λ (r : RowPlace). n + 1) p else None) (latest old.counts.items q))
    → ((q : Key) → latest new.places.items q ≡ either (if is_key (place_key t n) q then p else None) (latest old.places.items q))
    → AreOfThose x ts own old → AreOfThose x more own new
one_listed x own ts more n t p old new any many place counts places was = (
  λ u. counts (place_key u 0) ∙ ap (either (if is_key (place_key t 0) (place_key u 0) then option_map (λ (r : RowPlace). n + 1) p else None)) (was.0 u)
      ∙ ap (λ b. either (if b then option_map (λ (r : RowPlace). n + 1) p else None) (option_map (λ (r : RowPlace). places_kept x u + 1) (of_those ts own u))) (and_true (is_token t u))
      ∙ count_step (is_token t u) (list_any (λ y. is_token y u) ts) (λ (r : RowPlace). places_kept x u + 1) p (own u) (λ (r : RowPlace). n + 1)
      (λ same. let e = same_is t u same in rw (many, place, e) refl)
      ∙ ap (λ b. option_map (λ (r : RowPlace). places_kept x u + 1) (if b then own u else None)) (sym (any u)),
  λ u i. places (place_key u i) ∙ ap (either (if is_key (place_key t n) (place_key u i) then p else None)) (was.1 u i)
      ∙ place_step (is_token t u) (list_any (λ y. is_token y u) ts) (n == i) (places_kept x u == i) p (own u)
      (λ same. let e = same_is t u same in rw (many, e) refl) (λ same. place ∙ ap own (same_is t u same))
      ∙ ap (λ b. if places_kept x u == i then (if b then own u else None) else None) (sym (any u)),
)

-- the next of some tokens is put in
pub those_more : (x : Places) (own : Token → Option RowPlace) (all : List Token) (k n : ℕ) (d t : Token) (p : Option RowPlace) (old new : Listings) → k < length all
    → t ≡ get_or all k d → n ≡ places_kept x t → p ≡ own t
    → ((q : Key) → latest new.counts.items q ≡ either (if is_key (place_key t 0) q then option_map (λ (r : RowPlace). n + 1) p else None) (latest old.counts.items q))
    → ((q : Key) → latest new.places.items q ≡ either (if is_key (place_key t n) q then p else None) (latest old.places.items q))
    → AreOfThose x (take k all) own old → AreOfThose x (take (k + 1) all) own new
those_more x own all k n d t p old new low at many place counts places was =
    one_listed x own (take k all) (take (k + 1) all) n t p old new (λ u. any_more all k d t u low at) many place counts places was

-- or a token behind some
any_behind : (ts : List Token) (t u : Token) → list_any (λ x. is_token x u) (ts ++ t ∷ []) ≡ (list_any (λ x. is_token x u) ts || is_token t u)
any_behind [] t u = or_false (is_token t u)
  where
    or_false : (b : Bool) → (b || false) ≡ b
    or_false true = refl
    or_false false = refl
any_behind (x ∷ ts) t u = ap (λ b. is_token x u || b) (any_behind ts t u) ∙ or_three (is_token x u) (list_any (λ y. is_token y u) ts) (is_token t u)
  where
    or_three : (a b c : Bool) → (a || (b || c)) ≡ ((a || b) || c)
    or_three true b c = refl
    or_three false b c = refl

pub those_behind : (x : Places) (own : Token → Option RowPlace) (ts : List Token) (n : ℕ) (t : Token) (p : Option RowPlace) (old new : Listings) → n ≡ places_kept x t → p ≡ own t
    → ((q : Key) → latest new.counts.items q ≡ either (if is_key (place_key t 0) q then option_map (λ (r : RowPlace). n + 1) p else None) (latest old.counts.items q))
    → ((q : Key) → latest new.places.items q ≡ either (if is_key (place_key t n) q then p else None) (latest old.places.items q))
    → AreOfThose x ts own old → AreOfThose x (ts ++ t ∷ []) own new
those_behind x own ts n t p old new many place counts places was =
    one_listed x own ts (ts ++ t ∷ []) n t p old new (any_behind ts t) many place counts places was

if_none : (b : Bool) → ◌≡◌ {A = Option RowPlace} None (if b then None else None)
if_none true = refl
if_none false = refl

pub no_listings : (x : Places) (own : Token → Option RowPlace) (l : Listings) → l.places.items ≡ [] → l.counts.items ≡ [] → AreOfThose x [] own l
no_listings x own l places counts = (λ u. rw counts refl, λ u i. rw places (if_none (places_kept x u == i)))

-- of all tokens that have some
pub those_all : (all : List Token) (own : Token → Option RowPlace) (u : Token) → (list_any (λ t. is_token t u) all ≡ false → own u ≡ None) → of_those all own u ≡ own u
those_all all own u none = by_any (list_any (λ t. is_token t u) all) refl
  where
    by_any : (b : Bool) → list_any (λ t. is_token t u) all ≡ b → (if b then own u else None) ≡ own u
    by_any true e = refl
    by_any false e = sym (none e)

if_true : (b : Bool) (o : Option RowPlace) → b ≡ true → (if b then o else None) ≡ o
if_true true o h = refl
if_true false o h = absurd cc

if_false : (b : Bool) (o : Option RowPlace) → b ≡ false → (if b then o else None) ≡ None
if_false true o h = absurd cc
if_false false o h = refl

same_number : (n m : ℕ) → n ≡ m → (n == m) ≡ true
same_number n m e = grind (arith, nat_tests)

other_number : (n m i : ℕ) → n ≡ m → i < m → (n == i) ≡ false
other_number n m i e low = grind (arith, nat_tests)

pub all_listings : (every : Token → List RowPlace) (g : ℕ) (x : Places) (has own : Token → Option RowPlace) (all : List Token) (l : Listings) → KeepsAllPlaces every g x
    → ((u : Token) → of_those all has u ≡ own u) → AreOfThose x all has l → AreListings every own l
all_listings every g x has own all l keeps same those = record {
  counts = λ u. those.0 u ∙ ap (option_map (λ (p : RowPlace). places_kept x u + 1)) (same u) ∙ ap (λ n. option_map (λ (p : RowPlace). n + 1) (own u)) (keeps.all u);
  last = λ u. those.1 u (length (every u)) ∙ if_true _ _ (same_number (places_kept x u) (length (every u)) (keeps.all u)) ∙ same u;
  others = λ u i low. those.1 u i ∙ if_false _ _ (other_number (places_kept x u) (length (every u)) i (keeps.all u) low);
}

-- with what the next generation brings
abbrev IsOf : ℕ → Option RowPlace → Type 0
IsOf generation o = (p : RowPlace) → o ≡ Some p → p.generation ≡ generation

abbrev has_all : List RowPlace → ℕ → ℕ → (ℕ → Option RowPlace) → Type 0
has_all first generation count kept = BeginWith first generation count kept × (count ≡ length first)

with_one : (ps : List RowPlace) (g : ℕ) (o : Option RowPlace) (count more now : Option ℕ) (kept brought here : ℕ → Option RowPlace)
    → IsOf (suc g) o → BeginWith ps g (unwrap_or count 0) kept → unwrap_or count 0 ≡ length ps → more ≡ option_map (λ (p : RowPlace). length ps + 1) o
    → brought (length ps) ≡ o → ((i : ℕ) → i < length ps → brought i ≡ None)
    → now ≡ either more count → ((i : ℕ) → here i ≡ either (brought i) (kept i)) → has_all (ps ++ one_place o) (suc g) (unwrap_or now 0) here
with_one ps g None count more now kept brought here is_of was many counted own others puts gives =
    let same_count : unwrap_or now 0 ≡ length ps = ap (λ x. unwrap_or x 0) (puts ∙ ap (λ m. either m count) counted) ∙ many in
    let same_places : (i : ℕ) → i < length ps → here i ≡ kept i = λ i low. gives i ∙ ap (λ m. either m (kept i)) (others i low) in
    rw (append-nil ps) (
      record {
        few = omega (arith, same_count);
        same = λ i low. same_places i low ∙ was.same i low;
        low = λ i low. rw (same_places i low) (omega (arith, was.low i low));
        high = λ i le low. absurd (omega (arith, le, low, same_count));
      },
      same_count,
    )
with_one ps g (Some p) count more now kept brought here is_of was many counted own others puts gives =
    let x = one_place (Some p) in
    let longer : length (ps ++ x) ≡ length ps + 1 = length-append ps x in
    let next_count : unwrap_or now 0 ≡ length (ps ++ x) = ap (λ y. unwrap_or y 0) (puts ∙ ap (λ m. either m count) counted) ∙ sym longer in
    let last : here (length ps) ≡ Some p = gives (length ps) ∙ ap (λ m. either m (kept (length ps))) own in
    let old : (i : ℕ) → i < length ps → here i ≡ kept i = λ i low. gives i ∙ ap (λ m. either m (kept i)) (others i low) in (
      record {
        few = omega (arith, next_count);
        same = λ i low. elim (cases_lt i (length ps)) [
          | inl front ↦ old i front ∙ was.same i front ∙ sym (get_front ps x i front)
          | inr behind ↦ let e : i ≡ length ps = omega (arith, behind, low, longer) in rw e (last ∙ sym (get_behind ps x))
        ];
        low = λ i low. elim (cases_lt i (length ps)) [
          | inl front ↦ rw (old i front) (omega (arith, was.low i front))
          | inr behind ↦ let e : i ≡ length ps = omega (arith, behind, low, longer) in rw (e, last) (omega (arith, is_of p refl))
        ];
        high = λ i le low. absurd (omega (arith, le, low, next_count));
      },
      next_count,
    )

pub keeps_more : (every : Token → List RowPlace) (g : ℕ) (own : Token → Option RowPlace) (x y : Places) (l : Listings)
    → ((q : Key) → value_at y.places q ≡ either (latest l.places.items q) (value_at x.places q))
    → ((q : Key) → value_at y.counts q ≡ either (latest l.counts.items q) (value_at x.counts q))
    → ((u : Token) → IsOf (suc g) (own u)) → KeepsAllPlaces every g x → AreListings every own l → KeepsAllPlaces (with_own every own) (suc g) y
keeps_more every g own x y l places counts is_of was brought = record { first = λ u. (both u).0; all = λ u. (both u).1 }
  where
    both : (u : Token) → has_all (every u ++ one_place (own u)) (suc g) (places_kept y u) (λ i. value_at y.places (place_key u i))
    both u = with_one (every u) g (own u) (value_at x.counts (place_key u 0)) (latest l.counts.items (place_key u 0)) (value_at y.counts (place_key u 0))
        (λ i. value_at x.places (place_key u i)) (λ i. latest l.places.items (place_key u i)) (λ i. value_at y.places (place_key u i))
        (is_of u) (was.first u) (was.all u) (brought.counts u) (brought.last u) (brought.others u) (counts (place_key u 0)) (λ i. places (place_key u i))

-- without what the last generation brought
without_one : (ps : List RowPlace) (g count : ℕ) (o : Option RowPlace) (kept : ℕ → Option RowPlace) → IsOf (suc g) o
    → ((i : ℕ) → i < length ps → generation_kept (slice_get ps i) ≤ g) → BeginWith (ps ++ one_place o) (suc g) count kept → BeginWith ps g count kept
without_one ps g count None kept is_of within was =
    let h : BeginWith ps (suc g) count kept = rw (append-nil ps) at was in
    record {
      few = h.few;
      same = h.same;
      low = λ i low. rw (h.same i low) (within i low);
      high = λ i le low. omega (arith, h.high i le low);
    }
without_one ps g count (Some p) kept is_of within was =
    let x = one_place (Some p) in
    let longer : length (ps ++ x) ≡ length ps + 1 = length-append ps x in
    let same : (i : ℕ) → i < length ps → kept i ≡ slice_get ps i = λ i low. was.same i (omega (arith, low, longer)) ∙ get_front ps x i low in
    record {
      few = omega (arith, was.few, longer);
      same = same;
      low = λ i low. rw (same i low) (within i low);
      high = λ i le low. elim (cases_lt (length ps) i) [
        | inl past ↦ omega (arith, was.high i (omega (arith, past, longer)) low)
        | inr first ↦
            let e : i ≡ length ps = omega (arith, le, first) in
            let last : kept (length ps) ≡ Some p = was.same (length ps) (omega (arith, longer)) ∙ get_behind ps x in
            rw (e, last) (omega (arith, is_of p refl))
      ];
    }

pub keeps_less : (every : Token → List RowPlace) (g : ℕ) (own : Token → Option RowPlace) (x : Places) → ((u : Token) → IsOf (suc g) (own u))
    → ((u : Token) (i : ℕ) → i < length (every u) → generation_kept (slice_get (every u) i) ≤ g) → KeepsPlaces (with_own every own) (suc g) x → KeepsPlaces every g x
keeps_less every g own x is_of within keeps u = without_one (every u) g (places_kept x u) (own u) (λ i. value_at x.places (place_key u i)) (is_of u) (within u) (keeps u)

-- no place is past its generation
pub own_within : (ps : List RowPlace) (g : ℕ) (o : Option RowPlace) → IsOf (suc g) o → ((i : ℕ) → i < length ps → generation_kept (slice_get ps i) ≤ g)
    → (i : ℕ) → i < length (ps ++ one_place o) → generation_kept (slice_get (ps ++ one_place o) i) ≤ suc g
own_within ps g None is_of before i low =
    let e : length (ps ++ []) ≡ length ps = ap (λ (xs : List RowPlace). length xs) (append-nil ps) in
    rw (append-nil ps) (omega (arith, before i (omega (arith, e, low))))
own_within ps g (Some p) is_of before i low = elim (cases_lt i (length ps)) [
  | inl front ↦ rw (get_front ps (one_place (Some p)) i front) (omega (arith, before i front))
  | inr behind ↦
      let e : i ≡ length ps = omega (arith, low, behind, length-append ps (one_place (Some p))) in
      rw (e, get_behind ps (one_place (Some p))) (omega (arith, is_of p refl))
]

-- the last of them
pub last_with : (ps : List RowPlace) (o : Option RowPlace) → slice_get (ps ++ one_place o) (length (ps ++ one_place o) - 1) ≡ either o (slice_get ps (length ps - 1))
last_with ps None = rw (append-nil ps) refl
last_with ps (Some p) =
    let e : length (ps ++ one_place (Some p)) - 1 ≡ length ps = omega (arith, length-append ps (one_place (Some p))) in
    rw e (get_behind ps (one_place (Some p)))

-- a token has no more places than there are generations
pub own_few : (o : Option RowPlace) → length (one_place o) ≤ 1
own_few None = omega arith
own_few (Some p) = omega arith

-- where none is kept
pub keeps_none : (x : Places) → ((q : Key) → value_at x.counts q ≡ None) → KeepsAllPlaces (λ u. []) 0 x
keeps_none x none = record {
  first = λ u. let e : places_kept x u ≡ 0 = rw (none (place_key u 0)) refl in record {
    few = omega arith;
    same = λ i low. absurd (omega arith);
    low = λ i low. absurd (omega arith);
    high = λ i le low. absurd (omega (arith, low, e));
  };
  all = λ u. rw (none (place_key u 0)) refl;
}
