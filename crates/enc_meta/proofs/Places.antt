-- Where values begin in a heap.
use Rattle.std.proofs.Common.{◌≡◌, ℕ, ◌+◌, ◌<◌, Bool, true, false, cond, ◌||◌, ◌&&◌, zero, suc, get_or, take, List, [], ◌∷◌, ◌++◌, length, map, Option, Some, None, nat_eq, refl, ◌∙◌, arith}
use Rattle.std.specs.Prelude.{bytes_eq, sum_by, if◌then◌else◌, IfSome, IfNone}
use Rattle.std.specs.List.{list_all}
use Rattle.std.proofs.lemmas.List.Concat.{flat_map-append}
use Rattle.std.specs.Map.{lookup, keys_of}
use Rattle.std.proofs.lemmas.Bool.Decides.{nat_tests}
use Rattle.std.proofs.lemmas.List.Sums.{sum_by-cons}
use Rattle.std.proofs.lemmas.List.{map-append, map_more, append-nil}
use Rattle.indexmap.specs.IndexMap.{IndexMap, insert_entry}
use Rattle.indexmap.proofs.CallerLemmas.{insert_entry-new}
use Rattle.enc_base.specs.Numbers.{is_empty}
use Rattle.enc_meta.specs.Built.{is_among, is_kept, with_value, place_among, offset_in, joined_end, heap_bytes}
use Rattle.enc_meta.specs.Pools.{ArePlaced}

-- it doesn't matter which of two lists of bytes is compared to which
pub bytes_eq_sym : (xs ys : List ℕ) → bytes_eq xs ys ≡ bytes_eq ys xs
bytes_eq_sym [] [] = refl
bytes_eq_sym [] (y ∷ ys) = refl
bytes_eq_sym (x ∷ xs) [] = refl
bytes_eq_sym (x ∷ xs) (y ∷ ys) =
    let e : nat_eq x y ≡ nat_eq y x = grind (arith, nat_tests) in
    rw (e, bytes_eq_sym xs ys) refl

-- behind all values where it isn't there
pub place_behind : (encode : List ℕ → List ℕ) (at : ℕ) (values : List (List ℕ)) (v : List ℕ) → is_among values v ≡ false → place_among encode at values v ≡ at + sum_by (λ (w : List ℕ). length (encode w)) values
unfolding place_among
place_behind encode at [] v none = omega arith
place_behind encode at (w ∷ rest) v none = by (bytes_eq w v) none (place_behind encode (at + length (encode w)) rest v)
  where
    by : (b : Bool) → (b || is_among rest v) ≡ false → (is_among rest v ≡ false → place_among encode (at + length (encode w)) rest v ≡ at + length (encode w) + sum_by (λ (x : List ℕ). length (encode x)) rest) → (if b then at else place_among encode (at + length (encode w)) rest v) ≡ at + sum_by (λ (x : List ℕ). length (encode x)) (w ∷ rest)
    by true h more = absurd (cc)
    by false h more = rw (more h, sum_by-cons (λ (x : List ℕ). length (encode x)) w rest) (omega arith)

-- what a look-up among placed values says
abbrev Says : (List ℕ → List ℕ) → ℕ → List (List ℕ) → List ℕ → Option ℕ → Type 0
Says encode at values v None = is_among values v ≡ false
Says encode at values v (Some offset) = (is_among values v ≡ true) × (offset ≡ place_among encode at values v)

looked_up : {K : Type 0} (seen : K → List ℕ) (encode : List ℕ → List ℕ) (at : ℕ) (es : List (K × ℕ)) (v : List ℕ) → ArePlaced seen encode at es → Says encode at (map seen (keys_of es)) v (lookup (λ k. bytes_eq v (seen k)) es)
unfolding place_among
looked_up seen encode at [] v placed = refl
looked_up {K} seen encode at (e ∷ rest) v placed = by (bytes_eq v (seen e.0)) (lookup (λ k. bytes_eq v (seen k)) rest) (bytes_eq_sym (seen e.0) v) (looked_up seen encode (at + length (encode (seen e.0))) rest v placed.1)
  where
    by : (b : Bool) (o : Option ℕ) → bytes_eq (seen e.0) v ≡ b → Says encode (at + length (encode (seen e.0))) (map seen (keys_of rest)) v o → Says encode at (map seen (keys_of (e ∷ rest))) v (cond b (Some e.1) o)
    by true o is h = (rw is refl, rw is placed.0)
    by false None is h = rw is h
    by false (Some x) is h = (rw is h.0, rw is h.1)

says_some : (encode : List ℕ → List ℕ) (at : ℕ) (values : List (List ℕ)) (v : List ℕ) (o : Option ℕ) → Says encode at values v o → IfSome o (λ offset. (is_among values v ≡ true) × (offset ≡ place_among encode at values v))
says_some encode at values v None says = tt
says_some encode at values v (Some offset) says = says

says_none : (encode : List ℕ → List ℕ) (at : ℕ) (values : List (List ℕ)) (v : List ℕ) (o : Option ℕ) → Says encode at values v o → IfNone o (is_among values v ≡ false)
says_none encode at values v None says = says
says_none encode at values v (Some offset) says = tt

pub looked_up_some : {K : Type 0} (seen : K → List ℕ) (encode : List ℕ → List ℕ) (at : ℕ) (es : List (K × ℕ)) (v : List ℕ) (o : Option ℕ) → ArePlaced seen encode at es → o ≡ lookup (λ k. bytes_eq v (seen k)) es → IfSome o (λ offset. (is_among (map seen (keys_of es)) v ≡ true) × (offset ≡ place_among encode at (map seen (keys_of es)) v))
looked_up_some seen encode at es v o placed is = rw is (says_some encode at _ v _ (looked_up seen encode at es v placed))

pub looked_up_none : {K : Type 0} (seen : K → List ℕ) (encode : List ℕ → List ℕ) (at : ℕ) (es : List (K × ℕ)) (v : List ℕ) (o : Option ℕ) → ArePlaced seen encode at es → o ≡ lookup (λ k. bytes_eq v (seen k)) es → IfNone o (is_among (map seen (keys_of es)) v ≡ false)
looked_up_none seen encode at es v o placed is = rw is (says_none encode at _ v _ (looked_up seen encode at es v placed))

-- a value that isn't there isn't looked up
pub not_looked_up : {K : Type 0} (seen : K → List ℕ) (es : List (K × ℕ)) (v : List ℕ) → is_among (map seen (keys_of es)) v ≡ false → lookup (λ k. bytes_eq v (seen k)) es ≡ None
not_looked_up seen [] v none = refl
not_looked_up {K} seen (e ∷ rest) v none = by (bytes_eq v (seen e.0)) (bytes_eq_sym (seen e.0) v) none (not_looked_up seen rest v)
  where
    by : (b : Bool) → bytes_eq (seen e.0) v ≡ b → (bytes_eq (seen e.0) v || is_among (map seen (keys_of rest)) v) ≡ false → (is_among (map seen (keys_of rest)) v ≡ false → lookup (λ k. bytes_eq v (seen k)) rest ≡ None) → cond b (Some e.1) (lookup (λ k. bytes_eq v (seen k)) rest) ≡ None
    by true is h more = absurd (cc (rw is at h))
    by false is h more = more (rw is at h)

-- one more value, placed behind the others
pub placed_more : {K : Type 0} (seen : K → List ℕ) (encode : List ℕ → List ℕ) (at end : ℕ) (es : List (K × ℕ)) (k : K) → ArePlaced seen encode at es → end ≡ at + sum_by (λ (w : List ℕ). length (encode w)) (map seen (keys_of es)) → ArePlaced seen encode at (es ++ (k, end) ∷ [])
placed_more seen encode at end [] k placed is = (omega (arith, is), tt)
placed_more seen encode at end (e ∷ rest) k placed is =
    let s = sum_by-cons (λ (w : List ℕ). length (encode w)) (seen e.0) (map seen (keys_of rest)) in
    (placed.0, placed_more seen encode (at + length (encode (seen e.0))) end rest k placed.1 (omega (arith, is, s)))

pub seen_more : {K : Type 0} (seen : K → List ℕ) (es : List (K × ℕ)) (k : K) (end : ℕ) → map seen (keys_of (es ++ (k, end) ∷ [])) ≡ map seen (keys_of es) ++ seen k ∷ []
seen_more seen es k end = rw (map-append, map-append) refl

not_among : (values : List (List ℕ)) (v : List ℕ) → is_kept values v ≡ false → is_among values v ≡ false
unfolding is_kept
not_among values v new = by (is_empty v) new
  where
    by : (b : Bool) → (b || is_among values v) ≡ false → is_among values v ≡ false
    by true h = absurd (cc)
    by false h = h

pub not_empty : (values : List (List ℕ)) (v : List ℕ) → is_kept values v ≡ false → is_empty v ≡ false
unfolding is_kept
not_empty values v new = by (is_empty v) new
  where
    by : (b : Bool) → (b || is_among values v) ≡ false → b ≡ false
    by true h = absurd (cc)
    by false h = refl

-- a value that isn't there goes last
pub new_last : {K S : Type 0} (seen : K → List ℕ) (m : IndexMap K ℕ S) (k : K) (v : List ℕ) (at : ℕ) (es : List (K × ℕ)) → seen k ≡ v → is_kept (map seen (keys_of m.entries)) v ≡ false → es ≡ insert_entry (λ x y. bytes_eq (seen x) (seen y)) m.entries k at → es ≡ m.entries ++ (k, at) ∷ []
new_last seen m k v at es is new e =
    e ∙ insert_entry-new (λ x y. bytes_eq (seen x) (seen y)) m k at (rw is (not_looked_up seen m.entries v (not_among _ v new)))

-- the values with it, and its offset
pub with_new : (values : List (List ℕ)) (v : List ℕ) → is_kept values v ≡ false → with_value values v ≡ values ++ v ∷ []
unfolding with_value
with_new values v new = rw new refl

pub with_kept : (values : List (List ℕ)) (v : List ℕ) → is_kept values v ≡ true → with_value values v ≡ values
unfolding with_value
with_kept values v kept = rw kept refl

pub offset_new : (encode : List ℕ → List ℕ) (start : ℕ) (values : List (List ℕ)) (v : List ℕ) → is_kept values v ≡ false → offset_in encode start values v ≡ joined_end encode start values
unfolding offset_in joined_end is_kept
offset_new encode start values v new = by (is_empty v) new
  where
    by : (b : Bool) → (b || is_among values v) ≡ false → (if b then 0 else place_among encode (start + 1) values v) ≡ start + 1 + sum_by (λ (w : List ℕ). length (encode w)) values
    by true h = absurd (cc)
    by false h = place_behind encode (start + 1) values v h

-- what holds of all holds of each
pub at_each : {K : Type 0} (seen : K → List ℕ) (test : List ℕ → Bool) (xs : List K) (i : ℕ) (d : K) → i < length xs → list_all test (map seen xs) ≡ true → test (seen (get_or xs i d)) ≡ true
at_each seen test [] i d within all = absurd (omega (arith, within))
at_each seen test (x ∷ rest) zero d within all = by (test (seen x)) (list_all test (map seen rest)) all
  where
    by : (b c : Bool) → (b && c) ≡ true → b ≡ true
    by true c h = refl
    by false c h = h
at_each seen test (x ∷ rest) (suc i) d within all = at_each seen test rest i d (omega (arith, within)) (by (test (seen x)) (list_all test (map seen rest)) all)
  where
    by : (b c : Bool) → (b && c) ≡ true → c ≡ true
    by true c h = h
    by false c h = absurd (cc)

-- the bytes with one value more
pub heap_more : {K : Type 0} (seen : K → List ℕ) (encode : List ℕ → List ℕ) (xs : List K) (i : ℕ) (d : K) → i < length xs → heap_bytes encode (map seen (take (i + 1) xs)) ≡ heap_bytes encode (map seen (take i xs)) ++ encode (seen (get_or xs i d))
unfolding heap_bytes
heap_more seen encode xs i d within =
    rw (map_more seen xs i d within, flat_map-append encode (map seen (take i xs)) (seen (get_or xs i d) ∷ []), append-nil (encode (seen (get_or xs i d)))) refl
