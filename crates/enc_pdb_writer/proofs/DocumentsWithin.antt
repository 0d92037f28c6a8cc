-- The documents of a plain PDB are each once among those that points can have, and so weigh no more.
use Rattle.std.proofs.Common.{◌≡◌, ℕ, zero, suc, ◌+◌, ◌<◌, ◌≤◌, Bool, true, false, List, [], ◌∷◌, ◌++◌, Option, Some, None, refl, sym, ap, ◌∙◌, arith}
use Rattle.std.specs.Prelude.{◌&&◌, ◌||◌, not, sum_by, if◌then◌else◌}
use Rattle.std.specs.List.{list_any, list_all}
use Rattle.std.proofs.lemmas.Bool.{and_parts, and_from, or_left, or_right}
use Rattle.std.proofs.lemmas.List.Folds.{list_any-append, list_all-append}
use Rattle.std.proofs.lemmas.List.Sums.{sum_by-cons}
use Rattle.enc_plain.specs.Debug.{Document, PlainPoint, PlainPdb}
use Rattle.enc_ppdb.specs.Written.{is_same, with_document, with_some, with_points, nth_method, documents_of}
use Rattle.enc_ppdb.proofs.PdbRows.{same_self, same_is}

-- no document stands twice
pub apart : List Document → Bool
apart [] = true
apart (d ∷ ds) = not (list_any (is_same d) ds) && apart ds

same_flips : (a b : Document) → is_same a b ≡ is_same b a
same_flips a b = by (is_same a b) (is_same b a) refl refl
  where
    by : (x y : Bool) → is_same a b ≡ x → is_same b a ≡ y → x ≡ y
    by true true p q = refl
    by false false p q = refl
    by true false p q = let e : a ≡ b = same_is a b p in let f : is_same b a ≡ true = rw e (same_self b) in absurd (cc)
    by false true p q = let e : b ≡ a = same_is b a q in let f : is_same a b ≡ true = rw e (same_self a) in absurd (cc)

not_either : (a b : Bool) → (a || b) ≡ false → (a ≡ false) × (b ≡ false)
not_either true b e = absurd cc
not_either false b e = (refl, e)

apart_last : (ds : List Document) (d : Document) → apart ds ≡ true → list_any (is_same d) ds ≡ false → apart (ds ++ d ∷ []) ≡ true
unfolding apart
apart_last [] d are none = refl
apart_last (x ∷ ds) d are none =
    let parts = and_parts (not (list_any (is_same x) ds)) (apart ds) are in
    let others = not_either (is_same d x) (list_any (is_same d) ds) none in
    let last : list_any (is_same x) (ds ++ d ∷ []) ≡ list_any (is_same x) ds =
    list_any-append (is_same x) ds (d ∷ []) ∙ rw (same_flips x d, others.0) (or_false (list_any (is_same x) ds)) in
    and_from (not (list_any (is_same x) (ds ++ d ∷ []))) (apart (ds ++ d ∷ [])) (ap not last ∙ parts.0) (apart_last ds d parts.1 others.1)
  where
    or_false : (a : Bool) → (a || (false || false)) ≡ a
    or_false true = refl
    or_false false = refl

-- each document is one of these
abbrev pub all_among : List Document → List Document → Bool
all_among all documents = list_all (λ (d : Document). list_any (is_same d) all) documents

-- the document, where there is one, is one of these
abbrev pub is_among : List Document → Option Document → Bool
is_among all None = true
is_among all (Some d) = list_any (is_same d) all

pub record AreWithin (all documents : List Document) : Type 0 where
  pub once : apart documents ≡ true
  pub among : all_among all documents ≡ true

one_by : (all documents : List Document) (d : Document) (b : Bool) → list_any (is_same d) documents ≡ b → AreWithin all documents → list_any (is_same d) all ≡ true → AreWithin all (if b then documents else documents ++ d ∷ [])
one_by all documents d true e are there = are
one_by all documents d false e are there = record {
  once = apart_last documents d are.once e;
  among = list_all-append (λ (x : Document). list_any (is_same x) all) documents (d ∷ []) ∙ rw (are.among, there) refl;
}

some_within : (all documents : List Document) (o : Option Document) → AreWithin all documents → is_among all o ≡ true → AreWithin all (with_some documents o)
unfolding with_document
some_within all documents None are there = are
some_within all documents (Some d) are there = one_by all documents d (list_any (is_same d) documents) refl are there

abbrev pub points_among : List Document → List PlainPoint → Bool
points_among all points = list_all (λ (p : PlainPoint). is_among all p.document) points

points_within : (all documents : List Document) (points : List PlainPoint) → AreWithin all documents → points_among all points ≡ true → AreWithin all (with_points documents points)
unfolding with_points
points_within all documents [] are there = are
points_within all documents (p ∷ points) are there =
    let parts = and_parts (is_among all p.document) (points_among all points) there in
    points_within all (with_some documents p.document) points (some_within all documents p.document are parts.0) parts.1

none_apart : apart [] ≡ true
unfolding apart
none_apart = refl

pub documents_within : (all : List Document) (p : PlainPdb) (n : ℕ) → ((k : ℕ) → k < n → points_among all (nth_method p k).points ≡ true) → AreWithin all (documents_of p n)
unfolding documents_of
documents_within all p zero each = record { once = none_apart; among = refl }
documents_within all p (suc n) each = points_within all (documents_of p n) (nth_method p n).points (documents_within all p n (λ k lt. each k (omega (arith, lt)))) (each n (omega arith))

-- the others
without : Document → List Document → List Document
without d [] = []
without d (x ∷ xs) = if is_same d x then xs else x ∷ without d xs

sum_by_test : (f : Document → ℕ) (d x : Document) (xs : List Document) (b : Bool) → is_same d x ≡ b → (list_any (is_same d) xs ≡ true → sum_by f xs ≡ f d + sum_by f (without d xs)) → (b || list_any (is_same d) xs) ≡ true
    → f x + sum_by f xs ≡ f d + sum_by f (if b then xs else x ∷ without d xs)
sum_by_test f d x xs true e later there = let same : x ≡ d = sym (same_is d x e) in ap (λ (y : Document). f y + sum_by f xs) same
sum_by_test f d x xs false e later there = omega (arith, later there, sum_by-cons f x (without d xs))

sum_without : (f : Document → ℕ) (d : Document) (xs : List Document) → list_any (is_same d) xs ≡ true → sum_by f xs ≡ f d + sum_by f (without d xs)
unfolding without
sum_without f d [] there = absurd cc
sum_without f d (x ∷ xs) there = sum_by-cons f x xs ∙ sum_by_test f d x xs (is_same d x) refl (λ later. sum_without f d xs later) there

still_test : (d z x : Document) (xs : List Document) (b c : Bool) → is_same d x ≡ b → is_same z x ≡ c → is_same z d ≡ false → (list_any (is_same z) xs ≡ true → list_any (is_same z) (without d xs) ≡ true) → (c || list_any (is_same z) xs) ≡ true
    → list_any (is_same z) (if b then xs else x ∷ without d xs) ≡ true
still_test d z x xs true true a e other later there =
    let same : d ≡ x = same_is d x a in
    let f : is_same z d ≡ true = rw same e in
    absurd (cc)
still_test d z x xs true false a e other later there = there
still_test d z x xs false true a e other later there = or_left (is_same z x) (list_any (is_same z) (without d xs)) e
still_test d z x xs false false a e other later there = or_right (is_same z x) (list_any (is_same z) (without d xs)) (later there)

still_there : (d z : Document) (xs : List Document) → is_same z d ≡ false → list_any (is_same z) xs ≡ true → list_any (is_same z) (without d xs) ≡ true
unfolding without
still_there d z [] other there = absurd cc
still_there d z (x ∷ xs) other there = still_test d z x xs (is_same d x) (is_same z x) refl refl other (λ later. still_there d z xs other later) there

still_all : (d : Document) (all ds : List Document) → list_any (is_same d) ds ≡ false → all_among all ds ≡ true → all_among (without d all) ds ≡ true
still_all d all [] none there = refl
still_all d all (z ∷ ds) none there =
    let others = not_either (is_same d z) (list_any (is_same d) ds) none in
    let parts = and_parts (list_any (is_same z) all) (all_among all ds) there in
    and_from (list_any (is_same z) (without d all)) (all_among (without d all) ds) (still_there d z all (same_flips z d ∙ others.0) parts.0) (still_all d all ds others.1 parts.1)

not_true : (a : Bool) → not a ≡ true → a ≡ false
not_true true e = absurd cc
not_true false e = refl

-- documents that stand once among others weigh no more than those
pub sum_within : (f : Document → ℕ) (documents all : List Document) → AreWithin all documents → sum_by f documents ≤ sum_by f all
unfolding apart
sum_within f [] all are = omega arith
sum_within f (d ∷ ds) all are =
    let once = and_parts (not (list_any (is_same d) ds)) (apart ds) are.once in
    let none = not_true (list_any (is_same d) ds) once.0 in
    let among = and_parts (list_any (is_same d) all) (all_among all ds) are.among in
    let rest = sum_within f ds (without d all) (record { once = once.1; among = still_all d all ds none among.1 }) in
    omega (arith, sum_by-cons f d ds, sum_without f d all among.0, rest)
