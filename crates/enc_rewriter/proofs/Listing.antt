-- The distinct values of a heap with none and with one more.
use Rattle.std.proofs.Common.{◌≡◌, ℕ, ◌+◌, ◌<◌, ◌≤◌, Bool, true, false, ◌&&◌, List, [], ◌∷◌, ◌++◌, length, refl, sym, ap, ◌∙◌, arith, Bor}
use Rattle.std.specs.Prelude.{bytes_eq, nat_lt, not, if◌then◌else◌}
use Rattle.std.specs.List.{list_any}
use Rattle.std.proofs.lemmas.Bool.Decides.{nat_tests}
use Rattle.std.proofs.lemmas.List.{map-append}
use Rattle.std.proofs.lemmas.List.Folds.{list_all-append}
use Rattle.std.proofs.lemmas.List.Sums.{sum_by_push}
use Rattle.enc_base.specs.Numbers.{is_empty}
use Rattle.enc_meta.specs.Built.{is_among, is_kept, with_value, passes, joined_end}
use Rattle.enc_meta.proofs.Places.{bytes_eq_sym, with_new, with_kept}
use Rattle.enc_meta.proofs.Tied.{passes_kept}
use Rattle.enc_rewriter.specs.Values.{heap_limit}
use Rattle.enc_rewriter.specs.Distinct.{BorrowedList, borrowed, written_in, may_be_listed, with_borrowed, with_values, bytes_of, AreBorrowed}
use Rattle.enc_rewriter.specs.declared.pass.Pass.{Pass}
use Rattle.enc_rewriter.specs.declared.pass.Pass.TheVariants as pass

among : (keys : List (Bor (List ℕ))) (v : List ℕ) → list_any (λ (k : Bor (List ℕ)). bytes_eq v k.now) keys ≡ is_among (borrowed keys) v
among [] v = refl
among (k ∷ rest) v = rw (bytes_eq_sym k.now v, among rest v) refl

not_empty : (v : List ℕ) → 0 < length v → is_empty v ≡ false
not_empty [] some = absurd (omega (arith, some))
not_empty (x ∷ rest) some = refl

-- a value that isn't empty is kept where it stands among the keys
pub kept_is : (keys : List (Bor (List ℕ))) (v : List ℕ) → 0 < length v → is_kept (borrowed keys) v ≡ list_any (λ (k : Bor (List ℕ)). bytes_eq v k.now) keys
unfolding is_kept
kept_is keys v some = rw (not_empty v some, among keys v) refl

pub empty_kept : (values : List (List ℕ)) (v : List ℕ) → length v ≡ 0 → is_kept values v ≡ true
unfolding is_kept
empty_kept values [] none = refl
empty_kept values (x ∷ rest) none = absurd (omega (arith, none))

insert_test : (keys : List (Bor (List ℕ))) (v : Bor (List ℕ)) (b : Bool) → borrowed (if b then keys else keys ++ v ∷ []) ≡ (if b then borrowed keys else borrowed keys ++ v.now ∷ [])
insert_test keys v true = refl
insert_test keys v false = map-append _ keys (v ∷ [])

-- the values of the keys with one more
pub inserted_are : (keys new : List (Bor (List ℕ))) (v : Bor (List ℕ)) → 0 < length v.now
    → new ≡ (if list_any (λ (k : Bor (List ℕ)). bytes_eq v.now k.now) keys then keys else keys ++ v ∷ []) → borrowed new ≡ with_value (borrowed keys) v.now
unfolding with_value
inserted_are keys new v some is =
    ap borrowed is ∙ insert_test keys v (list_any (λ (k : Bor (List ℕ)). bytes_eq v.now k.now) keys)
    ∙ ap (λ b. if b then borrowed keys else borrowed keys ++ v.now ∷ []) (sym (kept_is keys v.now some))

-- no value
pub listed_none : (p : Pass) (values : List (List ℕ)) → values ≡ [] → AreBorrowed p 0 values
unfolding bytes_of with_values
listed_none pass.Texts values none = rw none (record { counted = refl; within = omega arith; distinct = refl; fit = refl })
listed_none pass.Users values none = rw none (record { counted = refl; within = omega arith; distinct = refl; fit = refl })
listed_none pass.Blobs values none = rw none (record { counted = refl; within = omega arith; distinct = refl; fit = refl })
listed_none pass.Guids values none = rw none (record { counted = refl; within = omega arith; distinct = refl; fit = refl })

pub bytes_more : (p : Pass) (values : List (List ℕ)) (v : List ℕ) → bytes_of p (values ++ v ∷ []) ≡ bytes_of p values + length (written_in p v)
unfolding bytes_of
bytes_more p values v = sum_by_push (λ (w : List ℕ). length (written_in p w)) values v

pub in_turn : (old a b : List (List ℕ)) → with_values old (a ++ b) ≡ with_values (with_values old a) b
unfolding with_values
in_turn old [] b = refl
in_turn old (v ∷ a) b = in_turn (with_value old v) a b

distinct_more : (values : List (List ℕ)) (v : List ℕ) → with_values [] values ≡ values → with_values [] (values ++ v ∷ []) ≡ with_value values v
unfolding with_values
distinct_more values v is = in_turn [] values (v ∷ []) ∙ ap (λ vs. with_value vs v) is

-- one more value
pub listed_more : (p : Pass) (bytes : ℕ) (values : List (List ℕ)) (v : List ℕ) → AreBorrowed p bytes values → is_kept values v ≡ false → may_be_listed p v ≡ true
    → bytes + length (written_in p v) < heap_limit p → AreBorrowed p (bytes + length (written_in p v)) (with_value values v)
listed_more p bytes values v listed new fit few =
    let e = with_new values v new in
    record {
      counted = rw e (ap (λ n. n + length (written_in p v)) listed.counted ∙ sym (bytes_more p values v));
      within = omega (arith, few);
      distinct = ap (with_values []) e ∙ distinct_more values v listed.distinct;
      fit = rw (e, list_all-append (may_be_listed p) values (v ∷ []), listed.fit, fit) refl;
    }

-- the end of a heap
pub ends_at : (p : Pass) (values : List (List ℕ)) → joined_end (written_in p) 0 values ≡ bytes_of p values + 1
unfolding joined_end bytes_of
ends_at p values = omega arith

not_past : (b : Bool) → (not b && false) ≡ false
not_past true = refl
not_past false = refl

less : (a b : ℕ) → b ≤ a → nat_lt a b ≡ false
less a b le = grind (arith, nat_tests)

more : (a b : ℕ) → a < b → nat_lt a b ≡ true
more a b lt = grind (arith, nat_tests)

-- a value within the limit passes it nowhere, and one past it where it isn't there
pub fits_in : (p : Pass) (values : List (List ℕ)) (v : List ℕ) → bytes_of p values + length (written_in p v) < heap_limit p → passes (written_in p) (heap_limit p) 0 values v ≡ false
unfolding passes
fits_in p values v few =
    let e : joined_end (written_in p) 0 (values ++ v ∷ []) ≡ bytes_of p values + length (written_in p v) + 1 = ends_at p (values ++ v ∷ []) ∙ ap (λ n. n + 1) (bytes_more p values v) in
    ap (λ b. not (is_kept values v) && b) (less (heap_limit p) _ (omega (arith, e, few))) ∙ not_past (is_kept values v)

pub passes_in : (p : Pass) (values : List (List ℕ)) (v : List ℕ) → is_kept values v ≡ false → heap_limit p ≤ bytes_of p values + length (written_in p v)
    → passes (written_in p) (heap_limit p) 0 values v ≡ true
unfolding passes
passes_in p values v new many =
    let e : joined_end (written_in p) 0 (values ++ v ∷ []) ≡ bytes_of p values + length (written_in p v) + 1 = ends_at p (values ++ v ∷ []) ∙ ap (λ n. n + 1) (bytes_more p values v) in
    rw new (more (heap_limit p) _ (omega (arith, e, many)))

-- a key that was inserted anew wasn't kept
pub new_key : (keys : List (Bor (List ℕ))) (v : List ℕ) (added : Bool) → 0 < length v → added ≡ not (list_any (λ (k : Bor (List ℕ)). bytes_eq v k.now) keys) → added ≡ true
    → is_kept (borrowed keys) v ≡ false
new_key keys v added some is new = kept_is keys v some ∙ by (list_any (λ (k : Bor (List ℕ)). bytes_eq v k.now) keys) (sym is ∙ new)
  where
    by : (b : Bool) → not b ≡ true → b ≡ false
    by true e = absurd cc
    by false e = refl

-- a value that is kept changes nothing, and passes no limit
pub kept_stays : (l : BorrowedList) (v : List ℕ) → is_kept l.values v ≡ true → l ≡ with_borrowed l v
kept_stays l v kept = rw (with_kept l.values v kept) refl

pub kept_passes : (p : Pass) (values : List (List ℕ)) (v : List ℕ) → is_kept values v ≡ true → passes (written_in p) (heap_limit p) 0 values v ≡ false
kept_passes p values v kept = passes_kept (written_in p) (heap_limit p) 0 values v kept
