-- Entries in order: what is found after one is put, and that they stay in order.
use Rattle.std.proofs.Common.{◌≡◌, Bool, true, false, cond, List, [], ◌∷◌, Option, Some, refl, sym, ap, ◌∙◌}
use Rattle.std.specs.Ordering.{is_eq, match_ordering}
use Rattle.std.specs.declared.cmp.Ordering.{Ordering}
use Rattle.std.specs.declared.cmp.Ordering.TheVariants.{Less, Equal, Greater}
use Rattle.std.specs.Cmp.{IsTotalOrder}
use Rattle.std.specs.List.{AllByRecursion}
use Rattle.std.specs.List.Sorted.{IsStrictlySortedBy}
use Rattle.std.specs.Map.{lookup, keys_of}
use Rattle.std.specs.BTreeMap.{insert_entry, is_at}
use Rattle.std.proofs.lemmas.Cmp.{alike_right}

pub equal_from_test : (r : Ordering) → is_eq r ≡ true → r ≡ Equal
equal_from_test Less e = absurd cc
equal_from_test Equal e = refl
equal_from_test Greater e = absurd cc

twice : {X : Type 0} → (t u : Bool) (v w : X) (rest : Option X) → u ≡ t → cond u (Some v) rest ≡ cond t (Some v) (cond u (Some w) rest)
twice true true v w rest e = refl
twice true false v w rest e = absurd cc
twice false true v w rest e = absurd cc
twice false false v w rest e = refl

swapped : {X : Type 0} → (a b : Bool) (v w : X) (rest : Option X) → (a ≡ true → b ≡ true → false ≡ true)
    → cond a (Some v) (cond b (Some w) rest) ≡ cond b (Some w) (cond a (Some v) rest)
swapped true true v w rest apart = let e = apart refl refl in absurd cc
swapped true false v w rest apart = refl
swapped false b v w rest apart = refl

-- what is found after a value is put: it, or what was found before
pub found_put : {K X : Type 0} {R : K → K → Ordering} → IsTotalOrder R → (q k : K) (v : X) (es : List (K × X))
    → lookup (is_at (R q)) (insert_entry R es k v) ≡ cond (is_eq (R q k)) (Some v) (lookup (is_at (R q)) es)
found_put o q k v [] = refl
found_put {K} {X} {R} o q k v (e ∷ es) = by (R k e.0) refl (found_put o q k v es)
  where
    apart : R k e.0 ≡ Greater → is_eq (R q e.0) ≡ true → is_eq (R q k) ≡ true → false ≡ true
    apart p f g =
        let at_e = equal_from_test (R q e.0) f in
        let at_k = o.congr q k e.0 (equal_from_test (R q k) g) in
        absurd cc

    by : (r : Ordering) → R k e.0 ≡ r → lookup (is_at (R q)) (insert_entry R es k v) ≡ cond (is_eq (R q k)) (Some v) (lookup (is_at (R q)) es)
        → lookup (is_at (R q)) (match_ordering r ((k, v) ∷ e ∷ es) ((e.0, v) ∷ es) (e ∷ insert_entry R es k v)) ≡ cond (is_eq (R q k)) (Some v) (lookup (is_at (R q)) (e ∷ es))
    by Less p rest = refl
    by Equal p rest = twice (is_eq (R q k)) (is_eq (R q e.0)) v e.1 (lookup (is_at (R q)) es) (sym (ap is_eq (alike_right o k e.0 q p)))
    by Greater p rest =
        ap (cond (is_eq (R q e.0)) (Some e.1)) rest ∙ swapped (is_eq (R q e.0)) (is_eq (R q k)) e.1 v (lookup (is_at (R q)) es) (apart p)

-- keys that are equal find the same
pub same_found : {K X : Type 0} {R : K → K → Ordering} → IsTotalOrder R → (q k : K) → R q k ≡ Equal → (es : List (K × X)) → lookup (is_at (R q)) es ≡ lookup (is_at (R k)) es
same_found o q k p [] = refl
same_found {K} {X} {R} o q k p (e ∷ es) = rw (o.congr q k e.0 p) (ap (cond (is_eq (R k e.0)) (Some e.1)) (same_found o q k p es))

below_put : {K X : Type 0} (R : K → K → Ordering) → (x k : K) (v : X) (es : List (K × X)) → R x k ≡ Less → AllByRecursion (λ y. R x y ≡ Less) (keys_of es)
    → AllByRecursion (λ y. R x y ≡ Less) (keys_of (insert_entry R es k v))
below_put R x k v [] p all = (p, tt)
below_put R x k v (e ∷ es) p all = by (R k e.0) (below_put R x k v es p all.1)
  where
    by : (r : Ordering) → AllByRecursion (λ y. R x y ≡ Less) (keys_of (insert_entry R es k v))
        → AllByRecursion (λ y. R x y ≡ Less) (keys_of (match_ordering r ((k, v) ∷ e ∷ es) ((e.0, v) ∷ es) (e ∷ insert_entry R es k v)))
    by Less rest = (p, all)
    by Equal rest = all
    by Greater rest = (all.0, rest)

below_all : {K : Type 0} {R : K → K → Ordering} → IsTotalOrder R → (k x : K) (ks : List K) → R k x ≡ Less → AllByRecursion (λ y. R x y ≡ Less) ks → AllByRecursion (λ y. R k y ≡ Less) ks
below_all o k x [] p all = tt
below_all o k x (y ∷ ys) p all = (o.trans k x y p all.0, below_all o k x ys p all.1)

-- entries in order stay in order
pub ordered_put : {K X : Type 0} {R : K → K → Ordering} → IsTotalOrder R → (k : K) (v : X) (es : List (K × X)) → IsStrictlySortedBy R (keys_of es)
    → IsStrictlySortedBy R (keys_of (insert_entry R es k v))
unfolding IsStrictlySortedBy
ordered_put o k v [] s = (tt, tt)
ordered_put {K} {X} {R} o k v (e ∷ es) s = by (R k e.0) refl (ordered_put o k v es s.1)
  where
    after : R k e.0 ≡ Greater → R e.0 k ≡ Less
    after p = let back = o.antisymm e.0 k in rw p at back

    by : (r : Ordering) → R k e.0 ≡ r → IsStrictlySortedBy R (keys_of (insert_entry R es k v))
        → IsStrictlySortedBy R (keys_of (match_ordering r ((k, v) ∷ e ∷ es) ((e.0, v) ∷ es) (e ∷ insert_entry R es k v)))
    by Less p rest = ((p, below_all o k e.0 (keys_of es) p s.0), s)
    by Equal p rest = s
    by Greater p rest = (below_put R e.0 k v es (after p) s.0, rest)
