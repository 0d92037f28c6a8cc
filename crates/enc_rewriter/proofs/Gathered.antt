-- The heaps of a module keep all its values.
use Rattle.std.proofs.Common.{◌≡◌, ℕ, zero, suc, ◌+◌, ◌-◌, ◌<◌, ◌≤◌, Bool, true, false, List, [], ◌∷◌, ◌++◌, length, refl, sym, ◌∙◌, arith, subst, inl, inr}
use Rattle.std.specs.Prelude.{◌&&◌, ◌||◌, ◌==◌, flat_map, bytes_eq, if◌then◌else◌}
use Rattle.std.specs.List.{list_all, list_any, range_with_len}
use Rattle.std.proofs.lemmas.Bool.{cases_eq, and_from}
use Rattle.std.proofs.lemmas.Bool.Decides.{nat_tests}
use Rattle.std.proofs.lemmas.List.Folds.{list_all-append}
use Rattle.enc_base.specs.Numbers.{is_empty}
use Rattle.enc_base.specs.Token.{nth_row}
use Rattle.enc_base.specs.declared.token.Token.{Token}
use Rattle.enc_meta.specs.Built.{Built, is_among, is_kept, is_guid_kept, with_value, with_entry}
use Rattle.enc_meta.specs.Heaps.{nil_guid}
use Rattle.enc_plain.specs.Module.{Module}
use Rattle.enc_plain.specs.Sound.{row_count, IsSound}
use Rattle.enc_plain.proofs.Columns.{both_left, both_right}
use Rattle.enc_plain.proofs.KindsOf.{row_table, row_bounds}
use Rattle.enc_rows.specs.Sums.{below}
use Rattle.enc_schema.specs.Schema.{columns_in}
use Rattle.enc_rewriter.specs.Values.{with_one, with_all, no_starts, no_heaps, heaps_for, values_at, values_of_row, values_of_table, all_values, is_kept_by, KeepValues}
use Rattle.enc_rewriter.specs.declared.pass.Pass.{Pass}
use Rattle.enc_rewriter.specs.declared.pass.Pass.TheVariants as pass

same_bytes : (v : List ℕ) → bytes_eq v v ≡ true
same_bytes [] = refl
same_bytes (x ∷ xs) = let e : (x == x) ≡ true = grind (arith, nat_tests) in rw (e, same_bytes xs) refl

any_step : (b rest more : Bool) → (b || rest) ≡ true → (rest ≡ true → more ≡ true) → (b || more) ≡ true
any_step true rest more e f = refl
any_step false rest more e f = f e

any_more : (q : List ℕ → Bool) (xs ys : List (List ℕ)) → list_any q xs ≡ true → list_any q (xs ++ ys) ≡ true
any_more q [] ys e = absurd cc
any_more q (x ∷ xs) ys e = any_step (q x) (list_any q xs) (list_any q (xs ++ ys)) e (λ f. any_more q xs ys f)

any_here : (b : Bool) → b ≡ true → (b || false) ≡ true
any_here true e = refl
any_here false e = absurd cc

any_behind : (b rest : Bool) → rest ≡ true → (b || rest) ≡ true
any_behind true rest e = refl
any_behind false rest e = e

any_last : (q : List ℕ → Bool) (xs : List (List ℕ)) (y : List ℕ) → q y ≡ true → list_any q (xs ++ y ∷ []) ≡ true
any_last q [] y e = any_here (q y) e
any_last q (x ∷ xs) y e = any_behind (q x) (list_any q (xs ++ y ∷ [])) (any_last q xs y e)

or_more : (a b c : Bool) → (b ≡ true → c ≡ true) → (a || b) ≡ true → (a || c) ≡ true
or_more true b c f e = refl
or_more false b c f e = f e

among_more : (values : List (List ℕ)) (v w : List ℕ) (b : Bool) → is_among values v ≡ true → is_among (if b then values else values ++ w ∷ []) v ≡ true
among_more values v w true e = e
among_more values v w false e = any_more (λ x. bytes_eq x v) values (w ∷ []) e

kept_stays : (values : List (List ℕ)) (v w : List ℕ) → is_kept values v ≡ true → is_kept (with_value values w) v ≡ true
unfolding is_kept with_value
kept_stays values v w e = or_more (is_empty v) (is_among values v) _ (λ f. among_more values v w (is_empty w || is_among values w) f) e

entry_stays : (guids : List (List ℕ)) (v w : List ℕ) → is_guid_kept guids v ≡ true → is_guid_kept (with_entry guids w) v ≡ true
unfolding is_guid_kept with_entry
entry_stays guids v w e = or_more (bytes_eq v nil_guid) (is_among guids v) _ (λ f. among_more guids v w (bytes_eq w nil_guid || is_among guids w) f) e

kept_new : (empty among : Bool) (values : List (List ℕ)) (v : List ℕ) → is_among values v ≡ among
    → (empty || is_among (if empty || among then values else values ++ v ∷ []) v) ≡ true
kept_new true among values v is = refl
kept_new false true values v is = is
kept_new false false values v is = any_last (λ x. bytes_eq x v) values v (same_bytes v)

value_kept : (values : List (List ℕ)) (v : List ℕ) → is_kept (with_value values v) v ≡ true
unfolding is_kept with_value
value_kept values v = kept_new (is_empty v) (is_among values v) values v refl

entry_kept : (guids : List (List ℕ)) (v : List ℕ) → is_guid_kept (with_entry guids v) v ≡ true
unfolding is_guid_kept with_entry
entry_kept guids v = kept_new (bytes_eq v nil_guid) (is_among guids v) guids v refl

one_kept : (p : Pass) (h : Built) (v : List ℕ) → is_kept_by p (with_one p h v) v ≡ true
one_kept pass.Texts h v = value_kept h.texts v
one_kept pass.Users h v = value_kept h.users v
one_kept pass.Blobs h v = value_kept h.blobs v
one_kept pass.Guids h v = entry_kept h.guids v

stays_one : (p q : Pass) (h : Built) (v w : List ℕ) → is_kept_by p h v ≡ true → is_kept_by p (with_one q h w) v ≡ true
stays_one pass.Texts pass.Texts h v w e = kept_stays h.texts v w e
stays_one pass.Texts pass.Users h v w e = e
stays_one pass.Texts pass.Blobs h v w e = e
stays_one pass.Texts pass.Guids h v w e = e
stays_one pass.Users pass.Texts h v w e = e
stays_one pass.Users pass.Users h v w e = kept_stays h.users v w e
stays_one pass.Users pass.Blobs h v w e = e
stays_one pass.Users pass.Guids h v w e = e
stays_one pass.Blobs pass.Texts h v w e = e
stays_one pass.Blobs pass.Users h v w e = e
stays_one pass.Blobs pass.Blobs h v w e = kept_stays h.blobs v w e
stays_one pass.Blobs pass.Guids h v w e = e
stays_one pass.Guids pass.Texts h v w e = e
stays_one pass.Guids pass.Users h v w e = e
stays_one pass.Guids pass.Blobs h v w e = e
stays_one pass.Guids pass.Guids h v w e = entry_stays h.guids v w e

stays : (p q : Pass) (h : Built) (v : List ℕ) (ws : List (List ℕ)) → is_kept_by p h v ≡ true → is_kept_by p (with_all q h ws) v ≡ true
unfolding with_all
stays p q h v [] e = e
stays p q h v (w ∷ ws) e = stays p q (with_one q h w) v ws (stays_one p q h v w e)

pub all_kept : (p : Pass) (h : Built) (vs : List (List ℕ)) → list_all (is_kept_by p (with_all p h vs)) vs ≡ true
unfolding with_all
all_kept p h [] = refl
all_kept p h (v ∷ vs) = and_from _ _ (stays p p (with_one p h v) v vs (one_kept p h v)) (all_kept p (with_one p h v) vs)

pub all_stay : (p q : Pass) (h : Built) (vs ws : List (List ℕ)) → list_all (is_kept_by p h) vs ≡ true → list_all (is_kept_by p (with_all q h ws)) vs ≡ true
all_stay p q h [] ws e = refl
all_stay p q h (v ∷ vs) ws e = and_from _ _ (stays p q h v ws (both_left (is_kept_by p h v) _ e)) (all_stay p q h vs ws (both_right (is_kept_by p h v) _ e))

starts_one : (p : Pass) (h : Built) (v : List ℕ) → (with_one p h v).starts ≡ h.starts
starts_one pass.Texts h v = refl
starts_one pass.Users h v = refl
starts_one pass.Blobs h v = refl
starts_one pass.Guids h v = refl

pub starts_after : (p : Pass) (h : Built) (vs : List (List ℕ)) → (with_all p h vs).starts ≡ h.starts
unfolding with_all
starts_after p h [] = refl
starts_after p h (v ∷ vs) = starts_after p (with_one p h v) vs ∙ starts_one p h v

-- what holds of all pieces holds of each
piece_of : (q : List ℕ → Bool) (f : ℕ → List (List ℕ)) (a n k : ℕ) → list_all q (flat_map f (range_with_len a n)) ≡ true → a ≤ k → k < a + n → list_all q (f k) ≡ true
piece_of q f a zero k all low high = absurd (omega (arith, low, high))
piece_of q f a (suc n) k all low high =
    let parts = sym (list_all-append q (f a) (flat_map f (range_with_len (a + 1) n))) ∙ all in
    elim (cases_eq k a) [
      | inl e ↦ rw e (both_left (list_all q (f a)) _ parts)
      | inr other ↦ piece_of q f (a + 1) n k (both_right (list_all q (f a)) _ parts) (omega (arith, low, other)) (omega (arith, high))
    ]

of_all : (p : Pass) (m : Module) (q : List ℕ → Bool) (u : Token) (i : ℕ) → list_all q (all_values p m) ≡ true → u.table < 64 → 0 < u.row → u.row ≤ row_count m u.table
    → i < length (columns_in u.table) → list_all q (values_at p m u i) ≡ true
unfolding all_values values_of_table values_of_row below
of_all p m q u i all table low high column =
    let e : u.row - 1 + 1 ≡ u.row = omega (arith, low) in
    let t = piece_of q (values_of_table p m) 0 64 u.table all (omega arith) (omega (arith, table)) in
    let r = piece_of q (λ n. values_of_row p m (nth_row u.table n)) 0 (row_count m u.table) (u.row - 1) t (omega arith) (omega (arith, low, high)) in
    let v : list_all q (values_of_row p m u) ≡ true = subst (λ n. list_all q (values_of_row p m (record { table = u.table; row = n })) ≡ true) e r in
    piece_of q (values_at p m u) 0 (length (columns_in u.table)) i v (omega arith) (omega (arith, column))

-- the heaps of a module keep the values of each pass
kept_in : (p : Pass) (m : Module) → list_all (is_kept_by p (heaps_for m)) (all_values p m) ≡ true
unfolding heaps_for
kept_in pass.Texts m =
    all_stay pass.Texts pass.Guids _ (all_values pass.Texts m) (all_values pass.Guids m)
    (all_stay pass.Texts pass.Blobs _ (all_values pass.Texts m) (all_values pass.Blobs m)
    (all_stay pass.Texts pass.Users _ (all_values pass.Texts m) (all_values pass.Users m) (all_kept pass.Texts no_heaps (all_values pass.Texts m))))
kept_in pass.Users m =
    all_stay pass.Users pass.Guids _ (all_values pass.Users m) (all_values pass.Guids m)
    (all_stay pass.Users pass.Blobs _ (all_values pass.Users m) (all_values pass.Blobs m) (all_kept pass.Users _ (all_values pass.Users m)))
kept_in pass.Blobs m = all_stay pass.Blobs pass.Guids _ (all_values pass.Blobs m) (all_values pass.Guids m) (all_kept pass.Blobs _ (all_values pass.Blobs m))
kept_in pass.Guids m = all_kept pass.Guids _ (all_values pass.Guids m)

starts_none : (m : Module) → (heaps_for m).starts ≡ no_starts
unfolding heaps_for no_heaps
starts_none m =
    starts_after pass.Guids _ (all_values pass.Guids m) ∙ starts_after pass.Blobs _ (all_values pass.Blobs m)
    ∙ starts_after pass.Users _ (all_values pass.Users m) ∙ starts_after pass.Texts _ (all_values pass.Texts m)

pub keep_all : (m : Module) → IsSound m → KeepValues m (heaps_for m)
keep_all m sound = record {
  starts = starts_none m;
  each = λ p u i there low.
      let t = row_table m u sound.owners.tables sound.counts there in
      let r = row_bounds m u there in
      of_all p m (is_kept_by p (heaps_for m)) u i (kept_in p m) (omega (arith, t.1)) r.0 r.1 low;
}
