-- The values of a heap that are copied one behind the other into one that has none.
use Rattle.std.proofs.Common.{◌≡◌, ℕ, ◌+◌, ◌<◌, ◌≤◌, Bool, true, false, ◌&&◌, List, [], ◌∷◌, length, drop, get_or, refl, sym, ap, subst, ◌∙◌, arith, Result, Err, Bor}
use Rattle.std.specs.Prelude.{nat_lt}
use Rattle.std.specs.List.{list_all}
use Rattle.std.proofs.lemmas.Bool.Decides.{nat_tests}
use Rattle.std.proofs.lemmas.List.{drop_more, drop_all}
use Rattle.enc_meta.specs.Built.{Built, with_value}
use Rattle.enc_meta.specs.declared.builder.BuildFault.{BuildFault}
use Rattle.enc_meta.specs.declared.builder.BuildFault.TheVariants.{TooLarge}
use Rattle.enc_base.specs.declared.refusal.StreamName.{StreamName}
use Rattle.enc_rewriter.specs.Values.{no_starts, with_one, with_all, heap_size, heap_limit, IsPast}
use Rattle.enc_rewriter.specs.Distinct.{borrowed, may_be_listed, with_values, with_list, bytes_of, AreBorrowed}
use Rattle.enc_rewriter.specs.declared.pass.Pass.{Pass}
use Rattle.enc_rewriter.specs.declared.pass.Pass.TheVariants as pass
use Rattle.enc_rewriter.proofs.Fills.{fill_grows, past_grows}
use Rattle.enc_rewriter.proofs.Listing.{ends_at}

-- those from a place on, and the first of them apart
left_more : (p : Pass) (h : Built) (xs : List (Bor (List ℕ))) (i : ℕ) (d : Bor (List ℕ)) → i < length xs
    → with_all p h (borrowed (drop i xs)) ≡ with_all p (with_one p h (get_or xs i d).now) (borrowed (drop (i + 1) xs))
unfolding with_all
left_more p h xs i d low = ap (λ ys. with_all p h (borrowed ys)) (drop_more xs i d low)

one_all : (p : Pass) (h : Built) (v : List ℕ) → with_all p h (v ∷ []) ≡ with_one p h v
unfolding with_all
one_all p h v = refl

pub copied_more : (p : Pass) (first old new : Built) (xs : List (Bor (List ℕ))) (i : ℕ) (d : Bor (List ℕ)) → i < length xs
    → with_all p old (borrowed (drop i xs)) ≡ with_all p first (borrowed xs) → new ≡ with_all p old ((get_or xs i d).now ∷ [])
    → with_all p new (borrowed (drop (i + 1) xs)) ≡ with_all p first (borrowed xs)
copied_more p first old new xs i d low so_far one =
    ap (λ h. with_all p h (borrowed (drop (i + 1) xs))) (one ∙ one_all p old (get_or xs i d).now) ∙ sym (left_more p old xs i d low) ∙ so_far

-- what is refused at one value is refused at all
pub copied_past : (r : Result Unit BuildFault) (p : Pass) (first old : Built) (xs : List (Bor (List ℕ))) (i : ℕ) (d : Bor (List ℕ)) → i < length xs
    → with_all p old (borrowed (drop i xs)) ≡ with_all p first (borrowed xs) → IsPast r p (with_all p old ((get_or xs i d).now ∷ [])) → IsPast r p (with_all p first (borrowed xs))
copied_past r p first old xs i d low so_far past =
    let one = with_one p old (get_or xs i d).now in
    subst (λ h. IsPast r p h) (sym (left_more p old xs i d low) ∙ so_far)
    (past_grows r p one (with_all p one (borrowed (drop (i + 1) xs))) (fill_grows p one (borrowed (drop (i + 1) xs))) (subst (λ h. IsPast r p h) (one_all p old (get_or xs i d).now) past))

both_left : (a b : Bool) → (a && b) ≡ true → a ≡ true
both_left true b e = refl
both_left false b e = absurd cc

both_right : (a b : Bool) → (a && b) ≡ true → b ≡ true
both_right true b e = e
both_right false b e = absurd cc

-- values that are added in turn to a list of heaps
one_listed : (p : Pass) (h : Built) (old : List (List ℕ)) (v : List ℕ) → may_be_listed p v ≡ true → with_one p (with_list p h old) v ≡ with_list p h (with_value old v)
one_listed pass.Texts h old v fit = refl
one_listed pass.Users h old v fit = refl
one_listed pass.Blobs h old v fit = refl
one_listed pass.Guids h old v fit = absurd cc

pub all_listed : (p : Pass) (h : Built) (old vs : List (List ℕ)) → list_all (may_be_listed p) vs ≡ true → with_all p (with_list p h old) vs ≡ with_list p h (with_values old vs)
unfolding with_all with_values
all_listed p h old [] fit = refl
all_listed p h old (v ∷ vs) fit =
    ap (λ k. with_all p k vs) (one_listed p h old v (both_left (may_be_listed p v) (list_all (may_be_listed p) vs) fit))
    ∙ all_listed p h (with_value old v) vs (both_right (may_be_listed p v) (list_all (may_be_listed p) vs) fit)

-- distinct values are all that a heap has then
pub copied_are : (p : Pass) (h new : Built) (bytes : ℕ) (values : List (List ℕ)) → AreBorrowed p bytes values → h ≡ with_list p h [] → new ≡ with_all p h values → new ≡ with_list p h values
copied_are p h new bytes values listed none is =
    is ∙ ap (λ k. with_all p k values) none ∙ all_listed p h [] values listed.fit ∙ ap (with_list p h) listed.distinct

pub all_copied : (p : Pass) (first old : Built) (xs : List (Bor (List ℕ))) (i : ℕ) → length xs ≤ i
    → with_all p old (borrowed (drop i xs)) ≡ with_all p first (borrowed xs) → old ≡ with_all p first (borrowed xs)
unfolding with_all
all_copied p first old xs i over so_far = sym (ap (λ ys. with_all p old (borrowed ys)) (drop_all i xs over)) ∙ so_far

not_less : (a b : ℕ) → b ≤ a → nat_lt a b ≡ false
not_less a b le = grind (arith, nat_tests)

-- and so long that no limit is passed
size_is : (p : Pass) (h : Built) (vs : List (List ℕ)) → h.starts ≡ no_starts → list_all (may_be_listed p) vs ≡ true → heap_size p (with_list p h vs) ≤ bytes_of p vs + 1
size_is pass.Texts h vs none fit = let e = ends_at pass.Texts vs in rw none (omega (arith, e))
size_is pass.Users h vs none fit = let e = ends_at pass.Users vs in rw none (omega (arith, e))
size_is pass.Blobs h vs none fit = let e = ends_at pass.Blobs vs in rw none (omega (arith, e))
size_is pass.Guids h [] none fit = rw none (omega arith)
size_is pass.Guids h (v ∷ vs) none fit = absurd cc

pub never_past : (heap : StreamName) (p : Pass) (h : Built) (bytes : ℕ) (values : List (List ℕ)) → AreBorrowed p bytes values → h.starts ≡ no_starts → h ≡ with_list p h []
    → IsPast (Err (TooLarge heap)) p (with_all p h values) → ⊥
never_past heap p h bytes values listed starts none past =
    let e : with_all p h values ≡ with_list p h values = copied_are p h (with_all p h values) bytes values listed none refl in
    let few : heap_size p (with_list p h values) ≤ heap_limit p = omega (arith, size_is p h values starts listed.fit, listed.counted, listed.within) in
    let no = not_less (heap_limit p) (heap_size p (with_list p h values)) few in
    absurd (cc (sym no ∙ ap (λ k. nat_lt (heap_limit p) (heap_size p k)) (sym e) ∙ past.1))
