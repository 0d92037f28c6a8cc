-- Heaps that are filled value by value: what comes first is there first, and a heap never gets shorter.
use Rattle.std.proofs.Common.{◌≡◌, ℕ, ◌+◌, ◌≤◌, ◌<◌, Bool, true, false, List, [], ◌∷◌, ◌++◌, length, refl, sym, ap, ◌∙◌, arith, Result, Ok, Err}
use Rattle.std.proofs.Common.{zero, suc, ◌-◌, subst}
use Rattle.std.specs.Prelude.{flat_map, nat_lt, if◌then◌else◌, not, ◌&&◌, ◌*◌, ◌^◌}
use Rattle.std.specs.List.{range_with_len}
use Rattle.std.proofs.lemmas.List.{append-nil, length-append}
use Rattle.std.proofs.lemmas.List.Concat.{flat_map-cons}
use Rattle.std.proofs.lemmas.Grind.{flat_map-append}
use Rattle.enc_rows.proofs.Runs.{range_more}
use Rattle.std.proofs.lemmas.Bool.Decides.{nat_tests}
use Rattle.enc_meta.specs.Built.{Built, is_kept, is_guid_kept, with_value, with_entry, joined_end, text_bytes, user_bytes, blob_bytes, passes, entry_passes, text_passes, user_passes, blob_passes, guid_passes}
use Rattle.enc_meta.specs.BuiltSeen.{RefusesWhere}
use Rattle.enc_base.specs.declared.refusal.StreamName.TheVariants.{Strings, Users, Blobs, Guids}
use Rattle.enc_meta.specs.declared.builder.BuildFault.{BuildFault}
use Rattle.enc_meta.specs.declared.builder.BuildFault.TheVariants.{Memory, TooLarge}
use Rattle.std.proofs.lemmas.List.Sums.{sum_by-append}
use Rattle.enc_rows.specs.Sums.{below}
use Rattle.enc_rewriter.specs.Values.{with_one, with_all, heap_size, heap_limit, IsPast}
use Rattle.enc_rewriter.specs.declared.pass.Pass.{Pass}
use Rattle.enc_rewriter.specs.declared.pass.Pass.TheVariants as pass

pub filled_both : (p : Pass) (h : Built) (a b : List (List ℕ)) → with_all p h (a ++ b) ≡ with_all p (with_all p h a) b
unfolding with_all
filled_both p h [] b = refl
filled_both p h (v ∷ a) b = filled_both p (with_one p h v) a b

by_more : (encode : List ℕ → List ℕ) (start : ℕ) (values : List (List ℕ)) (v : List ℕ) → joined_end encode start values ≤ joined_end encode start (values ++ v ∷ [])
unfolding joined_end
by_more encode start values v = rw (sum_by-append (λ (w : List ℕ). length (encode w)) values (v ∷ [])) (omega arith)

by_test : (encode : List ℕ → List ℕ) (start : ℕ) (values : List (List ℕ)) (v : List ℕ) (b : Bool)
    → joined_end encode start values ≤ joined_end encode start (if b then values else values ++ v ∷ [])
by_test encode start values v true = omega arith
by_test encode start values v false = by_more encode start values v

by_value : (encode : List ℕ → List ℕ) (start : ℕ) (values : List (List ℕ)) (v : List ℕ) → joined_end encode start values ≤ joined_end encode start (with_value values v)
unfolding with_value
by_value encode start values v = by_test encode start values v (is_kept values v)

entry_test : (guids : List (List ℕ)) (g : List ℕ) (b : Bool) → length guids ≤ length (if b then guids else guids ++ g ∷ [])
entry_test guids g true = omega arith
entry_test guids g false = rw (length-append guids (g ∷ [])) (omega arith)

by_entry : (guids : List (List ℕ)) (g : List ℕ) → length guids ≤ length (with_entry guids g)
unfolding with_entry
by_entry guids g = entry_test guids g (is_guid_kept guids g)

pub one_grows : (p : Pass) (h : Built) (v : List ℕ) → heap_size p h ≤ heap_size p (with_one p h v)
one_grows pass.Texts h v = by_value text_bytes h.starts.strings h.texts v
one_grows pass.Users h v = by_value user_bytes h.starts.users h.users v
one_grows pass.Blobs h v = by_value blob_bytes h.starts.blobs h.blobs v
one_grows pass.Guids h v = omega (arith, by_entry h.guids v)

past_test : (encode : List ℕ → List ℕ) (limit start : ℕ) (values : List (List ℕ)) (v : List ℕ) (b : Bool)
    → (not b && nat_lt limit (joined_end encode start (values ++ v ∷ []))) ≡ true → nat_lt limit (joined_end encode start (if b then values else values ++ v ∷ [])) ≡ true
past_test encode limit start values v true is = absurd cc
past_test encode limit start values v false is = is

past_value : (encode : List ℕ → List ℕ) (limit start : ℕ) (values : List (List ℕ)) (v : List ℕ) → passes encode limit start values v ≡ true
    → nat_lt limit (joined_end encode start (with_value values v)) ≡ true
unfolding passes with_value
past_value encode limit start values v is = past_test encode limit start values v (is_kept values v) is

past_entry_test : (start : ℕ) (guids : List (List ℕ)) (g : List ℕ) (b : Bool)
    → (not b && nat_lt (2 ^ 29) (16 * (start + length guids + 1))) ≡ true → nat_lt (2 ^ 29) (16 * (start + length (if b then guids else guids ++ g ∷ []))) ≡ true
past_entry_test start guids g true is = absurd cc
past_entry_test start guids g false is =
    let e : 16 * (start + length (guids ++ g ∷ [])) ≡ 16 * (start + length guids + 1) = ap (λ n. 16 * (start + n)) (length-append guids (g ∷ [])) ∙ omega arith in
    ap (λ n. nat_lt (2 ^ 29) n) e ∙ is

past_entry : (start : ℕ) (guids : List (List ℕ)) (g : List ℕ) → entry_passes start guids g ≡ true → nat_lt (2 ^ 29) (16 * (start + length (with_entry guids g))) ≡ true
unfolding entry_passes with_entry
past_entry start guids g is = past_entry_test start guids g (is_guid_kept guids g) is

-- a value that is refused would make its heap pass its limit
pub text_past : (e : BuildFault) (h : Built) (v : List ℕ) → RefusesWhere (Err e) Strings (text_passes h v) → IsPast (Err e) pass.Texts (with_all pass.Texts h (v ∷ []))
unfolding with_all
text_past Memory h v is = tt
text_past (TooLarge heap) h v is = (is.0, past_value text_bytes (2 ^ 29) h.starts.strings h.texts v is.1)

pub user_past : (e : BuildFault) (h : Built) (v : List ℕ) → RefusesWhere (Err e) Users (user_passes h v) → IsPast (Err e) pass.Users (with_all pass.Users h (v ∷ []))
unfolding with_all
user_past Memory h v is = tt
user_past (TooLarge heap) h v is = (is.0, past_value user_bytes (2 ^ 24) h.starts.users h.users v is.1)

pub blob_past : (e : BuildFault) (h : Built) (v : List ℕ) → RefusesWhere (Err e) Blobs (blob_passes h v) → IsPast (Err e) pass.Blobs (with_all pass.Blobs h (v ∷ []))
unfolding with_all
blob_past Memory h v is = tt
blob_past (TooLarge heap) h v is = (is.0, past_value blob_bytes (2 ^ 29) h.starts.blobs h.blobs v is.1)

pub guid_past : (e : BuildFault) (h : Built) (v : List ℕ) → RefusesWhere (Err e) Guids (guid_passes h v) → IsPast (Err e) pass.Guids (with_all pass.Guids h (v ∷ []))
unfolding with_all
guid_past Memory h v is = tt
guid_past (TooLarge heap) h v is = (is.0, past_entry h.starts.guids h.guids v is.1)

pub fill_grows : (p : Pass) (h : Built) (vs : List (List ℕ)) → heap_size p h ≤ heap_size p (with_all p h vs)
unfolding with_all
fill_grows p h [] = omega arith
fill_grows p h (v ∷ vs) = omega (arith, one_grows p h v, fill_grows p (with_one p h v) vs)

listed_more : (f : ℕ → List (List ℕ)) (n : ℕ) → flat_map f (below (n + 1)) ≡ flat_map f (below n) ++ f n
unfolding below
listed_more f n =
    let z : 0 + n ≡ n = omega arith in
    let one : flat_map f ((0 + n) ∷ []) ≡ f n = flat_map-cons f (0 + n) [] ∙ append-nil (f (0 + n)) ∙ ap f z in
    rw (range_more 0 n) (flat_map-append f (range_with_len 0 n) ((0 + n) ∷ []) ∙ ap (λ xs. flat_map f (range_with_len 0 n) ++ xs) one)

pub fill_none : (p : Pass) (h : Built) (f : ℕ → List (List ℕ)) → h ≡ with_all p h (flat_map f (below 0))
unfolding below with_all
fill_none p h f = refl

further : (p : Pass) (h : Built) (f : ℕ → List (List ℕ)) (n : ℕ) → with_all p h (flat_map f (below (n + 1))) ≡ with_all p (with_all p h (flat_map f (below n))) (f n)
further p h f n = ap (λ xs. with_all p h xs) (listed_more f n) ∙ filled_both p h (flat_map f (below n)) (f n)

-- so far, and one piece more
pub fill_more : (p : Pass) (h old new : Built) (f : ℕ → List (List ℕ)) (n : ℕ) → old ≡ with_all p h (flat_map f (below n)) → new ≡ with_all p old (f n)
    → new ≡ with_all p h (flat_map f (below (n + 1)))
fill_more p h old new f n before after = after ∙ ap (λ k. with_all p k (f n)) before ∙ sym (further p h f n)

size_more : (p : Pass) (h : Built) (f : ℕ → List (List ℕ)) (n d : ℕ) → heap_size p (with_all p h (flat_map f (below n))) ≤ heap_size p (with_all p h (flat_map f (below (n + d))))
size_more p h f n zero = let e : n + 0 ≡ n = omega arith in rw e (omega arith)
size_more p h f n (suc d) =
    let e : n + suc d ≡ n + d + 1 = omega arith in
    rw (e, further p h f (n + d)) (omega (arith, size_more p h f n d, fill_grows p (with_all p h (flat_map f (below (n + d)))) (f (n + d))))

size_le : (p : Pass) (h : Built) (f : ℕ → List (List ℕ)) (n m : ℕ) → n ≤ m → heap_size p (with_all p h (flat_map f (below n))) ≤ heap_size p (with_all p h (flat_map f (below m)))
size_le p h f n m le = let e : m ≡ n + (m - n) = omega arith in rw e (size_more p h f n (m - n))

lt_more : (a b c : ℕ) → b ≤ c → nat_lt a b ≡ true → nat_lt a c ≡ true
lt_more a b c le is = grind (arith, nat_tests)

pub past_grows : (r : Result Unit BuildFault) (p : Pass) (a b : Built) → heap_size p a ≤ heap_size p b → IsPast r p a → IsPast r p b
past_grows (Ok x) p a b le is = tt
past_grows (Err Memory) p a b le is = tt
past_grows (Err (TooLarge heap)) p a b le is = (is.0, lt_more (heap_limit p) (heap_size p a) (heap_size p b) le is.1)

-- what is refused at a piece is refused at all
pub past_more : (r : Result Unit BuildFault) (p : Pass) (h old : Built) (f : ℕ → List (List ℕ)) (n m : ℕ) → n < m → old ≡ with_all p h (flat_map f (below n))
    → IsPast r p (with_all p old (f n)) → IsPast r p (with_all p h (flat_map f (below m)))
past_more r p h old f n m lt before is =
    let e : with_all p old (f n) ≡ with_all p h (flat_map f (below (n + 1))) = ap (λ k. with_all p k (f n)) before ∙ sym (further p h f n) in
    past_grows r p (with_all p h (flat_map f (below (n + 1)))) (with_all p h (flat_map f (below m))) (size_le p h f (n + 1) m (omega (arith, lt)))
    (subst (λ k. IsPast r p k) e is)

pub ruleset fills_steps = (fill_none, fill_more, past_more)
