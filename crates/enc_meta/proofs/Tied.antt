-- What a pool keeps of its values, with none and with one more.
use Rattle.std.proofs.Common.{◌≡◌, ℕ, ◌+◌, ◌^◌, ◌≤◌, ◌<◌, true, false, List, [], ◌∷◌, ◌++◌, length, map, refl, arith, length-append}
use Rattle.std.specs.Prelude.{IsTrue, nat_lt}
use Rattle.std.specs.Map.{keys_of}
use Rattle.std.proofs.lemmas.Bool.Decides.{nat_tests}
use Rattle.std.proofs.lemmas.List.Sums.{sum_by_push}
use Rattle.std.proofs.lemmas.List.Folds.{list_all-append}
use Rattle.enc_base.specs.Numbers.{spelled, is_empty}
use Rattle.enc_meta.specs.Built.{is_kept, mark_of, joined_end, passes}
use Rattle.enc_meta.specs.Pools.{encoded, limit_of, is_fit, value_is_good, IsTied}
use Rattle.enc_meta.specs.declared.heap_form.HeapForm.{HeapForm}
use Rattle.enc_meta.specs.declared.heap_form.HeapForm.TheVariants.{Text, User, Blob}
use Rattle.enc_meta.proofs.Places.{placed_more, seen_more, not_empty}

-- the end with one more value
pub joined_more : (encode : List ℕ → List ℕ) (start : ℕ) (values : List (List ℕ)) (v : List ℕ) → joined_end encode start (values ++ v ∷ []) ≡ joined_end encode start values + length (encode v)
unfolding joined_end
joined_more encode start values v = rw (sum_by_push (λ (w : List ℕ). length (encode w)) values v) (omega arith)

-- a value that isn't there passes the limit where the end behind it does
pub passes_new : (encode : List ℕ → List ℕ) (limit start end : ℕ) (values : List (List ℕ)) (v : List ℕ) → is_kept values v ≡ false → end ≡ joined_end encode start values → passes encode limit start values v ≡ nat_lt limit (end + length (encode v))
unfolding passes
passes_new encode limit start end values v new is = rw (new, joined_more encode start values v, is) refl

pub passes_kept : (encode : List ℕ → List ℕ) (limit start : ℕ) (values : List (List ℕ)) (v : List ℕ) → is_kept values v ≡ true → passes encode limit start values v ≡ false
unfolding passes
passes_kept encode limit start values v kept = rw kept refl

-- a value that doesn't pass the limit has a length that can be spelled
fit_is_good : (form : HeapForm) (end : ℕ) (v : List ℕ) → is_empty v ≡ false → IsTrue (is_fit form v) → 0 < end → end + length (encoded form v) ≤ limit_of form → IsTrue (value_is_good form v)
fit_is_good Text end v full fit some within = rw (full, fit) refl
fit_is_good User end v full fit some within =
    let e = length-append (spelled (length (v ++ mark_of v ∷ []))) (v ++ mark_of v ∷ []) in
    let f = length-append v (mark_of v ∷ []) in
    let few : length v + 1 < 2 ^ 29 = omega (arith, e, f, within) in
    grind (arith, nat_tests, fit, few)
fit_is_good Blob end v full fit some within =
    let e = length-append (spelled (length v)) v in
    let few : length v < 2 ^ 29 = omega (arith, e, within) in
    grind (arith, nat_tests, few)

-- no value
pub tied_none : {K : Type 0} (seen : K → List ℕ) (form : HeapForm) (start : ℕ) (entries : List (K × ℕ)) → entries ≡ [] → IsTied seen form start (start + 1) entries
unfolding joined_end
tied_none seen form start entries none = rw none (record { placed = tt; ends = omega arith; within = omega arith; good = refl })

-- one more value
pub tied_more : {K : Type 0} (seen : K → List ℕ) (form : HeapForm) (start end : ℕ) (entries : List (K × ℕ)) (k : K) (v : List ℕ) → IsTied seen form start end entries → seen k ≡ v → end + length (encoded form v) ≤ limit_of form → is_kept (map seen (keys_of entries)) v ≡ false → IsTrue (is_fit form v) → IsTied seen form start (end + length (encoded form v)) (entries ++ (k, end) ∷ [])
unfolding joined_end
tied_more seen form start end entries k v tied is within new fit =
    let values = map seen (keys_of entries) in
    let more = seen_more seen entries k end in
    let good = fit_is_good form end v (not_empty values v new) fit (omega (arith, tied.ends)) within in
    record {
      placed = placed_more seen (encoded form) (start + 1) end entries k tied.placed tied.ends;
      ends = rw (more, is, joined_more (encoded form) start values v, ← tied.ends) refl;
      within = omega (arith, within);
      good = rw (more, is, list_all-append (value_is_good form) values (v ∷ []), tied.good, good) refl;
    }

-- a limit is at most 2^29
pub limit_few : (form : HeapForm) → limit_of form ≤ 2 ^ 29
limit_few Text = omega arith
limit_few User = omega arith
limit_few Blob = omega arith
