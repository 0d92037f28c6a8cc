-- Heaps that pass a limit pass it with more, and one that is refused would pass it.
use Rattle.std.proofs.Common.{◌≡◌, ℕ, zero, suc, ◌+◌, ◌<◌, ◌≤◌, Bool, true, false, List, [], ◌∷◌, ◌++◌, length, take, drop, ◌-◌, get_or, refl, sym, ap, ◌∙◌, inl, inr, arith}
use Rattle.std.specs.Prelude.{◌^◌, ◌||◌, ◌&&◌, ◌⊎◌, not, nat_lt, max, ◌*◌, flat_map, Err}
use Rattle.std.proofs.lemmas.Bool.Decides.{nat_tests}
use Rattle.std.proofs.lemmas.List.Sums.{sum_by_push}
use Rattle.std.proofs.lemmas.Bool.{and_from}
use Rattle.enc_meta.specs.Built.{Built, AreWithinLimits, is_kept, with_value, joined_end, text_bytes, user_bytes, blob_bytes, with_text, with_user, with_blob, passes, text_passes, user_passes, blob_passes, none_from}
use Rattle.enc_meta.specs.declared.heaps.HeapLengths.{HeapLengths}
use Rattle.enc_base.specs.declared.refusal.StreamName.{StreamName}
use Rattle.enc_meta.specs.BuiltSeen.{RefusesWhere}
use Rattle.enc_meta.specs.declared.builder.BuildFault.{BuildFault}
use Rattle.enc_meta.specs.declared.builder.BuildFault.TheVariants.{Memory, TooLarge}
use Rattle.enc_plain.proofs.Columns.{both_left, both_right}
use Rattle.enc_plain.specs.Rows.{Rows}
use Rattle.enc_plain.specs.Chain.{Chain}
use Rattle.enc_edit_list.specs.declared.edit.Edit.{Edit}
use Rattle.enc_edit_list.specs.declared.edit.EditList.{EditList}
use Rattle.enc_meta.specs.Joined.{joined_lengths}
use Rattle.enc_rules.proofs.Fronts.{front_of}
use Rattle.enc_rules.specs.Listed.{rows_listed}
use Rattle.enc_rules.specs.Filled.{Fills, has_no_zero, have_no_zero}
use Rattle.enc_rules.specs.Rules.{passes_limits, heaps_are_full, heap_passes, with_texts, with_users, with_blobs, heaps_after_edit, with_edits, texts_of_edit, users_of_edit, blobs_of_edit}

two : (b : Bool) → (b ≡ true) ⊎ (b ≡ false)
two true = inl refl
two false = inr refl

-- a heap doesn't get shorter
grows : (encode : List ℕ → List ℕ) (start : ℕ) (values : List (List ℕ)) (v : List ℕ) → joined_end encode start values ≤ joined_end encode start (with_value values v)
unfolding with_value joined_end
grows encode start values v = elim (two (is_kept values v)) [
  | inl a ↦ rw a (omega arith)
  | inr a ↦ rw a (let e = sum_by_push (λ (w : List ℕ). length (encode w)) values v in omega arith)
]

more_passes : (limit m n : ℕ) → m ≤ n → nat_lt limit m ≡ true → nat_lt limit n ≡ true
more_passes limit m n le h = grind (arith, nat_tests)

any_more : (a b c x y z : Bool) → (a ≡ true → x ≡ true) → (b ≡ true → y ≡ true) → (c ≡ true → z ≡ true) → (a || b || c) ≡ true → (x || y || z) ≡ true
any_more true b c x y z f g h i = rw (f refl) refl
any_more false true c true y z f g h i = refl
any_more false true c false y z f g h i = rw (g refl) refl
any_more false false true true y z f g h i = refl
any_more false false true false true z f g h i = refl
any_more false false true false false z f g h i = h refl
any_more false false false x y z f g h i = absurd (cc)

same : (b : Bool) → b ≡ true → b ≡ true
same b h = h

pub passes_text : (h : Built) (v : List ℕ) → passes_limits h ≡ true → passes_limits (with_text h v) ≡ true
unfolding passes_limits
passes_text h v = any_more _ _ _ _ _ _ (more_passes (2 ^ 29) _ _ (grows text_bytes h.starts.strings h.texts v)) (same _) (same _)

pub passes_user : (h : Built) (v : List ℕ) → passes_limits h ≡ true → passes_limits (with_user h v) ≡ true
unfolding passes_limits
passes_user h v = any_more _ _ _ _ _ _ (same _) (more_passes (2 ^ 24) _ _ (grows user_bytes h.starts.users h.users v)) (same _)

pub passes_blob : (h : Built) (v : List ℕ) → passes_limits h ≡ true → passes_limits (with_blob h v) ≡ true
unfolding passes_limits
passes_blob h v =
    let texts = nat_lt (2 ^ 29) (joined_end text_bytes h.starts.strings h.texts) in
    let users = nat_lt (2 ^ 24) (joined_end user_bytes h.starts.users h.users) in
    any_more texts users _ texts users _ (same texts) (same users) (more_passes (2 ^ 29) _ _ (grows blob_bytes h.starts.blobs h.blobs v))

pub passes_texts : (h : Built) (values : List (List ℕ)) → passes_limits h ≡ true → passes_limits (with_texts h values) ≡ true
unfolding with_texts
passes_texts h [] p = p
passes_texts h (v ∷ values) p = passes_texts (with_text h v) values (passes_text h v p)

pub passes_users : (h : Built) (values : List (List ℕ)) → passes_limits h ≡ true → passes_limits (with_users h values) ≡ true
unfolding with_users
passes_users h [] p = p
passes_users h (v ∷ values) p = passes_users (with_user h v) values (passes_user h v p)

pub passes_blobs : (h : Built) (values : List (List ℕ)) → passes_limits h ≡ true → passes_limits (with_blobs h values) ≡ true
unfolding with_blobs
passes_blobs h [] p = p
passes_blobs h (v ∷ values) p = passes_blobs (with_blob h v) values (passes_blob h v p)

-- a value that is refused
not_true : (b : Bool) → not b ≡ true → b ≡ false
not_true true h = sym h
not_true false h = refl

refused : (encode : List ℕ → List ℕ) (limit start : ℕ) (values : List (List ℕ)) (v : List ℕ) → passes encode limit start values v ≡ true → nat_lt limit (joined_end encode start (with_value values v)) ≡ true
unfolding passes with_value
refused encode limit start values v h =
    let fresh = not_true (is_kept values v) (both_left (not (is_kept values v)) (nat_lt limit (joined_end encode start (values ++ v ∷ []))) h) in
    rw fresh (both_right (not (is_kept values v)) (nat_lt limit (joined_end encode start (values ++ v ∷ []))) h)

first_of : (a b c : Bool) → a ≡ true → (a || b || c) ≡ true
first_of a b c h = rw h refl

second_of : (a b c : Bool) → b ≡ true → (a || b || c) ≡ true
second_of true b c h = refl
second_of false b c h = rw h refl

third_of : (a b c : Bool) → c ≡ true → (a || b || c) ≡ true
third_of true b c h = refl
third_of false true c h = refl
third_of false false c h = h

pub refused_text : (h : Built) (v : List ℕ) → text_passes h v ≡ true → passes_limits (with_text h v) ≡ true
unfolding passes_limits
refused_text h v p = first_of _ _ _ (refused text_bytes (2 ^ 29) h.starts.strings h.texts v p)

pub refused_user : (h : Built) (v : List ℕ) → user_passes h v ≡ true → passes_limits (with_user h v) ≡ true
unfolding passes_limits
refused_user h v p = second_of _ _ _ (refused user_bytes (2 ^ 24) h.starts.users h.users v p)

pub refused_blob : (h : Built) (v : List ℕ) → blob_passes h v ≡ true → passes_limits (with_blob h v) ≡ true
unfolding passes_limits
refused_blob h v p = third_of (nat_lt (2 ^ 29) (joined_end text_bytes h.starts.strings h.texts)) (nat_lt (2 ^ 24) (joined_end user_bytes h.starts.users h.users)) _ (refused blob_bytes (2 ^ 29) h.starts.blobs h.blobs v p)

-- some values and then others
pub texts_append : (h : Built) (xs ys : List (List ℕ)) → with_texts h (xs ++ ys) ≡ with_texts (with_texts h xs) ys
unfolding with_texts
texts_append h [] ys = refl
texts_append h (x ∷ xs) ys = texts_append (with_text h x) xs ys

pub users_append : (h : Built) (xs ys : List (List ℕ)) → with_users h (xs ++ ys) ≡ with_users (with_users h xs) ys
unfolding with_users
users_append h [] ys = refl
users_append h (x ∷ xs) ys = users_append (with_user h x) xs ys

pub blobs_append : (h : Built) (xs ys : List (List ℕ)) → with_blobs h (xs ++ ys) ≡ with_blobs (with_blobs h xs) ys
unfolding with_blobs
blobs_append h [] ys = refl
blobs_append h (x ∷ xs) ys = blobs_append (with_blob h x) xs ys

-- heaps begin where they did
starts_texts : (h : Built) (values : List (List ℕ)) → (with_texts h values).starts ≡ h.starts
unfolding with_texts
starts_texts h [] = refl
starts_texts h (v ∷ values) = starts_texts (with_text h v) values

starts_users : (h : Built) (values : List (List ℕ)) → (with_users h values).starts ≡ h.starts
unfolding with_users
starts_users h [] = refl
starts_users h (v ∷ values) = starts_users (with_user h v) values

starts_blobs : (h : Built) (values : List (List ℕ)) → (with_blobs h values).starts ≡ h.starts
unfolding with_blobs
starts_blobs h [] = refl
starts_blobs h (v ∷ values) = starts_blobs (with_blob h v) values

-- what is refused is told by what was added
pub fills_refused : (f : BuildFault) (name : StreamName) (passed : Bool) (new filled : Built) → (passed ≡ true → passes_limits filled ≡ true) → RefusesWhere (Err f) name passed → Fills (Err f) new filled
fills_refused Memory name passed new filled to h = tt
fills_refused (TooLarge heap) name passed new filled to h = to h.1

pub fills_later : (f : BuildFault) (new now part filled : Built) → (passes_limits part ≡ true → passes_limits filled ≡ true) → Fills (Err f) new part → Fills (Err f) now filled
fills_later Memory new now part filled to h = tt
fills_later (TooLarge heap) new now part filled to h = to h

pub filled_front : {X : Type 0} (fill : Built → List (List ℕ) → Built) (append : (h : Built) (xs ys : List (List ℕ)) → fill h (xs ++ ys) ≡ fill (fill h xs) ys) (f : X → List (List ℕ)) (h : Built) (rest : List X) (x : X) → 1 ≤ length rest → x ≡ get_or rest 0 x → fill h (flat_map f rest) ≡ fill (fill h (f x)) (flat_map f (take (length rest - 1) (drop 1 rest)))
filled_front {X} fill append f h rest x low there =
    ap (λ (xs : List X). fill h (flat_map f xs)) (front_of rest x low ∙ ap (λ (y : X). y ∷ take (length rest - 1) (drop 1 rest)) (sym there))
    ∙ append h (f x) (flat_map f (take (length rest - 1) (drop 1 rest)))

pub filled_none : {X : Type 0} (fill : Built → List (List ℕ) → Built) (none : (h : Built) → fill h [] ≡ h) (f : X → List (List ℕ)) (h : Built) (rest : List X) → length rest < 1 → fill h (flat_map f rest) ≡ h
filled_none fill none f h [] low = none h
filled_none fill none f h (x ∷ xs) low = absurd (omega arith)

pub texts_none : (h : Built) → with_texts h [] ≡ h
unfolding with_texts
texts_none h = refl

pub users_none : (h : Built) → with_users h [] ≡ h
unfolding with_users
users_none h = refl

pub blobs_none : (h : Built) → with_blobs h [] ≡ h
unfolding with_blobs
blobs_none h = refl

whole_parts : (xs ys : List (List ℕ)) → have_no_zero (xs ++ ys) ≡ true → (have_no_zero xs ≡ true) × (have_no_zero ys ≡ true)
whole_parts [] ys h = (refl, h)
whole_parts (x ∷ xs) ys h =
    let w = whole_parts xs ys (both_right (has_no_zero x) (have_no_zero (xs ++ ys)) h) in
    (and_from (has_no_zero x) (have_no_zero xs) (both_left (has_no_zero x) (have_no_zero (xs ++ ys)) h) w.0, w.1)

pub whole_front : {X : Type 0} (f : X → List (List ℕ)) (rest : List X) (x : X) → 1 ≤ length rest → x ≡ get_or rest 0 x → have_no_zero (flat_map f rest) ≡ true → (have_no_zero (f x) ≡ true) × (have_no_zero (flat_map f (take (length rest - 1) (drop 1 rest))) ≡ true)
whole_front {X} f rest x low there h =
    let split : flat_map f rest ≡ f x ++ flat_map f (take (length rest - 1) (drop 1 rest)) = ap (λ (xs : List X). flat_map f xs) (front_of rest x low ∙ ap (λ (y : X). y ∷ take (length rest - 1) (drop 1 rest)) (sym there)) in
    whole_parts (f x) (flat_map f (take (length rest - 1) (drop 1 rest))) (sym (ap have_no_zero split) ∙ h)

-- an edit's texts, user texts and blobs one behind the other
pub passes_edit_texts : (rows : Rows) (h : Built) (e : Edit) → passes_limits (with_texts h (texts_of_edit rows e)) ≡ true → passes_limits (heaps_after_edit rows h e) ≡ true
unfolding heaps_after_edit
passes_edit_texts rows h e p = passes_blobs _ (blobs_of_edit rows e) (passes_users _ (users_of_edit e) p)

pub passes_edit_users : (rows : Rows) (h part : Built) (e : Edit) → part ≡ with_texts h (texts_of_edit rows e) → passes_limits (with_users part (users_of_edit e)) ≡ true → passes_limits (heaps_after_edit rows h e) ≡ true
unfolding heaps_after_edit
passes_edit_users rows h part e is p = passes_blobs _ (blobs_of_edit rows e) (rw is at p)

pub passes_edit_blobs : (rows : Rows) (h part more : Built) (e : Edit) → part ≡ with_texts h (texts_of_edit rows e) → more ≡ with_users part (users_of_edit e) → passes_limits (with_blobs more (blobs_of_edit rows e)) ≡ true → passes_limits (heaps_after_edit rows h e) ≡ true
unfolding heaps_after_edit
passes_edit_blobs rows h part more e is are p = rw (are, is) at p

pub edit_filled : (rows : Rows) (h part more filled : Built) (e : Edit) → part ≡ with_texts h (texts_of_edit rows e) → more ≡ with_users part (users_of_edit e) → filled ≡ with_blobs more (blobs_of_edit rows e) → filled ≡ heaps_after_edit rows h e
unfolding heaps_after_edit
edit_filled rows h part more filled e is are done = done ∙ rw (are, is) refl

pub passes_edits : (rows : Rows) (h : Built) (e : Edit) → passes_limits h ≡ true → passes_limits (heaps_after_edit rows h e) ≡ true
unfolding heaps_after_edit
passes_edits rows h e p = passes_blobs _ (blobs_of_edit rows e) (passes_users _ (users_of_edit e) (passes_texts h (texts_of_edit rows e) p))

starts_edit : (rows : Rows) (h : Built) (e : Edit) → (heaps_after_edit rows h e).starts ≡ h.starts
unfolding heaps_after_edit
starts_edit rows h e = starts_blobs _ (blobs_of_edit rows e) ∙ starts_users _ (users_of_edit e) ∙ starts_texts h (texts_of_edit rows e)

starts_edits : (rows : Rows) (h : Built) (edits : List Edit) → (with_edits rows h edits).starts ≡ h.starts
unfolding with_edits
starts_edits rows h [] = refl
starts_edits rows h (e ∷ edits) = starts_edits rows (heaps_after_edit rows h e) edits ∙ starts_edit rows h e

-- one edit more
one_edit_more : (rows : Rows) (h : Built) (edits : List Edit) (k : ℕ) (e : Edit) → k < length edits → e ≡ get_or edits k e → with_edits rows h (take (suc k) edits) ≡ heaps_after_edit rows (with_edits rows h (take k edits)) e
unfolding with_edits
one_edit_more rows h [] k e low there = absurd (omega arith)
one_edit_more rows h (x ∷ xs) zero e low there = ap (heaps_after_edit rows h) (sym there)
one_edit_more rows h (x ∷ xs) (suc k) e low there = one_edit_more rows (heaps_after_edit rows h x) xs k e (omega arith) there

pub edits_more : (rows : Rows) (h : Built) (edits : List Edit) (k : ℕ) (e : Edit) → k < length edits → e ≡ get_or edits k e → with_edits rows h (take (k + 1) edits) ≡ heaps_after_edit rows (with_edits rows h (take k edits)) e
edits_more rows h edits k e low there = let s : k + 1 ≡ suc k = omega arith in rw s (one_edit_more rows h edits k e low there)

pub edits_none : (rows : Rows) (h : Built) → with_edits rows h [] ≡ h
unfolding with_edits
edits_none rows h = refl

-- heaps that have room before any edit pass no limit while they are within theirs
not_above : (limit n : ℕ) → n ≤ limit → nat_lt limit n ≡ false
not_above limit n le = grind (arith, nat_tests)

all_false : (a b c : Bool) → a ≡ false → b ≡ false → c ≡ false → (a || b || c) ≡ false
all_false a b c h i j = rw (h, i, j) refl

left_false : (a b : Bool) → (a || b) ≡ false → a ≡ false
left_false true b h = absurd (cc)
left_false false b h = refl

right_false : (a b : Bool) → (a || b) ≡ false → b ≡ false
right_false true b h = absurd (cc)
right_false false b h = h

not_past : (limit n : ℕ) → nat_lt limit n ≡ false → n ≤ limit
not_past limit n h = grind (arith, nat_tests)

joined_none : (encode : List ℕ → List ℕ) (start : ℕ) → joined_end encode start [] ≡ start + 1
unfolding joined_end
joined_none encode start = omega arith

heap_within : (encode : List ℕ → List ℕ) (limit start first : ℕ) (values : List (List ℕ)) → start ≡ first → nat_lt limit (joined_end encode first []) ≡ false → joined_end encode start values ≤ max limit (start + 1) → nat_lt limit (joined_end encode start values) ≡ false
heap_within encode limit start first values same room within =
    let low = not_past limit (joined_end encode first []) room in
    let e = joined_none encode first in
    not_above limit (joined_end encode start values) (omega arith)

pub within_limits : (c : Chain) (l : EditList) (h : Built) → h.starts ≡ joined_lengths c.heaps → AreWithinLimits h → heaps_are_full c l ≡ false → passes_limits h ≡ false
unfolding passes_limits heaps_are_full
within_limits c l h starts within room =
    let s = joined_lengths c.heaps in
    let texts = nat_lt (2 ^ 29) (joined_end text_bytes s.strings []) in
    let users = nat_lt (2 ^ 24) (joined_end user_bytes s.users []) in
    let blobs = nat_lt (2 ^ 29) (joined_end blob_bytes s.blobs []) in
    let three = left_false (texts || users || blobs) (nat_lt (2 ^ 29) (16 * (s.guids + 1))) room in
    let two_of = left_false (texts || users) blobs three in
    all_false _ _ _
    (heap_within text_bytes (2 ^ 29) h.starts.strings s.strings h.texts (ap (λ (n : HeapLengths). n.strings) starts) (left_false texts users two_of) within.texts)
    (heap_within user_bytes (2 ^ 24) h.starts.users s.users h.users (ap (λ (n : HeapLengths). n.users) starts) (right_false texts users two_of) within.users)
    (heap_within blob_bytes (2 ^ 29) h.starts.blobs s.blobs h.blobs (ap (λ (n : HeapLengths). n.blobs) starts) (right_false (texts || users) blobs three) within.blobs)

-- what the edits up to a place bring
pub heaps_passed : (c : Chain) (l : EditList) (edits : List Edit) (k : ℕ) (e : Edit) (h : Built) → edits ≡ l.edits → k < length edits → e ≡ get_or edits k e → h ≡ with_edits (rows_listed c l.edits) (none_from (joined_lengths c.heaps)) (take k edits) → heap_passes c l k ≡ passes_limits (heaps_after_edit (rows_listed c l.edits) h e)
unfolding heap_passes
heaps_passed c l edits k e h are low there is =
    ap (λ (es : List Edit). passes_limits (with_edits (rows_listed c l.edits) (none_from (joined_lengths c.heaps)) (take (k + 1) es))) (sym are)
    ∙ ap passes_limits (edits_more (rows_listed c l.edits) (none_from (joined_lengths c.heaps)) edits k e low there)
    ∙ ap (λ (b : Built). passes_limits (heaps_after_edit (rows_listed c l.edits) b e)) (sym is)

-- an edit that is added whole passes no limit
pub edit_within : (c : Chain) (l : EditList) (edits : List Edit) (k : ℕ) (e : Edit) (h more : Built) → edits ≡ l.edits → k < length edits → e ≡ get_or edits k e → h ≡ with_edits (rows_listed c l.edits) (none_from (joined_lengths c.heaps)) (take k edits) → more ≡ heaps_after_edit (rows_listed c l.edits) h e → AreWithinLimits more → heaps_are_full c l ≡ false → heap_passes c l k ≡ false
edit_within c l edits k e h more are low there is filled within room =
    let rows = rows_listed c l.edits in
    let starts : more.starts ≡ joined_lengths c.heaps = ap (λ (b : Built). b.starts) filled ∙ starts_edit rows h e ∙ ap (λ (b : Built). b.starts) is ∙ starts_edits rows (none_from (joined_lengths c.heaps)) (take k edits) in
    heaps_passed c l edits k e h are low there is ∙ ap passes_limits (sym filled) ∙ within_limits c l more starts within room
