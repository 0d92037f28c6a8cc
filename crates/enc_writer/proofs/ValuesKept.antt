-- The values that an edit brings have their places in the heaps with all edits.
use Rattle.std.proofs.Common.{◌≡◌, ℕ, zero, suc, Bool, true, false, List, [], ◌∷◌, ◌++◌, Some, refl, sym, ap, ◌∙◌}
use Rattle.std.specs.Prelude.{◌||◌, bytes_eq, flat_map, slice_get}
use Rattle.std.proofs.lemmas.Bool.{or_right}
use Rattle.enc_base.specs.Numbers.{is_empty}
use Rattle.enc_meta.specs.Built.{Built, is_among, is_kept, with_value, with_text, with_user, with_blob}
use Rattle.enc_meta.proofs.Places.{with_new, with_kept}
use Rattle.enc_meta.proofs.Standing.{same_bytes}
use Rattle.enc_plain.specs.Rows.{Rows}
use Rattle.enc_plain.specs.Chain.{Chain}
use Rattle.enc_edit_list.specs.declared.edit.Edit.{Edit}
use Rattle.enc_edit_list.specs.declared.edit.EditList.{EditList}
use Rattle.enc_rules.specs.Listed.{rows_listed}
use Rattle.enc_rules.specs.Rules.{texts_of_edit, users_of_edit, blobs_of_edit, with_texts, with_users, with_blobs, heaps_after_edit, with_edits}
use Rattle.enc_list_delta.specs.Holds.{heaps_written}
use Rattle.enc_list_delta.proofs.ModuleRules.{same_bytes as equal}

-- values with more of them, in order
unfoldable all_with : List (List ℕ) → List (List ℕ) → List (List ℕ)
all_with values [] = values
all_with values (v ∷ more) = all_with (with_value values v) more

pub among_front : (xs ys : List (List ℕ)) (v : List ℕ) → is_among xs v ≡ true → is_among (xs ++ ys) v ≡ true
among_front [] ys v h = absurd cc
among_front (x ∷ xs) ys v h = by (bytes_eq x v) h (λ more. among_front xs ys v more)
  where
    by : (b : Bool) → (b || is_among xs v) ≡ true → (is_among xs v ≡ true → is_among (xs ++ ys) v ≡ true) → (b || is_among (xs ++ ys) v) ≡ true
    by true g more = refl
    by false g more = more g

among_last : (xs : List (List ℕ)) (v : List ℕ) → is_among (xs ++ v ∷ []) v ≡ true
among_last [] v = rw (equal v) refl
among_last (x ∷ xs) v = or_right (bytes_eq x v) (is_among (xs ++ v ∷ []) v) (among_last xs v)

pub among_behind : (xs ys : List (List ℕ)) (v : List ℕ) → is_among ys v ≡ true → is_among (xs ++ ys) v ≡ true
among_behind [] ys v h = h
among_behind (x ∷ xs) ys v h = or_right (bytes_eq x v) (is_among (xs ++ ys) v) (among_behind xs ys v h)

kept_by : (v : List ℕ) (xs ys : List (List ℕ)) → (is_among xs v ≡ true → is_among ys v ≡ true) → is_kept xs v ≡ true → is_kept ys v ≡ true
unfolding is_kept
kept_by v xs ys more h = by (is_empty v) h
  where
    by : (b : Bool) → (b || is_among xs v) ≡ true → (b || is_among ys v) ≡ true
    by true g = refl
    by false g = more g

-- a value that is kept stays so with more of them, and so does each that is added
stays : (values : List (List ℕ)) (w v : List ℕ) → is_kept values v ≡ true → is_kept (with_value values w) v ≡ true
stays values w v h = by (is_kept values w) refl
  where
    by : (b : Bool) → is_kept values w ≡ b → is_kept (with_value values w) v ≡ true
    by true is = rw (with_kept values w is) h
    by false is = rw (with_new values w is) (kept_by v values (values ++ w ∷ []) (λ g. among_front values (w ∷ []) v g) h)

kept_last : (values : List (List ℕ)) (v : List ℕ) → is_kept (values ++ v ∷ []) v ≡ true
unfolding is_kept
kept_last values v = or_right (is_empty v) (is_among (values ++ v ∷ []) v) (among_last values v)

added : (values : List (List ℕ)) (v : List ℕ) → is_kept (with_value values v) v ≡ true
added values v = by (is_kept values v) refl
  where
    by : (b : Bool) → is_kept values v ≡ b → is_kept (with_value values v) v ≡ true
    by true is = rw (with_kept values v is) is
    by false is = rw (with_new values v is) (kept_last values v)

all_stay : (values more : List (List ℕ)) (v : List ℕ) → is_kept values v ≡ true → is_kept (all_with values more) v ≡ true
unfolding all_with
all_stay values [] v h = h
all_stay values (w ∷ more) v h = all_stay (with_value values w) more v (stays values w v h)

all_added : (values more : List (List ℕ)) (v : List ℕ) → is_among more v ≡ true → is_kept (all_with values more) v ≡ true
unfolding all_with
all_added values [] v h = absurd cc
all_added values (w ∷ more) v h = by (bytes_eq w v) refl h (λ g. all_added (with_value values w) more v g)
  where
    by : (b : Bool) → bytes_eq w v ≡ b → (b || is_among more v) ≡ true → (is_among more v ≡ true → is_kept (all_with (with_value values w) more) v ≡ true) → is_kept (all_with (with_value values w) more) v ≡ true
    by true is g later = let e : w ≡ v = same_bytes w v is in all_stay (with_value values w) more v (rw e (added values v))
    by false is g later = later g

all_twice : (values first more : List (List ℕ)) → all_with values (first ++ more) ≡ all_with (all_with values first) more
unfolding all_with
all_twice values [] more = refl
all_twice values (v ∷ first) more = all_twice (with_value values v) first more

-- each heap has its own values of the edits
texts_all : (h : Built) (values : List (List ℕ)) → (with_texts h values).texts ≡ all_with h.texts values
unfolding with_texts all_with
texts_all h [] = refl
texts_all h (v ∷ values) = texts_all (with_text h v) values

texts_users : (h : Built) (values : List (List ℕ)) → ((with_users h values).texts ≡ h.texts) × ((with_users h values).blobs ≡ h.blobs)
unfolding with_users
texts_users h [] = (refl, refl)
texts_users h (v ∷ values) = texts_users (with_user h v) values

texts_blobs : (h : Built) (values : List (List ℕ)) → ((with_blobs h values).texts ≡ h.texts) × ((with_blobs h values).users ≡ h.users)
unfolding with_blobs
texts_blobs h [] = (refl, refl)
texts_blobs h (v ∷ values) = texts_blobs (with_blob h v) values

blobs_all : (h : Built) (values : List (List ℕ)) → (with_blobs h values).blobs ≡ all_with h.blobs values
unfolding with_blobs all_with
blobs_all h [] = refl
blobs_all h (v ∷ values) = blobs_all (with_blob h v) values

blobs_texts : (h : Built) (values : List (List ℕ)) → ((with_texts h values).blobs ≡ h.blobs) × ((with_texts h values).users ≡ h.users)
unfolding with_texts
blobs_texts h [] = (refl, refl)
blobs_texts h (v ∷ values) = blobs_texts (with_text h v) values

users_all : (h : Built) (values : List (List ℕ)) → (with_users h values).users ≡ all_with h.users values
unfolding with_users all_with
users_all h [] = refl
users_all h (v ∷ values) = users_all (with_user h v) values

texts_one : (rows : Rows) (h : Built) (e : Edit) → (heaps_after_edit rows h e).texts ≡ all_with h.texts (texts_of_edit rows e)
unfolding heaps_after_edit
texts_one rows h e =
    let t = with_texts h (texts_of_edit rows e) in
    (texts_blobs (with_users t (users_of_edit e)) (blobs_of_edit rows e)).0 ∙ (texts_users t (users_of_edit e)).0 ∙ texts_all h (texts_of_edit rows e)

users_one : (rows : Rows) (h : Built) (e : Edit) → (heaps_after_edit rows h e).users ≡ all_with h.users (users_of_edit e)
unfolding heaps_after_edit
users_one rows h e =
    let t = with_texts h (texts_of_edit rows e) in
    (texts_blobs (with_users t (users_of_edit e)) (blobs_of_edit rows e)).1 ∙ users_all t (users_of_edit e) ∙ ap (λ x. all_with x (users_of_edit e)) (blobs_texts h (texts_of_edit rows e)).1

blobs_one : (rows : Rows) (h : Built) (e : Edit) → (heaps_after_edit rows h e).blobs ≡ all_with h.blobs (blobs_of_edit rows e)
unfolding heaps_after_edit
blobs_one rows h e =
    let t = with_texts h (texts_of_edit rows e) in
    blobs_all (with_users t (users_of_edit e)) (blobs_of_edit rows e)
    ∙ ap (λ x. all_with x (blobs_of_edit rows e)) ((texts_users t (users_of_edit e)).1 ∙ (blobs_texts h (texts_of_edit rows e)).0)

texts_of_all : (rows : Rows) (h : Built) (edits : List Edit) → (with_edits rows h edits).texts ≡ all_with h.texts (flat_map (texts_of_edit rows) edits)
unfolding with_edits all_with
texts_of_all rows h [] = refl
texts_of_all rows h (e ∷ edits) =
    texts_of_all rows (heaps_after_edit rows h e) edits
    ∙ ap (λ x. all_with x (flat_map (texts_of_edit rows) edits)) (texts_one rows h e)
    ∙ sym (all_twice h.texts (texts_of_edit rows e) (flat_map (texts_of_edit rows) edits))

users_of_all : (rows : Rows) (h : Built) (edits : List Edit) → (with_edits rows h edits).users ≡ all_with h.users (flat_map users_of_edit edits)
unfolding with_edits all_with
users_of_all rows h [] = refl
users_of_all rows h (e ∷ edits) =
    users_of_all rows (heaps_after_edit rows h e) edits
    ∙ ap (λ x. all_with x (flat_map users_of_edit edits)) (users_one rows h e)
    ∙ sym (all_twice h.users (users_of_edit e) (flat_map users_of_edit edits))

blobs_of_all : (rows : Rows) (h : Built) (edits : List Edit) → (with_edits rows h edits).blobs ≡ all_with h.blobs (flat_map (blobs_of_edit rows) edits)
unfolding with_edits all_with
blobs_of_all rows h [] = refl
blobs_of_all rows h (e ∷ edits) =
    blobs_of_all rows (heaps_after_edit rows h e) edits
    ∙ ap (λ x. all_with x (flat_map (blobs_of_edit rows) edits)) (blobs_one rows h e)
    ∙ sym (all_twice h.blobs (blobs_of_edit rows e) (flat_map (blobs_of_edit rows) edits))

-- what one edit brings, all edits bring
brought : (f : Edit → List (List ℕ)) (edits : List Edit) (k : ℕ) (e : Edit) (v : List ℕ) → slice_get edits k ≡ Some e → is_among (f e) v ≡ true → is_among (flat_map f edits) v ≡ true
brought f [] k e v there h = absurd cc
brought f (x ∷ edits) zero e v there h = let same : x ≡ e = cc in among_front (f x) (flat_map f edits) v (rw same h)
brought f (x ∷ edits) (suc k) e v there h = among_behind (f x) (flat_map f edits) v (brought f edits k e v there h)

pub text_brought : (c : Chain) (l : EditList) (k : ℕ) (e : Edit) (v : List ℕ) → slice_get l.edits k ≡ Some e → is_among (texts_of_edit (rows_listed c l.edits) e) v ≡ true → is_kept (heaps_written c l).texts v ≡ true
unfolding heaps_written
text_brought c l k e v there h =
    ap (λ xs. is_kept xs v) (texts_of_all (rows_listed c l.edits) _ l.edits)
    ∙ all_added _ (flat_map (texts_of_edit (rows_listed c l.edits)) l.edits) v (brought (texts_of_edit (rows_listed c l.edits)) l.edits k e v there h)

pub user_brought : (c : Chain) (l : EditList) (k : ℕ) (e : Edit) (v : List ℕ) → slice_get l.edits k ≡ Some e → is_among (users_of_edit e) v ≡ true → is_kept (heaps_written c l).users v ≡ true
unfolding heaps_written
user_brought c l k e v there h =
    ap (λ xs. is_kept xs v) (users_of_all (rows_listed c l.edits) _ l.edits)
    ∙ all_added _ (flat_map users_of_edit l.edits) v (brought users_of_edit l.edits k e v there h)

pub blob_brought : (c : Chain) (l : EditList) (k : ℕ) (e : Edit) (v : List ℕ) → slice_get l.edits k ≡ Some e → is_among (blobs_of_edit (rows_listed c l.edits) e) v ≡ true → is_kept (heaps_written c l).blobs v ≡ true
unfolding heaps_written
blob_brought c l k e v there h =
    ap (λ xs. is_kept xs v) (blobs_of_all (rows_listed c l.edits) _ l.edits)
    ∙ all_added _ (flat_map (blobs_of_edit (rows_listed c l.edits)) l.edits) v (brought (blobs_of_edit (rows_listed c l.edits)) l.edits k e v there h)

pub is_itself : (v : List ℕ) → is_among (v ∷ []) v ≡ true
is_itself v = rw (equal v) refl
