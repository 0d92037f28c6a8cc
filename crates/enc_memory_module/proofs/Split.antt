-- An edit among others: what its place is, and what its row is.
use Rattle.std.proofs.Common.{◌≡◌, ℕ, zero, suc, ◌+◌, ◌<◌, Bool, true, false, List, [], ◌∷◌, ◌++◌, length, take, Some, refl, ap, ◌∙◌, arith, append_assoc}
use Rattle.std.specs.Prelude.{slice_get, filter, if◌then◌else◌}
use Rattle.std.proofs.lemmas.List.{append-nil, length-append}
use Rattle.enc_plain.specs.Module.{Module}
use Rattle.enc_edit_list.specs.declared.edit.Edit.{Edit}
use Rattle.enc_edit_list.specs.Added.{adds_to, adding, rows_added}
use Rattle.enc_rules.specs.Edited.{row_edited, rows_behind, rows_edited}

-- the item at the seam of two lists
pub seam : {A : Type 0} (before rest : List A) (x : A) → slice_get (before ++ x ∷ rest) (length before) ≡ Some x
seam [] rest x = refl
seam (y ∷ before) rest x = seam before rest x

-- those before the seam
pub take_seam : {A : Type 0} (before rest : List A) → take (length before) (before ++ rest) ≡ before
take_seam [] rest = refl
take_seam (y ∷ before) rest = ap (λ xs. y ∷ xs) (take_seam before rest)

pub rows_append : (m : Module) (pre xs ys : List Edit) → rows_behind m pre (xs ++ ys) ≡ rows_behind m pre xs ++ rows_behind m (pre ++ xs) ys
unfolding rows_behind
rows_append m pre [] ys = rw (append-nil pre) refl
rows_append m pre (e ∷ xs) ys = ap (λ ts. row_edited m pre e ∷ ts) (rows_append m (pre ++ e ∷ []) xs ys ∙ (rw (append_assoc pre (e ∷ []) xs) refl))

pub rows_length : (m : Module) (pre xs : List Edit) → length (rows_behind m pre xs) ≡ length xs
unfolding rows_behind
rows_length m pre [] = refl
rows_length m pre (e ∷ xs) = ap suc (rows_length m (pre ++ e ∷ []) xs)

-- the rows of all, split at an edit
pub rows_split : (m : Module) (before rest : List Edit) (e : Edit) → rows_edited m (before ++ e ∷ rest) ≡ rows_edited m before ++ row_edited m before e ∷ rows_behind m (before ++ e ∷ []) rest
unfolding rows_behind
rows_split m before rest e = rows_append m [] before (e ∷ rest)

pub row_there : (m : Module) (before rest : List Edit) (e : Edit) → slice_get (rows_edited m (before ++ e ∷ rest)) (length before) ≡ Some (row_edited m before e)
row_there m before rest e =
    rw (rows_split m before rest e, ← (rows_length m [] before)) (seam (rows_edited m before) (rows_behind m (before ++ e ∷ []) rest) (row_edited m before e))

pub rows_before_it : (m : Module) (before rest : List Edit) (e : Edit) → take (length before) (rows_edited m (before ++ e ∷ rest)) ≡ rows_edited m before
rows_before_it m before rest e =
    rw (rows_split m before rest e, ← (rows_length m [] before)) (take_seam (rows_edited m before) (row_edited m before e ∷ rows_behind m (before ++ e ∷ []) rest))

-- those that add to a table, one more or not
filter_one : {A : Type 0} (b : Bool) (x : A) (all xs ys : List A) → all ≡ xs ++ ys → (if b then x ∷ all else all) ≡ (if b then x ∷ xs else xs) ++ ys
filter_one true x all xs ys is = ap (λ zs. x ∷ zs) is
filter_one false x all xs ys is = is

filter_append : {A : Type 0} (p : A → Bool) (xs ys : List A) → filter p (xs ++ ys) ≡ filter p xs ++ filter p ys
filter_append p [] ys = refl
filter_append p (x ∷ xs) ys = filter_one (p x) x (filter p (xs ++ ys)) (filter p xs) (filter p ys) (filter_append p xs ys)

pub adding_append : (xs ys : List Edit) (t : ℕ) → adding (xs ++ ys) t ≡ adding xs t ++ adding ys t
unfolding adding
adding_append xs ys t = filter_append (adds_to t) xs ys

one_if : {A : Type 0} (b : Bool) (x : A) → length (if b then x ∷ [] else []) ≡ (if b then 1 else 0)
one_if true x = refl
one_if false x = refl

pub added_more : (before : List Edit) (e : Edit) (t : ℕ) → rows_added (before ++ e ∷ []) t ≡ rows_added before t + (if adds_to t e then 1 else 0)
unfolding rows_added adding
added_more before e t = rw (filter_append (adds_to t) before (e ∷ []), length-append (filter (adds_to t) before) (filter (adds_to t) (e ∷ [])), one_if (adds_to t e) e) refl

-- an item that is there stands within the list
pub few_of : (xs : List Edit) (i : ℕ) (e : Edit) → slice_get xs i ≡ Some e → i < length xs
few_of [] i e h = absurd cc
few_of (x ∷ xs) zero e h = omega arith
few_of (x ∷ xs) (suc i) e h = let w = few_of xs i e h in omega (arith, w)
