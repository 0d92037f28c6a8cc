-- The rows that acts add, and the form of their edits.
use Rattle.std.proofs.Common.{◌≡◌, ℕ, zero, suc, ◌+◌, ◌*◌, ◌<◌, ◌≤◌, Bool, true, false, List, [], ◌∷◌, ◌++◌, length, take, Option, Some, None, refl, sym, ap, ◌∙◌, arith}
use Rattle.std.specs.Prelude.{slice_get, ◌==◌, nat_le, filter, option_map, sum_by, if◌then◌else◌}
use Rattle.std.specs.List.{list_any}
use Rattle.std.proofs.lemmas.Bool.Decides.{nat_tests}
use Rattle.std.proofs.lemmas.List.Sums.{sum_by-cons}
use Rattle.std.proofs.lemmas.Option.{slice_get-map}
use Rattle.enc_schema.specs.Schema.{columns_in}
use Rattle.enc_base.specs.Tables.{method_def}
use Rattle.enc_opcodes.specs.Opcodes.{is_op, entry_of}
use Rattle.enc_opcodes.specs.Sound.{instruction_size}
use Rattle.enc_edit_list.specs.declared.edit.Edit.{Edit}
use Rattle.enc_edit_list.specs.Added.{adds_to, adding, rows_added}
use Rattle.enc_edit_list.specs.Form.{edit_fits, body_fits, stated_columns, cells_fit}
use Rattle.enc_edit_list.specs.Sizes.{length_of_code}
use Rattle.enc_generator.specs.Generated.{body_loading, adds_plain_row, adds_method}
use Rattle.enc_generator.proofs.NamesApart.{Each}
use Rattle.enc_generator.proofs.Acts.{Act, plain_row, method, code, edit_of_act, edits_of_acts, name_in, new_names}

pub edit_there : (acts : List Act) (k : ℕ) (a : Act) → slice_get acts k ≡ Some a → slice_get (edits_of_acts acts) k ≡ Some (edit_of_act a)
edit_there acts k a h = slice_get-map edit_of_act acts k ∙ ap (option_map edit_of_act) h

act_by : (o : Option Act) (e : Edit) → option_map edit_of_act o ≡ Some e → (a : Act) × (o ≡ Some a) × (edit_of_act a ≡ e)
act_by None e h = absurd cc
act_by (Some a) e h = (a, refl, cc)

pub act_there : (acts : List Act) (k : ℕ) (e : Edit) → slice_get (edits_of_acts acts) k ≡ Some e → (a : Act) × (slice_get acts k ≡ Some a) × (edit_of_act a ≡ e)
act_there acts k e h = act_by (slice_get acts k) e (sym (slice_get-map edit_of_act acts k) ∙ h)

-- as many edits as acts
pub all_many : (acts : List Act) → length (edits_of_acts acts) ≡ length acts
all_many [] = refl
all_many (a ∷ acts) = ap suc (all_many acts)

abbrev pub one : Bool → ℕ
one true = 1
one false = 0

by_test : (b : Bool) (e : Edit) (xs : List Edit) → length (if b then e ∷ xs else xs) ≡ one b + length xs
by_test true e xs = omega arith
by_test false e xs = omega arith

pub added_cons : (e : Edit) (xs : List Edit) (t : ℕ) → rows_added (e ∷ xs) t ≡ one (adds_to t e) + rows_added xs t
unfolding rows_added adding
added_cons e xs t = by_test (adds_to t e) e (filter (adds_to t) xs)

pub added_none : (t : ℕ) → rows_added [] t ≡ 0
unfolding rows_added adding
added_none t = refl

one_few : (b : Bool) → one b ≤ 1
one_few true = omega arith
one_few false = omega arith

pub added_few : (xs : List Edit) (t : ℕ) → rows_added xs t ≤ length xs
added_few [] t = let n = added_none t in omega (arith, n)
added_few (e ∷ xs) t =
    let n = added_cons e xs t in
    let own = one_few (adds_to t e) in
    let rest = added_few xs t in
    omega (arith, n, own, rest)

filter_by : {A : Type 0} (b : Bool) (x : A) (xs : List A) (n : ℕ) → length xs ≤ n → length (if b then x ∷ xs else xs) ≤ suc n
filter_by true x xs n h = omega (arith, h)
filter_by false x xs n h = omega (arith, h)

pub filter_few : {A : Type 0} (p : A → Bool) (xs : List A) → length (filter p xs) ≤ length xs
filter_few p [] = omega arith
filter_few p (x ∷ xs) = filter_by (p x) x (filter p xs) (length xs) (filter_few p xs)

-- each row that is added to a table stands behind those before it
pub rank_rises : (xs : List Edit) (j k t : ℕ) (e : Edit) → j < k → slice_get xs j ≡ Some e → adds_to t e ≡ true → rows_added (take j xs) t + 1 ≤ rows_added (take k xs) t
rank_rises [] j k t e low h is = absurd cc
rank_rises (x ∷ xs) zero zero t e low h is = absurd (omega arith)
rank_rises (x ∷ xs) zero (suc k) t e low h is =
    let same : x ≡ e = cc in
    let n = added_cons x (take k xs) t in
    let own : one (adds_to t x) ≡ 1 = ap one (ap (adds_to t) same ∙ is) in
    let z = added_none t in
    omega (arith, n, own, z)
rank_rises (x ∷ xs) (suc j) zero t e low h is = absurd (omega arith)
rank_rises (x ∷ xs) (suc j) (suc k) t e low h is =
    let m = added_cons x (take j xs) t in
    let n = added_cons x (take k xs) t in
    let rest = rank_rises xs j k t e (omega (arith, low)) h is in
    omega (arith, m, n, rest)

-- no other row of an act is a method
abbrev pub IsNoMethod : Act → Type 0
IsNoMethod (plain_row table cells) = (table == method_def) ≡ false
IsNoMethod (method name n) = Unit {0}
IsNoMethod (code r n) = Unit {0}

pub adds_name : (a : Act) → IsNoMethod a → one (adds_to method_def (edit_of_act a)) ≡ length (name_in a)
adds_name (plain_row table cells) other = ap one other
adds_name (method name n) other = refl
adds_name (code r n) other = refl

-- as many methods are added as there are new names
pub names_added : (acts : List Act) → Each IsNoMethod acts → rows_added (edits_of_acts acts) method_def ≡ length (new_names acts)
names_added [] others = added_none method_def
names_added (a ∷ acts) others =
    let n = added_cons (edit_of_act a) (edits_of_acts acts) method_def in
    let own = adds_name a (others 0 a refl) in
    let rest = names_added acts (λ i x h. others (suc i) x h) in
    let both = split_length (name_in a) (new_names acts) in
    omega (arith, n, own, rest, both)
  where
    split_length : (xs ys : List (List ℕ)) → length (xs ++ ys) ≡ length xs + length ys
    split_length [] ys = omega arith
    split_length (x ∷ xs) ys = let w = split_length xs ys in omega (arith, w)

-- the edit of the method with a name
skip : (t : ℕ) (e : Edit) (xs : List Edit) → adds_to t e ≡ false → adding (e ∷ xs) t ≡ adding xs t
unfolding adding
skip t e xs is = rw is refl

keep : (t : ℕ) (e : Edit) (xs : List Edit) → adds_to t e ≡ true → adding (e ∷ xs) t ≡ e ∷ adding xs t
unfolding adding
keep t e xs is = rw is refl

pub named_added : (acts : List Act) (i : ℕ) (name : List ℕ) → Each IsNoMethod acts → slice_get (new_names acts) i ≡ Some name → (n : ℕ) × (slice_get (adding (edits_of_acts acts) method_def) i ≡ Some (adds_method name n))
named_added [] i name others h = absurd cc
named_added (plain_row table cells ∷ acts) i name others h =
    let w = named_added acts i name (λ i x h. others (suc i) x h) h in
    (w.0, ap (λ es. slice_get es i) (skip method_def (adds_plain_row table cells) (edits_of_acts acts) (others 0 (plain_row table cells) refl)) ∙ w.1)
named_added (code r n ∷ acts) i name others h =
    let w = named_added acts i name (λ i x h. others (suc i) x h) h in
    (w.0, ap (λ es. slice_get es i) (skip method_def (edit_of_act (code r n)) (edits_of_acts acts) refl) ∙ w.1)
named_added (method own n ∷ acts) zero name others h =
    let same : own ≡ name = cc in
    (n, ap (λ es. slice_get es 0) (keep method_def (adds_method own n) (edits_of_acts acts) refl) ∙ ap (λ x. Some (adds_method x n)) same)
named_added (method own n ∷ acts) (suc i) name others h =
    let w = named_added acts i name (λ i x h. others (suc i) x h) h in
    (w.0, ap (λ es. slice_get es (suc i)) (keep method_def (adds_method own n) (edits_of_acts acts) refl) ∙ w.1)

-- the place of a new name
pub name_placed : (acts : List Act) (k : ℕ) (name : List ℕ) (n : ℕ) → Each IsNoMethod acts → slice_get acts k ≡ Some (method name n) → slice_get (new_names acts) (rows_added (take k (edits_of_acts acts)) method_def) ≡ Some name
name_placed [] k name n others h = absurd cc
name_placed (a ∷ acts) zero name n others h = let same : a ≡ method name n = cc in rw (same, added_none method_def) refl
name_placed (a ∷ acts) (suc k) name n others h =
    let rest = name_placed acts k name n (λ i x h. others (suc i) x h) h in
    let own = adds_name a (others 0 a refl) in
    let more = added_cons (edit_of_act a) (take k (edits_of_acts acts)) method_def in
    rw more (rw own (shifted (name_in a) (new_names acts) (rows_added (take k (edits_of_acts acts)) method_def) name rest))
  where
    shifted : (xs ys : List (List ℕ)) (i : ℕ) (x : List ℕ) → slice_get ys i ≡ Some x → slice_get (xs ++ ys) (length xs + i) ≡ Some x
    shifted [] ys i x h = let e : 0 + i ≡ i = omega arith in rw e h
    shifted (y ∷ xs) ys i x h = let e : suc (length xs) + i ≡ suc (length xs + i) = omega arith in rw e (shifted xs ys i x h)

-- the form of the edits
fits_number : (n : ℕ) → n < 0x7FFFFFFF → nat_le n 0x7FFFFFFF ≡ true
fits_number n low = grind (arith, nat_tests, low)

loading_fits : (n : ℕ) → n < 0x7FFFFFFF → body_fits (body_loading n) ≡ true
unfolding body_fits is_op entry_of
loading_fits n low = rw (fits_number n low) refl

pub method_fits : (name : List ℕ) (n : ℕ) → list_any (λ b. b == 0) name ≡ false → n < 0x7FFFFFFF → edit_fits (adds_method name n) ≡ true
unfolding edit_fits stated_columns columns_in cells_fit
method_fits name n whole low = rw (whole, loading_fits n low) refl

pub code_fits_form : (r n : ℕ) → n < 0x7FFFFFFF → edit_fits (edit_of_act (code r n)) ≡ true
unfolding edit_fits
code_fits_form r n low = loading_fits n low

pub none_pass : {A : Type 0} (p : A → Bool) (xs : List A) → ((k : ℕ) (x : A) → slice_get xs k ≡ Some x → p x ≡ false) → list_any p xs ≡ false
none_pass p [] each = refl
none_pass p (x ∷ xs) each = rw (each 0 x refl, none_pass p xs (λ k y there. each (suc k) y there)) refl

pub among_front : {A : Type 0} (xs : List A) (n k : ℕ) (x : A) → slice_get (take n xs) k ≡ Some x → (slice_get xs k ≡ Some x) × (k < n)
among_front xs zero k x h = absurd cc
among_front [] (suc n) k x h = absurd cc
among_front (y ∷ xs) (suc n) zero x h = (h, omega arith)
among_front (y ∷ xs) (suc n) (suc k) x h = let w = among_front xs n k x h in (w.0, omega (arith, w.1))

pub sum_few : {A : Type 0} (f : A → ℕ) (b : ℕ) (xs : List A) → ((k : ℕ) (x : A) → slice_get xs k ≡ Some x → f x ≤ b) → sum_by f xs ≤ b * length xs
sum_few f b [] each = omega arith
sum_few f b (x ∷ xs) each =
    let n = sum_by-cons f x xs in
    let own = each 0 x refl in
    let rest = sum_few f b xs (λ k y there. each (suc k) y there) in
    let m : b * suc (length xs) ≡ b + b * length xs = grind arith in
    rw m (omega (arith, n, own, rest))

-- the bytes of a body that loads a number
pub loading_size : (n : ℕ) → length_of_code (body_loading n).code ≡ 6
unfolding length_of_code instruction_size
loading_size n = refl
