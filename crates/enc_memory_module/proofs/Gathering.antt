-- User texts that are gathered from bodies, one after the other.
use Rattle.std.proofs.Common.{◌≡◌, ℕ, zero, suc, ◌+◌, ◌≤◌, ◌^◌, Bool, true, false, List, [], ◌∷◌, ◌++◌, length, drop, Option, Some, None, Result, Err, refl, sym, ap, ◌∙◌, subst}
use Rattle.std.specs.Prelude.{slice_get, flat_map, nat_lt}
use Rattle.std.specs.List.{list_all}
use Rattle.std.proofs.lemmas.Bool.{and_parts, false≢true}
use Rattle.std.proofs.lemmas.List.Folds.{list_all-append}
use Rattle.enc_base.specs.declared.refusal.StreamName.{StreamName}
use Rattle.enc_opcodes.specs.Body.{Body}
use Rattle.enc_plain.specs.Module.{Row}
use Rattle.enc_edit_list.specs.Sizes.{arg_meant, instr_meant, placed}
use Rattle.enc_opcodes.specs.Sound.{instruction_size}
use Rattle.enc_edit_list.specs.declared.body.InstrValue.{InstrValue}
use Rattle.enc_meta.specs.Built.{Built, is_kept, none_from}
use Rattle.enc_meta.specs.declared.builder.BuildFault.{BuildFault}
use Rattle.enc_meta.specs.declared.builder.BuildFault.TheVariants.{TooLarge}
use Rattle.enc_rewriter.proofs.Fills.{filled_both, fill_grows, past_grows}
use Rattle.enc_rewriter.proofs.Gathered.{all_kept, starts_after}
use Rattle.enc_rewriter.proofs.Limits.{no_heaps_begin}
use Rattle.enc_rewriter.specs.Values.{with_all, text_named, texts_named, users_of_body, heap_size, no_starts, no_heaps, IsPast}
use Rattle.enc_rewriter.specs.declared.pass.Pass.TheVariants.{Users}
use Rattle.enc_memory_module.proofs.Rest.{rest_next, none_left}
use Rattle.enc_memory_module.specs.Encoded.{users_of_row, users_of_rows, IsSoundIf, CanBeEncodedIf}

-- the user texts that instructions name
abbrev pub named_by : InstrValue → List (List ℕ)
named_by i = text_named (arg_meant i.arg)

abbrev pub named_in : List InstrValue → List (List ℕ)
named_in code = flat_map named_by code

pub named_placed : (at : ℕ) (code : List InstrValue) → texts_named (placed at code) ≡ named_in code
unfolding texts_named placed
named_placed at [] = refl
named_placed at (i ∷ code) = ap (λ vs. named_by i ++ vs) (named_placed (at + instruction_size (instr_meant i)) code)

left_is : {A : Type 0} (f : A → List (List ℕ)) (xs : List A) (k : ℕ) (x : A) → slice_get xs k ≡ Some x → flat_map f (drop k xs) ≡ f x ++ flat_map f (drop (k + 1) xs)
left_is f xs k x h = rw (rest_next xs k x h) refl

two_of : {A : Type 0} (f : A → List (List ℕ)) (xs : List A) (k : ℕ) (x : A) (old : Built) → slice_get xs k ≡ Some x
    → with_all Users old (flat_map f (drop k xs)) ≡ with_all Users (with_all Users old (f x)) (flat_map f (drop (k + 1) xs))
two_of f xs k x old h = ap (with_all Users old) (left_is f xs k x h) ∙ filled_both Users old (f x) (flat_map f (drop (k + 1) xs))

-- one item more
pub next_item : {A : Type 0} (f : A → List (List ℕ)) (xs : List A) (k : ℕ) (x : A) (old new all : Built) → slice_get xs k ≡ Some x → with_all Users old (flat_map f (drop k xs)) ≡ all → new ≡ with_all Users old (f x)
    → with_all Users new (flat_map f (drop (k + 1) xs)) ≡ all
next_item f xs k x old new all there so_far is = ap (λ h. with_all Users h (flat_map f (drop (k + 1) xs))) is ∙ sym (two_of f xs k x old there) ∙ so_far

-- what is refused at one is refused at all
pub past_item : {A : Type 0} (f : A → List (List ℕ)) (xs : List A) (k : ℕ) (x : A) (old all : Built) (r : Result Unit BuildFault) → slice_get xs k ≡ Some x → with_all Users old (flat_map f (drop k xs)) ≡ all → IsPast r Users (with_all Users old (f x))
    → IsPast r Users all
past_item f xs k x old all r there so_far past =
    let one = with_all Users old (f x) in
    subst (λ h. IsPast r Users h) (sym (two_of f xs k x old there) ∙ so_far)
    (past_grows r Users one (with_all Users one (flat_map f (drop (k + 1) xs))) (fill_grows Users one (flat_map f (drop (k + 1) xs))) past)

pub all_items : {A : Type 0} (f : A → List (List ℕ)) (xs : List A) (k : ℕ) (old all : Built) → length xs ≤ k → with_all Users old (flat_map f (drop k xs)) ≡ all → old ≡ all
unfolding with_all
all_items f xs k old all high so_far = let e = none_left xs k high in rw e at so_far

-- heaps that begin behind no others
pub begun_none : (h : Built) → h ≡ none_from no_starts → h ≡ no_heaps
unfolding no_heaps
begun_none h is = is

pub starts_none : (h : Built) (vs : List (List ℕ)) → h ≡ with_all Users no_heaps vs → h.starts ≡ no_starts
starts_none h vs is = ap (λ (b : Built). b.starts) is ∙ starts_after Users no_heaps vs ∙ no_heaps_begin no_heaps refl

-- a heap that has room for all isn't refused
pub not_past : (h : Built) (e : BuildFault) (name : StreamName) (vs : List (List ℕ)) → e ≡ TooLarge name → h ≡ none_from no_starts → IsPast (Err e) Users (with_all Users h vs)
    → nat_lt (2 ^ 24) (heap_size Users (with_all Users no_heaps vs)) ≡ false → ⊥
not_past h e name vs is begun past room =
    let told = rw (is, begun_none h begun) at past in
    false≢true (sym room ∙ told.1)

-- what holds of the texts of all holds of those of each
texts_parts : {A : Type 0} (q : List ℕ → Bool) (f : A → List (List ℕ)) (x : A) (xs : List A) → list_all q (flat_map f (x ∷ xs)) ≡ true → (list_all q (f x) ≡ true) × (list_all q (flat_map f xs) ≡ true)
texts_parts q f x xs all = let p = and_parts (list_all q (f x)) (list_all q (flat_map f xs)) (sym (list_all-append q (f x) (flat_map f xs)) ∙ all) in (p.0, p.1)

pub texts_of_each : {A : Type 0} (q : List ℕ → Bool) (f : A → List (List ℕ)) (xs : List A) (n : ℕ) (x : A) → list_all q (flat_map f xs) ≡ true → slice_get xs n ≡ Some x → list_all q (f x) ≡ true
texts_of_each q f [] n x all there = absurd cc
texts_of_each q f (y ∷ xs) zero x all there = let e : y ≡ x = cc in rw (← e) (texts_parts q f y xs all).0
texts_of_each q f (y ∷ xs) (suc n) x all there = texts_of_each q f xs n x (texts_parts q f y xs all).1 there

-- the heaps with all user texts of some rows have those of each
pub can_be_encoded : (h : Built) (o : Option Body) → IsSoundIf o → list_all (is_kept h.users) (users_of_body o) ≡ true → CanBeEncodedIf h o
can_be_encoded h None body kept = tt
can_be_encoded h (Some b) body kept = record { body = body; kept = kept }

pub rows_kept : (h : Built) (rows : List Row) (n : ℕ) (r : Row) → h ≡ with_all Users no_heaps (users_of_rows rows) → slice_get rows n ≡ Some r → list_all (is_kept h.users) (users_of_row r) ≡ true
rows_kept h rows n r is there =
    let all : list_all (is_kept h.users) (users_of_rows rows) ≡ true = rw is (all_kept Users no_heaps (users_of_rows rows)) in
    texts_of_each (is_kept h.users) users_of_row rows n r all there
