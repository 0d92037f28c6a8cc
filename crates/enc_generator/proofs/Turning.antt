-- What is drawn one behind the other, as loops find it: what was drawn so far, and what is left.
use Rattle.std.proofs.Common.{◌≡◌, ℕ, zero, suc, ◌+◌, ◌-◌, ◌<◌, ◌≤◌, List, [], ◌∷◌, ◌++◌, length, take, drop, map, refl, ap, arith, append_assoc}
use Rattle.std.proofs.lemmas.List.{append-nil}
use Rattle.std.proofs.lemmas.Option.{slice_get-get_or}
use Rattle.std.specs.List.{range_with_len}
use Rattle.enc_rows.specs.Sums.{below}
use Rattle.std.specs.Prelude.{slice_get, get_or, Some}
use Rattle.enc_edit_list.specs.declared.edit.Edit.{Edit}
use Rattle.enc_edit_list.specs.declared.edit.EditList.{EditList}
use Rattle.enc_memory_module.proofs.Rest.{rest_next, none_left}
use Rattle.enc_generator.specs.Generated.{Turn, next_state, turn_drawn, state_behind, turns_from, state_after, edit_of_turn, edits_of_turns, list_of_turns, lists_from, methods_added, base_method}

take_is : {A : Type 0} (xs : List A) (k : ℕ) (x : A) → slice_get xs k ≡ Some x → take (suc k) xs ≡ take k xs ++ x ∷ []
take_is [] k x h = absurd cc
take_is (y ∷ xs) zero x h = let e : y ≡ x = cc in rw e refl
take_is (y ∷ xs) (suc k) x h = ap (λ zs. y ∷ zs) (take_is xs k x h)

take_next : {A : Type 0} (xs : List A) (k : ℕ) (x : A) → slice_get xs k ≡ Some x → take (k + 1) xs ≡ take k xs ++ x ∷ []
take_next xs k x h = let n : k + 1 ≡ suc k = omega arith in rw n (take_is xs k x h)

-- one turn, and those that are left
turns_next : (methods left x : ℕ) → turns_from methods (suc left) x ≡ turn_drawn methods (next_state x) ∷ turns_from methods left (state_behind (next_state x))
unfolding turns_from
turns_next methods left x = refl

turns_none : (methods x : ℕ) → turns_from methods 0 x ≡ []
unfolding turns_from
turns_none methods x = refl

state_next : (left x : ℕ) → state_after (suc left) x ≡ state_after left (state_behind (next_state x))
unfolding state_after
state_next left x = refl

state_none : (x : ℕ) → state_after 0 x ≡ x
unfolding state_after
state_none x = refl

pub turns_begin : (methods count x : ℕ) → [] ++ turns_from methods (count - 0) x ≡ turns_from methods count x
turns_begin methods count x = let e : count - 0 ≡ count = omega arith in rw e refl

pub state_begin : (count x : ℕ) → state_after (count - 0) x ≡ state_after count x
state_begin count x = let e : count - 0 ≡ count = omega arith in rw e refl

pub turns_more : (methods count k x y : ℕ) (done all : List Turn) (t : Turn) → k < count → t ≡ turn_drawn methods (next_state x) → y ≡ state_behind (next_state x) → done ++ turns_from methods (count - k) x ≡ all
    → (done ++ t ∷ []) ++ turns_from methods (count - (k + 1)) y ≡ all
turns_more methods count k x y done all t few is behind so_far =
    let e : count - k ≡ suc (count - (k + 1)) = omega arith in
    rw (append_assoc done (t ∷ []) (turns_from methods (count - (k + 1)) y), is, behind) (rw (e, turns_next methods (count - (k + 1)) x) at so_far)

pub turns_end : (methods count k x : ℕ) (done all : List Turn) → count ≤ k → done ++ turns_from methods (count - k) x ≡ all → done ≡ all
turns_end methods count k x done all high so_far =
    let e : count - k ≡ 0 = omega arith in
    rw (e, turns_none methods x, append-nil done) at so_far

pub state_more : (count k x y all : ℕ) → k < count → y ≡ state_behind (next_state x) → state_after (count - k) x ≡ all → state_after (count - (k + 1)) y ≡ all
state_more count k x y all few behind so_far =
    let e : count - k ≡ suc (count - (k + 1)) = omega arith in
    rw behind (rw (e, state_next (count - (k + 1)) x) at so_far)

pub state_end : (count k x all : ℕ) → count ≤ k → state_after (count - k) x ≡ all → x ≡ all
state_end count k x all high so_far =
    let e : count - k ≡ 0 = omega arith in
    rw (e, state_none x) at so_far

pub ruleset turn_steps = (turns_begin, state_begin, turns_more, turns_end, state_more, state_end)

-- the edits of the turns so far, and of those that are left
edits_next : (list : ℕ) (before rest : List Turn) (t : Turn) → edits_of_turns list before (t ∷ rest) ≡ edit_of_turn list before t ++ edits_of_turns list (before ++ t ∷ []) rest
unfolding edits_of_turns
edits_next list before rest t = refl

edits_none : (list : ℕ) (before : List Turn) → edits_of_turns list before [] ≡ []
unfolding edits_of_turns
edits_none list before = refl

-- the edits behind a place
abbrev pub left : ℕ → List Turn → ℕ → List Edit
left list turns k = edits_of_turns list (take k turns) (drop k turns)

pub edits_begin : (list : ℕ) (turns : List Turn) → [] ++ left list turns 0 ≡ edits_of_turns list [] turns
edits_begin list turns = refl

pub edits_more : (list k : ℕ) (turns : List Turn) (done new all : List Edit) (t d : Turn) → k < length turns → t ≡ get_or turns k d → new ≡ done ++ edit_of_turn list (take k turns) t → done ++ left list turns k ≡ all
    → new ++ left list turns (k + 1) ≡ all
edits_more list k turns done new all t d few is made so_far =
    let at : slice_get turns k ≡ Some t = rw is (slice_get-get_or turns k d few) in
    rw (made, append_assoc done (edit_of_turn list (take k turns) t) (left list turns (k + 1)))
    (rw (rest_next turns k t at, edits_next list (take k turns) (drop (k + 1) turns) t, ← (take_next turns k t at)) at so_far)

pub edits_end : (list k : ℕ) (turns : List Turn) (done all : List Edit) → length turns ≤ k → done ++ left list turns k ≡ all → done ≡ all
edits_end list k turns done all high so_far = rw (none_left turns k high, edits_none list (take k turns), append-nil done) at so_far

pub ruleset edit_steps = (edits_begin, edits_more, edits_end)

-- the lists so far, and those that are left
lists_next : (list count methods x : ℕ) → lists_from list (suc count) methods x ≡ list_of_turns list (turns_from methods 20 x) ∷ lists_from (list + 1) count (methods + methods_added (turns_from methods 20 x)) (state_after 20 x)
unfolding lists_from
lists_next list count methods x = refl

lists_none : (list methods x : ℕ) → lists_from list 0 methods x ≡ []
unfolding lists_from
lists_none list methods x = refl

pub lists_begin : (count methods x : ℕ) → [] ++ lists_from (0 + 1) (count - 0) methods x ≡ lists_from 1 count methods x
lists_begin count methods x = let e : count - 0 ≡ count = omega arith in rw e refl

pub lists_more : (k count methods more x y : ℕ) (done all : List EditList) (l : EditList) (turns : List Turn) → k < count → turns ≡ turns_from methods 20 x → l ≡ list_of_turns (k + 1) turns → more ≡ methods + methods_added turns → y ≡ state_after 20 x
    → done ++ lists_from (k + 1) (count - k) methods x ≡ all → (done ++ l ∷ []) ++ lists_from (k + 1 + 1) (count - (k + 1)) more y ≡ all
lists_more k count methods more x y done all l turns few drawn made sum behind so_far =
    let e : count - k ≡ suc (count - (k + 1)) = omega arith in
    rw (append_assoc done (l ∷ []) (lists_from (k + 1 + 1) (count - (k + 1)) more y), made, sum, behind, drawn)
    (rw (e, lists_next (k + 1) (count - (k + 1)) methods x) at so_far)

pub lists_end : (k count methods x : ℕ) (done all : List EditList) → count ≤ k → done ++ lists_from (k + 1) (count - k) methods x ≡ all → done ≡ all
lists_end k count methods x done all high so_far =
    let e : count - k ≡ 0 = omega arith in
    rw (e, lists_none (k + 1) methods x, append-nil done) at so_far

pub ruleset list_steps = (lists_begin, lists_more, lists_end)

-- the methods of the base from one on
methods_next : (k n : ℕ) → map base_method (range_with_len k (suc n)) ≡ base_method k ∷ map base_method (range_with_len (k + 1) n)
methods_next k n = refl

pub methods_begin : (count : ℕ) (done : List Edit) → done ++ map base_method (range_with_len 0 (count - 0)) ≡ done ++ map base_method (below count)
unfolding below
methods_begin count done = let e : count - 0 ≡ count = omega arith in rw e refl

pub methods_more : (count k : ℕ) (done new all : List Edit) (e : Edit) → k < count → e ≡ base_method k → new ≡ done ++ e ∷ [] → done ++ map base_method (range_with_len k (count - k)) ≡ all
    → new ++ map base_method (range_with_len (k + 1) (count - (k + 1))) ≡ all
methods_more count k done new all e few is made so_far =
    let n : count - k ≡ suc (count - (k + 1)) = omega arith in
    rw (made, append_assoc done (e ∷ []) (map base_method (range_with_len (k + 1) (count - (k + 1)))), is) (rw (n, methods_next k (count - (k + 1))) at so_far)

pub methods_end : (count k : ℕ) (done all : List Edit) → count ≤ k → done ++ map base_method (range_with_len k (count - k)) ≡ all → done ≡ all
methods_end count k done all high so_far =
    let n : count - k ≡ 0 = omega arith in
    rw (n, append-nil done) at so_far

pub ruleset method_steps = (methods_begin, methods_more, methods_end)
