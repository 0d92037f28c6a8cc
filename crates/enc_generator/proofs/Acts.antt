-- The edits of a case by what they do: a row without an owner, a method that is added, or a body that is replaced.
use Rattle.std.proofs.Common.{◌≡◌, ℕ, zero, suc, ◌+◌, ◌<◌, ◌≤◌, ◌^◌, inl, inr, Bool, true, false, List, [], ◌∷◌, ◌++◌, length, map, Some, refl, sym, ap, ◌∙◌, arith, append_assoc, length-append}
use Rattle.std.specs.Prelude.{slice_get, ◌==◌, ◌||◌, if◌then◌else◌}
use Rattle.std.specs.List.{list_any}
use Rattle.std.proofs.lemmas.Bool.{false≢true}
use Rattle.std.proofs.lemmas.Bool.Decides.{nat_tests}
use Rattle.std.proofs.lemmas.List.{map-append}
use Rattle.std.proofs.lemmas.List.Folds.{list_any-append}
use Rattle.enc_base.specs.Tables.{method_def}
use Rattle.enc_edit_list.specs.declared.edit.Cell.{Cell as CellValue}
use Rattle.enc_edit_list.specs.declared.edit.Edit.{Edit}
use Rattle.enc_edit_list.specs.declared.edit.Edit.TheVariants.{Body as Replace}
use Rattle.enc_generator.specs.Generated.{Turn, adds, replaces, next_state, drawn, turn_drawn, state_behind, turns_from, is_of_row, methods_added, name_added, named_row, body_loading, adds_plain_row, adds_method, edit_of_turn, edits_of_turns}
use Rattle.enc_generator.proofs.NamesApart.{Apart, Each, each_none, each_more, each_both, in_either, apart_none, apart_one, apart_both, same_added, added_whole}

pub data Act : Type 0 where
  plain_row : ℕ → List CellValue → Act
  method : List ℕ → ℕ → Act
  code : ℕ → ℕ → Act

abbrev pub edit_of_act : Act → Edit
edit_of_act (plain_row table cells) = adds_plain_row table cells
edit_of_act (method name n) = adds_method name n
edit_of_act (code r n) = Replace (named_row method_def r) (body_loading n) []

abbrev pub edits_of_acts : List Act → List Edit
edits_of_acts acts = map edit_of_act acts

-- the name that an act brings
abbrev pub name_in : Act → List (List ℕ)
name_in (plain_row table cells) = []
name_in (method name n) = name ∷ []
name_in (code r n) = []

abbrev pub new_names : List Act → List (List ℕ)
new_names [] = []
new_names (a ∷ acts) = name_in a ++ new_names acts

pub names_both : (xs ys : List Act) → new_names (xs ++ ys) ≡ new_names xs ++ new_names ys
names_both [] ys = refl
names_both (x ∷ xs) ys = ap (λ ns. name_in x ++ ns) (names_both xs ys) ∙ sym (append_assoc (name_in x) (new_names xs) (new_names ys))

-- what a turn behind others does
abbrev pub acts_of_turn : ℕ → List Turn → Turn → List Act
acts_of_turn list before (adds n) = method (name_added list (length before + 1)) n ∷ []
acts_of_turn list before (replaces r n) = if list_any (is_of_row r) before then [] else code r n ∷ []

unfoldable pub acts_of_turns : ℕ → List Turn → List Turn → List Act
acts_of_turns list before [] = []
acts_of_turns list before (t ∷ turns) = acts_of_turn list before t ++ acts_of_turns list (before ++ t ∷ []) turns

one_edit : (list : ℕ) (before : List Turn) (t : Turn) → edit_of_turn list before t ≡ edits_of_acts (acts_of_turn list before t)
one_edit list before (adds n) = refl
one_edit list before (replaces r n) = by (list_any (is_of_row r) before)
  where
    by : (b : Bool) → (if b then [] else Replace (named_row method_def r) (body_loading n) [] ∷ []) ≡ edits_of_acts (if b then [] else code r n ∷ [])
    by true = refl
    by false = refl

pub same_edits : (list : ℕ) (before turns : List Turn) → edits_of_turns list before turns ≡ edits_of_acts (acts_of_turns list before turns)
unfolding edits_of_turns acts_of_turns
same_edits list before [] = refl
same_edits list before (t ∷ turns) =
    rw (one_edit list before t, same_edits list (before ++ t ∷ []) turns) (sym (map-append edit_of_act (acts_of_turn list before t) (acts_of_turns list (before ++ t ∷ []) turns)))

one_longer : (before : List Turn) (t : Turn) → length (before ++ t ∷ []) ≡ length before + 1
one_longer before t = length-append before (t ∷ [])

-- the names that turns bring are those with their numbers
abbrev pub IsNamed : ℕ → ℕ → ℕ → List ℕ → Type 0
IsNamed list low high name = (t : ℕ) × (low < t) × (t ≤ high) × (name ≡ name_added list t)

names_of_one : (list : ℕ) (before : List Turn) (t : Turn) (high : ℕ) → length before < high → Each (IsNamed list (length before) high) (new_names (acts_of_turn list before t))
names_of_one list before (adds n) high low = each_more (IsNamed list (length before) high) (name_added list (length before + 1)) [] (length before + 1, omega arith, omega (arith, low), refl) (each_none _)
names_of_one list before (replaces r n) high low = by (list_any (is_of_row r) before)
  where
    by : (b : Bool) → Each (IsNamed list (length before) high) (new_names (if b then [] else code r n ∷ []))
    by true = each_none _
    by false = each_none _

pub names_numbered : (list : ℕ) (before turns : List Turn) (high : ℕ) → length before + length turns ≤ high → Each (IsNamed list (length before) high) (new_names (acts_of_turns list before turns))
unfolding acts_of_turns
names_numbered list before [] high low = each_none _
names_numbered list before (t ∷ turns) high low =
    let more = one_longer before t in
    let rest = names_numbered list (before ++ t ∷ []) turns high (omega (arith, more, low)) in
    rw (names_both (acts_of_turn list before t) (acts_of_turns list (before ++ t ∷ []) turns))
    (each_both (IsNamed list (length before) high) (new_names (acts_of_turn list before t)) (new_names (acts_of_turns list (before ++ t ∷ []) turns)) (names_of_one list before t high (omega (arith, low)))
    (λ i x h. let w = rest i x h in (w.0, omega (arith, w.1, more), w.2, w.3)))

apart_of_one : (list : ℕ) (before : List Turn) (t : Turn) → Apart (new_names (acts_of_turn list before t))
apart_of_one list before (adds n) = apart_one (name_added list (length before + 1))
apart_of_one list before (replaces r n) = by (list_any (is_of_row r) before)
  where
    by : (b : Bool) → Apart (new_names (if b then [] else code r n ∷ []))
    by true = apart_none
    by false = apart_none

pub turns_apart : (list : ℕ) (before turns : List Turn) → list < 2 ^ 64 → length before + length turns < 2 ^ 64 → Apart (new_names (acts_of_turns list before turns))
unfolding acts_of_turns
turns_apart list before [] few low = apart_none
turns_apart list before (t ∷ turns) few low =
    let more = one_longer before t in
    let top : ℕ = length before + length (t ∷ turns) in
    let own = names_of_one list before t (length before + 1) (omega arith) in
    let rest = names_numbered list (before ++ t ∷ []) turns top (omega (arith, more)) in
    rw (names_both (acts_of_turn list before t) (acts_of_turns list (before ++ t ∷ []) turns))
    (apart_both (new_names (acts_of_turn list before t)) (new_names (acts_of_turns list (before ++ t ∷ []) turns)) (apart_of_one list before t) (turns_apart list (before ++ t ∷ []) turns few (omega (arith, more, low)))
    (λ i j x h g.
    let a = own i x h in
    let b = rest j x g in
    let e = (same_added list list a.0 b.0 few few (omega (arith, a.2, low)) (omega (arith, b.2, low)) (sym a.3 ∙ b.3)).1 in
    omega (arith, e, a.2, b.1, more)))

-- a body is replaced once
abbrev pub Once : List Act → Type 0
Once acts = (j k r m n : ℕ) → j < k → slice_get acts j ≡ Some (code r m) → slice_get acts k ≡ Some (code r n) → ⊥

-- what is replaced was not replaced before
abbrev pub IsFresh : List Turn → Act → Type 0
IsFresh before a = (r n : ℕ) → a ≡ code r n → list_any (is_of_row r) before ≡ false

fresh_of_one : (list : ℕ) (before : List Turn) (t : Turn) → Each (IsFresh before) (acts_of_turn list before t)
fresh_of_one list before (adds n) = each_more (IsFresh before) (method (name_added list (length before + 1)) n) [] (λ r m e. absurd cc) (each_none _)
fresh_of_one list before (replaces r n) = by (list_any (is_of_row r) before) refl
  where
    by : (b : Bool) → list_any (is_of_row r) before ≡ b → Each (IsFresh before) (if b then [] else code r n ∷ [])
    by true is = each_none _
    by false is = each_more (IsFresh before) (code r n) [] (λ s m e. let same : r ≡ s = cc in rw same at is) (each_none _)

first_false : (a b : Bool) → (a || b) ≡ false → a ≡ false
first_false false b h = refl
first_false true b h = absurd cc

second_false : (a b : Bool) → (a || b) ≡ false → b ≡ false
second_false false b h = h
second_false true b h = absurd cc

pub all_fresh : (list : ℕ) (before turns : List Turn) → Each (IsFresh before) (acts_of_turns list before turns)
unfolding acts_of_turns
all_fresh list before [] = each_none _
all_fresh list before (t ∷ turns) =
    each_both (IsFresh before) (acts_of_turn list before t) (acts_of_turns list (before ++ t ∷ []) turns) (fresh_of_one list before t)
    (λ i a h r n e. first_false _ _ (sym (list_any-append (is_of_row r) before (t ∷ [])) ∙ all_fresh list (before ++ t ∷ []) turns i a h r n e))

one_only : (list : ℕ) (before : List Turn) (t : Turn) (j r m : ℕ) → slice_get (acts_of_turn list before t) j ≡ Some (code r m) → (j ≡ 0) × (is_of_row r t ≡ true)
one_only list before (adds n) zero r m h = absurd cc
one_only list before (adds n) (suc j) r m h = absurd cc
one_only list before (replaces s n) j r m h = by (list_any (is_of_row s) before) j h
  where
    by : (b : Bool) (j : ℕ) → slice_get (if b then [] else code s n ∷ []) j ≡ Some (code r m) → (j ≡ 0) × ((s == r) ≡ true)
    by true j h = absurd cc
    by false zero h = let same : s ≡ r = cc in (refl, grind (arith, nat_tests, same))
    by false (suc j) h = absurd cc

pub turns_once : (list : ℕ) (before turns : List Turn) → Once (acts_of_turns list before turns)
unfolding acts_of_turns
turns_once list before [] j k r m n low h g = absurd cc
turns_once list before (t ∷ turns) j k r m n low h g =
    let own = acts_of_turn list before t in
    let rest = acts_of_turns list (before ++ t ∷ []) turns in
    elim (in_either own rest j (code r m) h) [
      | inl a ↦ elim (in_either own rest k (code r n) g) [
        | inl b ↦ let x = one_only list before t j r m a in let y = one_only list before t k r n b in absurd (omega (arith, low, x.0, y.0))
        | inr b ↦
            let x = one_only list before t j r m a in
            let none = all_fresh list (before ++ t ∷ []) turns b.0 (code r n) b.2 r n refl in
            let not_it = first_false _ _ (second_false _ _ (sym (list_any-append (is_of_row r) before (t ∷ [])) ∙ none)) in
            absurd (false≢true (sym not_it ∙ x.1))
      ]
      | inr a ↦ elim (in_either own rest k (code r n) g) [
        | inl b ↦ let y = one_only list before t k r n b in absurd (omega (arith, low, y.0))
        | inr b ↦ turns_once list (before ++ t ∷ []) turns a.0 b.0 r m n (omega (arith, a.1, b.1, low)) a.2 b.2
      ]
    ]

-- how many acts there are, and how many names they bring
one_short : (list : ℕ) (before : List Turn) (t : Turn) → length (acts_of_turn list before t) ≤ 1
one_short list before (adds n) = omega arith
one_short list before (replaces r n) = by (list_any (is_of_row r) before)
  where
    by : (b : Bool) → length (if b then [] else code r n ∷ []) ≤ 1
    by true = omega arith
    by false = omega arith

pub acts_short : (list : ℕ) (before turns : List Turn) → length (acts_of_turns list before turns) ≤ length turns
unfolding acts_of_turns
acts_short list before [] = omega arith
acts_short list before (t ∷ turns) =
    let own = one_short list before t in
    let rest = acts_short list (before ++ t ∷ []) turns in
    let all = length-append (acts_of_turn list before t) (acts_of_turns list (before ++ t ∷ []) turns) in
    omega (arith, own, rest, all)

one_name : (list : ℕ) (before : List Turn) (t : Turn) → length (new_names (acts_of_turn list before t)) ≡ methods_added (t ∷ [])
one_name list before (adds n) = refl
one_name list before (replaces r n) = by (list_any (is_of_row r) before)
  where
    by : (b : Bool) → length (new_names (if b then [] else code r n ∷ [])) ≡ 0
    by true = refl
    by false = refl

one_added : (t : Turn) (turns : List Turn) → methods_added (t ∷ turns) ≡ methods_added (t ∷ []) + methods_added turns
one_added (adds n) turns = omega arith
one_added (replaces r n) turns = omega arith

pub names_many : (list : ℕ) (before turns : List Turn) → length (new_names (acts_of_turns list before turns)) ≡ methods_added turns
unfolding acts_of_turns
names_many list before [] = refl
names_many list before (t ∷ turns) =
    let own = one_name list before t in
    let rest = names_many list (before ++ t ∷ []) turns in
    let both = ap (λ (ns : List (List ℕ)). length ns) (names_both (acts_of_turn list before t) (acts_of_turns list (before ++ t ∷ []) turns)) in
    let all = length-append (new_names (acts_of_turn list before t)) (new_names (acts_of_turns list (before ++ t ∷ []) turns)) in
    let sum = one_added t turns in
    omega (arith, own, rest, both, all, sum)

-- a turn that is drawn where there are so many methods names one of them, and small numbers
abbrev pub IsGoodTurn : ℕ → Turn → Type 0
IsGoodTurn methods (adds n) = n < 1000000
IsGoodTurn methods (replaces r n) = (0 < r) × (r ≤ methods) × (n < 1000000)

small : (below x : ℕ) → 0 < below → drawn below x < below
small below x some = grind arith

pub drawn_good : (methods x : ℕ) → 0 < methods → IsGoodTurn methods (turn_drawn methods x)
drawn_good methods x some = by (drawn 4 x == 3)
  where
    by : (b : Bool) → IsGoodTurn methods (if b then adds (drawn 1000000 (next_state x)) else replaces (drawn methods (next_state x) + 1) (drawn 1000000 (next_state (next_state x))))
    by true = small 1000000 (next_state x) (omega arith)
    by false =
        let low = small methods (next_state x) some in
        (omega arith, omega (arith, low), small 1000000 (next_state (next_state x)) (omega arith))

pub turns_good : (methods count x : ℕ) → 0 < methods → Each (IsGoodTurn methods) (turns_from methods count x)
unfolding turns_from
turns_good methods zero x some = each_none _
turns_good methods (suc count) x some =
    each_more (IsGoodTurn methods) (turn_drawn methods (next_state x)) (turns_from methods count (state_behind (next_state x))) (drawn_good methods (next_state x) some) (turns_good methods count (state_behind (next_state x)) some)

pub turns_many : (methods count x : ℕ) → length (turns_from methods count x) ≡ count
unfolding turns_from
turns_many methods zero x = refl
turns_many methods (suc count) x = ap suc (turns_many methods count (state_behind (next_state x)))

-- what is good of an act where there are so many methods
abbrev pub IsGoodAct : (ℕ → List CellValue → Type 0) → ℕ → Act → Type 0
IsGoodAct plain methods (plain_row table cells) = plain table cells
IsGoodAct plain methods (method name n) = (list_any (λ b. b == 0) name ≡ false) × (n < 0x7FFFFFFF)
IsGoodAct plain methods (code r n) = (0 < r) × (r ≤ methods) × (n < 0x7FFFFFFF)

good_of_one : (plain : ℕ → List CellValue → Type 0) (list methods : ℕ) (before : List Turn) (t : Turn) → list < 2 ^ 64 → length before < 2 ^ 63 → IsGoodTurn methods t → Each (IsGoodAct plain methods) (acts_of_turn list before t)
good_of_one plain list methods before (adds n) few low good =
    each_more (IsGoodAct plain methods) (method (name_added list (length before + 1)) n) [] (added_whole list (length before + 1) few (omega (arith, low)), omega (arith, good)) (each_none _)
good_of_one plain list methods before (replaces r n) few low good = by (list_any (is_of_row r) before)
  where
    by : (b : Bool) → Each (IsGoodAct plain methods) (if b then [] else code r n ∷ [])
    by true = each_none _
    by false = each_more (IsGoodAct plain methods) (code r n) [] (good.0, good.1, omega (arith, good.2)) (each_none _)

pub acts_good : (plain : ℕ → List CellValue → Type 0) (list methods : ℕ) (before turns : List Turn) → list < 2 ^ 64 → length before + length turns < 2 ^ 63 → Each (IsGoodTurn methods) turns → Each (IsGoodAct plain methods) (acts_of_turns list before turns)
unfolding acts_of_turns
acts_good plain list methods before [] few low good = each_none _
acts_good plain list methods before (t ∷ turns) few low good =
    let more = one_longer before t in
    each_both (IsGoodAct plain methods) (acts_of_turn list before t) (acts_of_turns list (before ++ t ∷ []) turns) (good_of_one plain list methods before t few (omega (arith, low)) (good 0 t refl))
    (acts_good plain list methods (before ++ t ∷ []) turns few (omega (arith, more, low)) (λ i u h. good (suc i) u h))
