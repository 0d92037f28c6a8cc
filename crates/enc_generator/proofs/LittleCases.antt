-- The modules of a case have few rows, all of them light.
use Rattle.std.proofs.Common.{◌≡◌, ℕ, zero, suc, ◌+◌, ◌*◌, ◌<◌, ◌≤◌, ◌^◌, Bool, true, false, List, [], ◌∷◌, ◌++◌, length, map, take, Some, refl, sym, ap, arith, subst, codes, decimal, replicate, length-append}
use Rattle.std.specs.Prelude.{slice_get, sum_by, if◌then◌else◌}
use Rattle.std.specs.List.{list_any, range_with_len}
use Rattle.std.proofs.lemmas.Fmt.{length-decimal-le}
use Rattle.std.proofs.lemmas.List.Sums.{sum_by-cons}
use Rattle.enc_rows.specs.Sums.{below}
use Rattle.enc_plain.specs.Module.{Module, Row}
use Rattle.enc_edit_list.specs.declared.edit.EditList.{EditList}
use Rattle.enc_rules.specs.Edited.{cells_stated, edited}
use Rattle.enc_memory_module.specs.Begun.{module_row, begun}
use Rattle.enc_generator.specs.Generated.{Turn, adds, replaces, is_of_row, name_added, base_mvid, generated_base, turns_from, methods_added, state_after, list_of_turns, lists_from, generated_lists, edited_by}
use Rattle.enc_generator.proofs.NamesApart.{name_of_base}
use Rattle.enc_generator.proofs.Acts.{Act, plain_row, method, code, edits_of_acts, acts_of_turn, acts_of_turns, same_edits, acts_short, turns_many}
use Rattle.enc_generator.proofs.BaseActs.{base_act, base_acts, same_base_edits, base_many}
use Rattle.enc_generator.proofs.Sums.{AllHave, all_both, all_so}
use Rattle.enc_generator.proofs.Light.{IsLightRow, AreLightRows, IsLittle, more_few, IsLittleAct, edited_little}

-- the module that the base begins with has one row
none_light : (n : ℕ) → AllHave AreLightRows (replicate n [])
none_light zero = tt
none_light (suc n) = (tt, none_light n)

none_there : (n : ℕ) → sum_by (λ (rows : List Row). length rows) (replicate n []) ≡ 0
none_there zero = refl
none_there (suc n) = let m = sum_by-cons (λ (rows : List Row). length rows) [] (replicate n []) in let rest = none_there n in omega (arith, m, rest)

abbrev begin : Module
begin = begun (codes "g.dll") base_mvid

begin_little : IsLittle 1 begin
begin_little =
    let first : IsLightRow (module_row (codes "g.dll") base_mvid) = record { first = omega arith; rest = omega arith } in
    let n = sum_by-cons (λ (rows : List Row). length rows) (module_row (codes "g.dll") base_mvid ∷ []) (replicate 0x2C []) in
    let none = none_there 0x2C in
    record { rows = ((first, tt), none_light 0x2C); few = omega (arith, n, none); bare = refl }

-- and what the base brings is little
base_short : (k : ℕ) → k < 1000 → length (name_of_base k) ≤ 48
base_short k low = let few = length-decimal-le 3 k (omega arith) (omega (arith, low)) (omega (arith, low)) in omega (arith, few)

numbers_low : (a n : ℕ) → AllHave (λ k. k < a + n) (range_with_len a n)
numbers_low a zero = tt
numbers_low a (suc n) = (omega arith, all_so (λ k. k < a + 1 + n) (λ k. k < a + suc n) (range_with_len (a + 1) n) (λ k low. omega (arith, low)) (numbers_low (a + 1) n))

below_low : (n : ℕ) → AllHave (λ k. k < n) (below n)
unfolding below
below_low n = all_so (λ k. k < 0 + n) (λ k. k < n) (range_with_len 0 n) (λ k low. omega (arith, low)) (numbers_low 0 n)

methods_little : (ks : List ℕ) → AllHave (λ k. k < 1000) ks → AllHave IsLittleAct (map base_act ks)
methods_little [] low = tt
methods_little (k ∷ ks) low = (base_short k low.0, methods_little ks low.1)

base_acts_little : AllHave IsLittleAct base_acts
unfolding base_acts cells_stated
base_acts_little = (
  record { first = omega arith; rest = omega arith },
  (
    record { first = omega arith; rest = omega arith },
    (
      record { first = omega arith; rest = omega arith },
      (
        record { first = omega arith; rest = omega arith },
        methods_little (below 1000) (below_low 1000),
      ),
    ),
  ),
)

pub base_little : IsLittle 1005 generated_base
unfolding generated_base
base_little =
    let many = base_many in
    rw same_base_edits (more_few (1 + length base_acts) 1005 (edited begin (edits_of_acts base_acts)) (omega (arith, many)) (edited_little 1 begin base_acts begin_little base_acts_little))

-- an act of a list adds a method with a short name, or gives one a body
abbrev pub IsShortAct : Act → Type 0
IsShortAct (plain_row table cells) = ⊥
IsShortAct (method name n) = length name ≤ 48
IsShortAct (code r n) = Unit {0}

short_little : (a : Act) → IsShortAct a → IsLittleAct a
short_little (plain_row table cells) short = absurd short
short_little (method name n) short = short
short_little (code r n) short = tt

added_short : (list turn : ℕ) → list < 2 ^ 32 → turn < 2 ^ 32 → length (name_added list turn) ≤ 48
added_short list turn p q =
    let a = length-decimal-le 10 list (omega arith) (omega (arith, p)) (omega (arith, p)) in
    let b = length-decimal-le 10 turn (omega arith) (omega (arith, q)) (omega (arith, q)) in
    let x = length-append (codes "A" ++ decimal list ++ codes "_") (decimal turn) in
    let y = length-append (codes "A" ++ decimal list) (codes "_") in
    let z = length-append (codes "A") (decimal list) in
    omega (arith, a, b, x, y, z)

one_short : (list : ℕ) (before : List Turn) (t : Turn) → list < 2 ^ 32 → length before + 1 < 2 ^ 32 → AllHave IsShortAct (acts_of_turn list before t)
one_short list before (adds n) few low = (added_short list (length before + 1) few low, tt)
one_short list before (replaces r n) few low = by (list_any (is_of_row r) before)
  where
    by : (b : Bool) → AllHave IsShortAct (if b then [] else code r n ∷ [])
    by true = tt
    by false = (tt, tt)

turns_short : (list : ℕ) (before turns : List Turn) → list < 2 ^ 32 → length before + length turns < 2 ^ 32 → AllHave IsShortAct (acts_of_turns list before turns)
unfolding acts_of_turns
turns_short list before [] few low = tt
turns_short list before (t ∷ turns) few low =
    let more = length-append before (t ∷ []) in
    all_both IsShortAct (acts_of_turn list before t) (acts_of_turns list (before ++ t ∷ []) turns) (one_short list before t few (omega (arith, low)))
    (turns_short list (before ++ t ∷ []) turns few (omega (arith, more, low)))

-- a list of a case, by its number: its EncId, and few acts that bring little
pub record IsDrawn (number : ℕ) (l : EditList) : Type 0 where
  pub id : l.enc_id ≡ number ∷ replicate 15 1
  pub acts : List Act
  pub edits : l.edits ≡ edits_of_acts acts
  pub short : AllHave IsShortAct acts
  pub few : length acts ≤ 20

one_drawn : (list methods x : ℕ) → list < 2 ^ 32 → IsDrawn list (list_of_turns list (turns_from methods 20 x))
one_drawn list methods x low =
    let many = turns_many methods 20 x in
    let few = acts_short list [] (turns_from methods 20 x) in
    record {
      id = refl;
      acts = acts_of_turns list [] (turns_from methods 20 x);
      edits = same_edits list [] (turns_from methods 20 x);
      short = turns_short list [] (turns_from methods 20 x) low (omega (arith, many));
      few = omega (arith, few, many);
    }

-- lists of a case, numbered from one on
abbrev pub AreDrawn : ℕ → List EditList → Type 0
AreDrawn number [] = Unit {0}
AreDrawn number (l ∷ lists) = IsDrawn number l × AreDrawn (number + 1) lists

lists_drawn : (list count methods x : ℕ) → list + count < 2 ^ 32 → AreDrawn list (lists_from list count methods x)
unfolding lists_from
lists_drawn list zero methods x low = tt
lists_drawn list (suc count) methods x low =
    (one_drawn list methods x (omega (arith, low)), lists_drawn (list + 1) count (methods + methods_added (turns_from methods 20 x)) (state_after 20 x) (omega (arith, low)))

lists_many : (list count methods x : ℕ) → length (lists_from list count methods x) ≡ count
unfolding lists_from
lists_many list zero methods x = refl
lists_many list (suc count) methods x = ap suc (lists_many (list + 1) count (methods + methods_added (turns_from methods 20 x)) (state_after 20 x))

pub case_drawn : (start count : ℕ) → count ≤ 64 → AreDrawn 1 (generated_lists start count)
case_drawn start count few = lists_drawn 1 count 1000 start (omega (arith, few))

pub case_many : (start count : ℕ) → length (generated_lists start count) ≡ count
case_many start count = lists_many 1 count 1000 start

pub drawn_at : (number : ℕ) (lists : List EditList) (j : ℕ) (l : EditList) → AreDrawn number lists → slice_get lists j ≡ Some l → IsDrawn (number + j) l
drawn_at number [] j l drawn there = absurd cc
drawn_at number (x ∷ lists) zero l drawn there =
    let e : number ≡ number + 0 = omega arith in
    let is : x ≡ l = cc in
    subst (λ n. IsDrawn n l) e (subst (λ y. IsDrawn number y) is drawn.0)
drawn_at number (x ∷ lists) (suc j) l drawn there =
    let e : number + 1 + j ≡ number + suc j = omega arith in
    subst (λ n. IsDrawn n l) e (drawn_at (number + 1) lists j l drawn.1 there)

-- a module of few light rows has few after lists
list_little : (number n : ℕ) (m : Module) (l : EditList) → IsDrawn number l → IsLittle n m → IsLittle (n + 20) (edited m l.edits)
list_little number n m l drawn little =
    let few = drawn.few in
    subst (λ es. IsLittle (n + 20) (edited m es)) (sym drawn.edits)
    (more_few (n + length drawn.acts) (n + 20) (edited m (edits_of_acts drawn.acts)) (omega (arith, few)) (edited_little n m drawn.acts little (all_so IsShortAct IsLittleAct drawn.acts short_little drawn.short)))

little_after : (number n j : ℕ) (m : Module) (lists : List EditList) → AreDrawn number lists → IsLittle n m → IsLittle (n + 20 * length lists) (edited_by m (take j lists))
unfolding edited_by
little_after number n zero m lists drawn little = more_few n (n + 20 * length lists) m (omega arith) little
little_after number n (suc j) m [] drawn little = more_few n (n + 20 * 0) m (omega arith) little
little_after number n (suc j) m (l ∷ lists) drawn little =
    more_few (n + 20 + 20 * length lists) (n + 20 * suc (length lists)) (edited_by (edited m l.edits) (take j lists)) (omega arith) (little_after (number + 1) (n + 20) j (edited m l.edits) lists drawn.1 (list_little number n m l drawn.0 little))

pub case_little : (start count j : ℕ) → count ≤ 64 → IsLittle 2285 (edited_by generated_base (take j (generated_lists start count)))
case_little start count j few =
    let many = case_many start count in
    more_few (1005 + 20 * length (generated_lists start count)) 2285 (edited_by generated_base (take j (generated_lists start count))) (omega (arith, many, few)) (little_after 1 1005 j generated_base (generated_lists start count) (case_drawn start count few) base_little)
