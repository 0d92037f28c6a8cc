-- A list that is drawn, as acts, which obey behind a module with the methods of the base and of the lists before it.
use Rattle.std.proofs.Common.{◌≡◌, ℕ, ◌+◌, ◌*◌, ◌<◌, ◌≤◌, ◌^◌, List, [], ◌++◌, length, sym, ◌∙◌, arith, ◌⊎◌, inl, inr, subst, length-append}
use Rattle.enc_base.specs.Tables.{type_def}
use Rattle.enc_plain.specs.Module.{Module}
use Rattle.enc_plain.specs.Sound.{row_count}
use Rattle.enc_edit_list.specs.Added.{rows_added}
use Rattle.enc_rules.specs.Listed.{count_after}
use Rattle.enc_memory_module.specs.Applied.{alone}
use Rattle.enc_generator.specs.Generated.{turns_from, name_added, methods_added}
use Rattle.enc_generator.proofs.NamesApart.{Apart, Each, each_both, name_of_base, same_added, base_or_added, apart_both}
use Rattle.enc_generator.proofs.Acts.{Act, edits_of_acts, new_names, acts_of_turns, names_numbered, turns_apart, turns_once, acts_short, acts_good, IsGoodAct, names_many, turns_good, turns_many}
use Rattle.enc_generator.proofs.ActsAdded.{all_many, added_few}
use Rattle.enc_generator.proofs.Ready.{HasMethods}
use Rattle.enc_generator.proofs.Obeys.{IsPlainRow, Obeys}

-- the name of a method of the base, or of a list before this one
abbrev pub IsOld : ℕ → List ℕ → Type 0
IsOld list name = ((k : ℕ) × (k < 1000) × (name ≡ name_of_base k)) ⊎ ((i : ℕ) × (t : ℕ) × (i < list) × (t < 2 ^ 32) × (name ≡ name_added i t))

-- what a module has before the list of a number, where so many are left
pub record IsBefore (m : Module) (names : List (List ℕ)) (list left : ℕ) : Type 0 where
  pub few : (t : ℕ) → row_count m t + 20 * left ≤ 2 ^ 20
  pub types : 2 ≤ row_count m type_def
  pub some : 0 < length names
  pub old : Each (IsOld list) names
  pub apart : Apart names
  pub low : list + left < 2 ^ 32

-- the acts of a list
abbrev pub acts_drawn : ℕ → ℕ → ℕ → List Act
acts_drawn list methods x = acts_of_turns list [] (turns_from methods 20 x)

new_apart : (names : List (List ℕ)) (list methods x : ℕ) → list < 2 ^ 32 → Each (IsOld list) names → Apart names → Apart (names ++ new_names (acts_drawn list methods x))
new_apart names list methods x few old apart =
    let many = turns_many methods 20 x in
    let named = names_numbered list [] (turns_from methods 20 x) 20 (omega (arith, many)) in
    apart_both names (new_names (acts_drawn list methods x)) apart (turns_apart list [] (turns_from methods 20 x) (omega (arith, few)) (omega (arith, many)))
    (λ i j y h g. let b = named j y g in elim (old i y h) [
      | inl a ↦ base_or_added a.0 list b.0 (sym a.2 ∙ b.3)
      | inr a ↦
          let e = (same_added a.0 list a.1 b.0 (omega (arith, a.2, few)) (omega (arith, few)) (omega (arith, a.3)) (omega (arith, b.2)) (sym a.4 ∙ b.3)).0 in
          omega (arith, e, a.2)
    ])

older : (list : ℕ) (name : List ℕ) → IsOld list name → IsOld (list + 1) name
older list name (inl h) = inl h
older list name (inr h) = inr (h.0, h.1, omega (arith, h.2), h.3, h.4)

pub old_after : (names : List (List ℕ)) (list methods x : ℕ) → Each (IsOld list) names → Each (IsOld (list + 1)) (names ++ new_names (acts_drawn list methods x))
old_after names list methods x old =
    let many = turns_many methods 20 x in
    let named = names_numbered list [] (turns_from methods 20 x) 20 (omega (arith, many)) in
    each_both (IsOld (list + 1)) names (new_names (acts_drawn list methods x)) (λ i y h. older list y (old i y h))
    (λ i y h. let b = named i y h in inr (list, b.0, omega arith, omega (arith, b.2), b.3))

count_least : (m : Module) (acts : List Act) (t : ℕ) → row_count m t ≤ count_after (alone m) (edits_of_acts acts) t
unfolding count_after
count_least m acts t = omega arith

pub drawn_obey : (m : Module) (names : List (List ℕ)) (list left methods x : ℕ) → HasMethods m names → IsBefore m names list left → methods ≡ length names → Obeys (alone m) names (acts_drawn list methods x)
drawn_obey m names list left methods x has before many =
    let turns = turns_many methods 20 x in
    let least = count_least m (acts_drawn list methods x) type_def in
    let types = before.types in
    let some = before.some in
    let low = before.low in
    let short = acts_short list [] (turns_from methods 20 x) in
    record {
      methods = has;
      types = omega (arith, least, types);
      good = subst (λ n. Each (IsGoodAct (IsPlainRow (count_after (alone m) (edits_of_acts (acts_drawn list methods x)))) n) (acts_drawn list methods x)) many
          (acts_good (IsPlainRow (count_after (alone m) (edits_of_acts (acts_drawn list methods x)))) list methods [] (turns_from methods 20 x) (omega (arith, low)) (omega (arith, turns)) (turns_good methods 20 x (omega (arith, many, some))));
      apart = new_apart names list methods x (omega (arith, low)) before.old before.apart;
      once = turns_once list [] (turns_from methods 20 x);
      short = omega (arith, short, turns);
    }

-- how many rows a list adds, and how many methods
pub drawn_few : (list methods x t : ℕ) → rows_added (edits_of_acts (acts_drawn list methods x)) t ≤ 20
drawn_few list methods x t =
    let turns = turns_many methods 20 x in
    let short = acts_short list [] (turns_from methods 20 x) in
    let rows = added_few (edits_of_acts (acts_drawn list methods x)) t in
    let all = all_many (acts_drawn list methods x) in
    omega (arith, turns, short, rows, all)

pub drawn_many : (names : List (List ℕ)) (list methods x : ℕ) → methods ≡ length names → methods + methods_added (turns_from methods 20 x) ≡ length (names ++ new_names (acts_drawn list methods x))
drawn_many names list methods x many =
    let new = names_many list [] (turns_from methods 20 x) in
    let both = length-append names (new_names (acts_drawn list methods x)) in
    omega (arith, many, new, both)
