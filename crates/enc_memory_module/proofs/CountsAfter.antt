-- The tables that are no part of a module stay empty after edits, Module keeps its one row, and no table has too many.
use Rattle.std.proofs.Common.{◌≡◌, ℕ, zero, suc, ◌^◌, ◌<◌, Bool, true, false, List, [], ◌∷◌, length, Some, refl, sym, ap, ◌∙◌, arith}
use Rattle.std.specs.Prelude.{slice_get, ◌==◌, ◌||◌, not}
use Rattle.std.specs.List.{list_any}
use Rattle.std.proofs.lemmas.Bool.{false≢true}
use Rattle.std.proofs.lemmas.Bool.Decides.{nat_tests}
use Rattle.enc_base.specs.declared.token.Token.{Token}
use Rattle.enc_plain.specs.Chain.{Chain}
use Rattle.enc_plain.specs.Module.{Row, rows_in}
use Rattle.enc_plain.specs.Sound.{is_part, row_count, HasTables, HasCounts}
use Rattle.enc_plain.proofs.Columns.{each_of}
use Rattle.enc_edit_list.specs.declared.edit.Edit.{Edit}
use Rattle.enc_edit_list.specs.declared.edit.Edit.TheVariants.{Add, Body as Replace}
use Rattle.enc_edit_list.specs.declared.edit.EditList.{EditList}
use Rattle.enc_edit_list.specs.Added.{adds_to, rows_added}
use Rattle.enc_edit_list.specs.Form.{list_fits}
use Rattle.enc_delta.specs.Rules.{may_change}
use Rattle.enc_rules.specs.Edited.{rows_edited, edited}
use Rattle.enc_rules.specs.Rules.{table_breaks, table_is_closed, there_are_too_many}
use Rattle.enc_rules.proofs.RowsFew.{rows_few}
use Rattle.enc_memory_module.proofs.Unbroken.{BreakNothing}
use Rattle.enc_memory_module.proofs.Landed.{adder}
use Rattle.enc_memory_module.proofs.Changed.{counts_after}
use Rattle.enc_memory_module.proofs.Grown.{count_is}

-- edits may add no rows to the table
abbrev is_shut : ℕ → Bool
is_shut t = not (may_change t) || list_any (λ k. k == t) (0x00 ∷ 0x1E ∷ 0x1F ∷ [])

opened_by : (t : ℕ) (e : Edit) → adds_to t e ≡ true → table_breaks e ≡ false → is_shut t ≡ false
opened_by t (Add table owner cells code points) adds unbroken =
    let is : table ≡ t = grind (arith, nat_tests, adds) in
    rw (← is) unbroken
opened_by t (Replace method code points) adds unbroken = absurd cc

not_closed : (c : Chain) (l : EditList) (k : ℕ) (e : Edit) (u : Token) → BreakNothing c l → slice_get l.edits k ≡ Some e → slice_get (rows_edited c.plain l.edits) k ≡ Some u → table_breaks e ≡ false
unfolding table_is_closed
not_closed c l k e u none there row = rw (there, row) at (none.tables k)

-- so they add none
none_by : (c : Chain) (l : EditList) (t n : ℕ) → BreakNothing c l → is_shut t ≡ true → rows_added l.edits t ≡ n → n ≡ 0
none_by c l t zero none shut is = refl
none_by c l t (suc n) none shut is =
    let w = adder c.plain [] l.edits t 0 (omega (arith, is)) in
    absurd (false≢true (sym (opened_by t w.edit w.adds (not_closed c l w.at w.edit _ none w.there w.row)) ∙ shut))

none_added : (c : Chain) (l : EditList) (t : ℕ) → BreakNothing c l → is_shut t ≡ true → rows_added l.edits t ≡ 0
none_added c l t none shut = none_by c l t (rows_added l.edits t) none shut refl

denied : (b : Bool) → not b ≡ false → b ≡ true
denied true h = refl
denied false h = absurd cc

empty : (rows : List Row) → length rows ≡ 0 → rows ≡ []
empty [] h = refl
empty (r ∷ rows) h = absurd (omega (arith, h))

absent_after : (c : Chain) (l : EditList) (t : ℕ) → HasTables c.plain → BreakNothing c l → is_part t ≡ false → rows_in c.plain t ≡ [] → rows_in (edited c.plain l.edits) t ≡ []
absent_after c l t has none part before =
    let shut : is_shut t ≡ true = each_of is_shut (0x03 ∷ 0x05 ∷ 0x07 ∷ 0x13 ∷ 0x16 ∷ 0x1E ∷ 0x1F ∷ []) t refl (denied _ part) in
    let n = counts_after c l t has none in
    let added = none_added c l t none shut in
    let gone : length (rows_in c.plain t) ≡ 0 = ap length before in
    empty (rows_in (edited c.plain l.edits) t) (omega (arith, n, added, gone))

single_after : (c : Chain) (l : EditList) → HasTables c.plain → BreakNothing c l → row_count c.plain 0 ≡ 1 → row_count (edited c.plain l.edits) 0 ≡ 1
single_after c l has none before =
    let n = counts_after c l 0 has none in
    let added = none_added c l 0 none refl in
    omega (arith, n, added, before)

few_after : (c : Chain) (l : EditList) (t : ℕ) → HasTables c.plain → list_fits l ≡ true → there_are_too_many c l ≡ false → BreakNothing c l → ((k : ℕ) → row_count c.plain k < 2 ^ 24) → row_count (edited c.plain l.edits) t < 2 ^ 24
few_after c l t has form many none before = rw (count_is c l t has none) (rows_few c l form many before t)

-- so the numbers of rows are a module's after edits
pub counts_stay : (c : Chain) (l : EditList) → HasTables c.plain → list_fits l ≡ true → there_are_too_many c l ≡ false → BreakNothing c l → HasCounts c.plain → HasCounts (edited c.plain l.edits)
counts_stay c l has form many none before = record {
  absent = λ t part. absent_after c l t has none part (before.absent t part);
  single = single_after c l has none before.single;
  few = λ t. few_after c l t has form many none before.few;
}
