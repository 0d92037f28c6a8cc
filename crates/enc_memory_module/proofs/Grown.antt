-- How many rows there are after edits: as many as are told where the list is judged, and no fewer than before.
use Rattle.std.proofs.Common.{◌≡◌, ℕ, ◌+◌, ◌-◌, ◌<◌, ◌≤◌, true, [], Some, refl, ◌∙◌, inl, inr, arith}
use Rattle.std.specs.Prelude.{slice_get}
use Rattle.std.proofs.lemmas.Bool.{cases_lt}
use Rattle.enc_base.specs.declared.token.Token.{Token}
use Rattle.enc_plain.specs.Chain.{Chain}
use Rattle.enc_plain.specs.Module.{has_row}
use Rattle.enc_plain.specs.Sound.{row_count, HasTables}
use Rattle.enc_plain.proofs.KindsOf.{row_bounds, row_there}
use Rattle.enc_edit_list.specs.declared.edit.Edit.{Edit}
use Rattle.enc_edit_list.specs.declared.edit.EditList.{EditList}
use Rattle.enc_edit_list.specs.Added.{adds_to, rows_added}
use Rattle.enc_rules.specs.Edited.{rows_edited, edited}
use Rattle.enc_rules.specs.Listed.{count_after}
use Rattle.enc_memory_module.proofs.Unbroken.{BreakNothing}
use Rattle.enc_memory_module.proofs.Landed.{adder, no_rows}
use Rattle.enc_memory_module.proofs.Changed.{counts_after}

-- as many as are told
pub count_is : (c : Chain) (l : EditList) (t : ℕ) → HasTables c.plain → BreakNothing c l → row_count (edited c.plain l.edits) t ≡ count_after c l.edits t
unfolding count_after
count_is c l t has none = counts_after c l t has none

-- no fewer than before
pub rows_grow : (c : Chain) (l : EditList) (t : ℕ) → HasTables c.plain → BreakNothing c l → row_count c.plain t ≤ row_count (edited c.plain l.edits) t
rows_grow c l t has none = let n = counts_after c l t has none in omega (arith, n)

-- so a row that was there stays
pub row_stays : (c : Chain) (l : EditList) (u : Token) → HasTables c.plain → BreakNothing c l → has_row c.plain u ≡ true → has_row (edited c.plain l.edits) u ≡ true
row_stays c l u has none there =
    let bounds = row_bounds c.plain u there in
    let more = rows_grow c l u.table has none in
    row_there (edited c.plain l.edits) u bounds.0 (omega (arith, bounds.1, more))

-- an edit adds a row
pub record AddsRow (c : Chain) (l : EditList) (u : Token) : Type 0 where
  pub at : ℕ
  pub edit : Edit
  pub there : slice_get l.edits at ≡ Some edit
  pub row : slice_get (rows_edited c.plain l.edits) at ≡ Some u
  pub adds : adds_to u.table edit ≡ true

-- a row after edits was there before, or an edit adds it
pub data Origin (c : Chain) (l : EditList) (u : Token) : Type 0 where
  was : has_row c.plain u ≡ true → u.row ≤ row_count c.plain u.table → Origin c l u
  new : AddsRow c l u → Origin c l u

new_row : (c : Chain) (l : EditList) (u : Token) → HasTables c.plain → BreakNothing c l → row_count c.plain u.table < u.row → u.row ≤ row_count (edited c.plain l.edits) u.table → AddsRow c l u
new_row c l u has none past high =
    let n = counts_after c l u.table has none in
    let w = adder c.plain [] l.edits u.table (u.row - row_count c.plain u.table - 1) (omega (arith, n, past, high)) in
    let zero_added = no_rows u.table in
    let row : row_count c.plain u.table + rows_added [] u.table + (u.row - row_count c.plain u.table - 1) + 1 ≡ u.row = omega (arith, zero_added, past) in
    record { at = w.at; edit = w.edit; there = w.there; row = w.row ∙ (rw row refl); adds = w.adds }

-- which of the two it is
pub origin : (c : Chain) (l : EditList) (u : Token) → HasTables c.plain → BreakNothing c l → has_row (edited c.plain l.edits) u ≡ true → Origin c l u
origin c l u has none there =
    let bounds = row_bounds (edited c.plain l.edits) u there in
    elim (cases_lt (row_count c.plain u.table) u.row) [
      | inl past ↦ new (new_row c l u has none past bounds.1)
      | inr low ↦ was (row_there c.plain u bounds.0 low) low
    ]
