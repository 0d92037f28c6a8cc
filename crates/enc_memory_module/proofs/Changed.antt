-- The cells of a row after edits: those that the edit of it gives, or those that it had.
use Rattle.std.proofs.Common.{◌≡◌, ℕ, suc, ◌+◌, Bool, true, false, List, [], ◌∷◌, ◌++◌, length, Option, Some, None, refl, sym, ap, ◌∙◌, arith}
use Rattle.std.specs.Prelude.{slice_get, if◌then◌else◌}
use Rattle.enc_base.specs.Order.{or_else}
use Rattle.enc_base.specs.Token.{is_token}
use Rattle.enc_base.specs.declared.token.Token.{Token}
use Rattle.enc_plain.specs.Apply.{apply}
use Rattle.enc_plain.specs.Cell.{Cell}
use Rattle.enc_plain.specs.Chain.{Chain}
use Rattle.enc_plain.specs.Fits.{cells_for, Fits}
use Rattle.enc_plain.specs.Module.{Module, cells_of}
use Rattle.enc_plain.specs.Sound.{row_count, HasTables}
use Rattle.enc_plain.proofs.Applied.{applied, same_is}
use Rattle.enc_plain.proofs.AttachedTo.{cells_attached, count_attached}
use Rattle.enc_edit_list.specs.declared.edit.Edit.{Edit}
use Rattle.enc_edit_list.specs.declared.edit.EditList.{EditList}
use Rattle.enc_edit_list.specs.Added.{rows_added}
use Rattle.enc_rules.specs.Edited.{row_edited, rows_behind, cells_edited, changes_behind, attached_in, edited}
use Rattle.enc_memory_module.proofs.Unbroken.{BreakNothing}
use Rattle.enc_memory_module.proofs.Fitted.{all_fresh}
use Rattle.enc_memory_module.proofs.Landed.{no_rows}
use Rattle.enc_memory_module.proofs.Tallied.{Tally, fits_from, tally_from}

-- an edit about a row, with the cells that it gives
pub record IsEditOf (m : Module) (pre xs : List Edit) (u : Token) (cells : List Cell) : Type 0 where
  pub at : ℕ
  pub edit : Edit
  pub there : slice_get xs at ≡ Some edit
  pub row : slice_get (rows_behind m pre xs) at ≡ Some u
  pub gives : cells ≡ cells_edited m edit

of_head : (m : Module) (pre xs : List Edit) (e : Edit) (u : Token) (cells : List Cell) (b : Bool) → is_token (row_edited m pre e) u ≡ b → (if b then Some (cells_edited m e) else cells_for (changes_behind m (pre ++ e ∷ []) xs) u) ≡ Some cells → (cells_for (changes_behind m (pre ++ e ∷ []) xs) u ≡ Some cells → IsEditOf m (pre ++ e ∷ []) xs u cells) → IsEditOf m pre (e ∷ xs) u cells
unfolding rows_behind
of_head m pre xs e u cells true is h more =
    let same : row_edited m pre e ≡ u = same_is (row_edited m pre e) u is in
    let own : cells_edited m e ≡ cells = cc in
    record { at = 0; edit = e; there = refl; row = ap (λ x. Some x) same; gives = sym own }
of_head m pre xs e u cells false is h more =
    let w = more h in
    record { at = suc w.at; edit = w.edit; there = w.there; row = w.row; gives = w.gives }

pub edit_found : (m : Module) (pre xs : List Edit) (u : Token) (cells : List Cell) → cells_for (changes_behind m pre xs) u ≡ Some cells → IsEditOf m pre xs u cells
unfolding changes_behind cells_for
edit_found m pre [] u cells h = absurd cc
edit_found m pre (e ∷ xs) u cells h = of_head m pre xs e u cells (is_token (row_edited m pre e) u) refl h (λ g. edit_found m (pre ++ e ∷ []) xs u cells g)

none_tallied : (m : Module) → HasTables m → Tally m m []
none_tallied m has = record { tables = has.all; counts = λ t. let n = no_rows t in omega (arith, n) }

pub all_fit : (c : Chain) (l : EditList) → HasTables c.plain → BreakNothing c l → Fits c.plain (changes_behind c.plain [] l.edits)
all_fit c l has none = fits_from c l c.plain [] l.edits none refl (all_fresh c l [] l.edits refl none.rows) (none_tallied c.plain has)

-- how many rows each table has after them
pub counts_after : (c : Chain) (l : EditList) (t : ℕ) → HasTables c.plain → BreakNothing c l → row_count (edited c.plain l.edits) t ≡ row_count c.plain t + rows_added l.edits t
unfolding edited
counts_after c l t has none =
    count_attached (attached_in c.plain l.edits) (apply c.plain (changes_behind c.plain [] l.edits)) t
    ∙ (tally_from c l c.plain [] l.edits none refl (none_tallied c.plain has)).counts t

pub tables_after : (c : Chain) (l : EditList) → HasTables c.plain → BreakNothing c l → length (apply c.plain (changes_behind c.plain [] l.edits)).tables ≡ 0x2D
tables_after c l has none = (tally_from c l c.plain [] l.edits none refl (none_tallied c.plain has)).tables

-- the cells of a row after them
pub cells_after : (c : Chain) (l : EditList) (u : Token) → HasTables c.plain → BreakNothing c l → cells_of (edited c.plain l.edits) u ≡ or_else (cells_for (changes_behind c.plain [] l.edits) u) (cells_of c.plain u)
unfolding edited
cells_after c l u has none =
    cells_attached (attached_in c.plain l.edits) (apply c.plain (changes_behind c.plain [] l.edits)) u
    ∙ applied (changes_behind c.plain [] l.edits) c.plain u (all_fit c l has none)

-- a row has the cells of the edit of it, or is one that was there, with its cells
pub data IsRow (c : Chain) (l : EditList) (u : Token) (cells : List Cell) : Type 0 where
  changed : IsEditOf c.plain [] l.edits u cells → IsRow c l u cells
  kept : cells_of c.plain u ≡ Some cells → IsRow c l u cells

row_by : (c : Chain) (l : EditList) (u : Token) (cells : List Cell) (o : Option (List Cell)) → cells_for (changes_behind c.plain [] l.edits) u ≡ o → or_else o (cells_of c.plain u) ≡ Some cells → IsRow c l u cells
row_by c l u cells (Some own) is h = let e : own ≡ cells = cc in changed (edit_found c.plain [] l.edits u cells (is ∙ ap (λ x. Some x) e))
row_by c l u cells None is h = kept h

pub row_is : (c : Chain) (l : EditList) (u : Token) (cells : List Cell) → HasTables c.plain → BreakNothing c l → cells_of (edited c.plain l.edits) u ≡ Some cells → IsRow c l u cells
row_is c l u cells has none h = row_by c l u cells (cells_for (changes_behind c.plain [] l.edits) u) refl (sym (cells_after c l u has none) ∙ h)
