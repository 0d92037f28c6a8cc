-- The entries of one edit in EncLog.
use Rattle.std.proofs.Common.{◌≡◌, ℕ, ◌+◌, Bool, true, false, List, [], ◌∷◌, ◌++◌, length, Some, refl, sym, ◌∙◌, inl, inr}
use Rattle.std.specs.Prelude.{slice_get, ◌&&◌, ◌==◌}
use Rattle.std.proofs.lemmas.Bool.{both_ways, cases_Bool, not-false, eqb-true}
use Rattle.enc_base.specs.declared.token.Token.{Token}
use Rattle.enc_schema.specs.Children.{is_child_table, owner_table}
use Rattle.enc_schema.proofs.ChildTables.{by_child}
use Rattle.enc_plain.specs.Chain.{Chain}
use Rattle.enc_plain.specs.Sound.{row_count}
use Rattle.enc_delta.specs.declared.log_entry.LogEntry.{LogEntry}
use Rattle.enc_delta.specs.Delta.{is_module}
use Rattle.enc_delta.specs.Rules.{counts}
use Rattle.enc_edit_list.specs.Added.{adds_to, rows_added}
use Rattle.enc_edit_list.specs.declared.edit.Edit.{Edit}
use Rattle.enc_edit_list.specs.declared.edit.Edit.TheVariants.{Add, Body as Replace}
use Rattle.enc_edit_list.specs.declared.edit.EditList.{EditList}
use Rattle.enc_rules.specs.Edited.{row_edited, attached_by, rows_edited}
use Rattle.enc_rules.specs.Listed.{count_after}
use Rattle.enc_rules.specs.Rules.{is_row_of, owner_breaks}
use Rattle.enc_rules.proofs.RowsEdited.{owner_is}
use Rattle.enc_memory_module.proofs.Unbroken.{BreakNothing}
use Rattle.enc_memory_module.proofs.Split.{seam, row_there}
use Rattle.enc_list_delta.specs.Delta.{add_code, entries_for, is_reference_table, adds_reference}
use Rattle.enc_list_delta.proofs.TokensAbout.{edit_about, stands_after}

-- the entry of a row itself, and that which gives its owner a child of a table
abbrev pub own_entry : Token → LogEntry
own_entry row = record { token = row; operation = 0 }

abbrev pub owner_entry : Token → ℕ → LogEntry
owner_entry owner table = record { token = owner; operation = add_code table }

-- an edit whose row has no owner
pub record IsAlone (e : Edit) (row : Token) : Type 0 where
  pub gives : attached_by e row ≡ []
  pub entries : entries_for e row ≡ own_entry row ∷ []
  pub adds : (t : ℕ) → is_child_table t ≡ true → adds_to t e ≡ false

-- one whose row has an owner, and the row is the next of its table
pub record IsPaired (c : Chain) (l : EditList) (before : List Edit) (e : Edit) (row owner : Token) (table : ℕ) : Type 0 where
  pub gives : attached_by e row ≡ record { owner = owner; child = row } ∷ []
  pub entries : entries_for e row ≡ owner_entry owner table ∷ own_entry row ∷ []
  pub adds : (t : ℕ) → adds_to t e ≡ (table == t)
  pub child : is_child_table table ≡ true
  pub there : is_row_of (count_after c l.edits) (owner_table table) owner ≡ true
  pub own : row.table ≡ table
  pub number : row.row ≡ row_count c.plain table + rows_added before table + 1
  pub other : adds_reference e ≡ false

pub data Entries (c : Chain) (l : EditList) (before : List Edit) (e : Edit) (row : Token) : Type 0 where
  alone : IsAlone e row → Entries c l before e row
  paired : (owner : Token) (table : ℕ) → IsPaired c l before e row owner table → Entries c l before e row

-- a table of children is none of references
pub child_no_reference : (t : ℕ) → is_child_table t ≡ true → is_reference_table t ≡ false
child_no_reference t child = by_child (λ k. is_reference_table k ≡ false) refl refl refl refl refl t child

other_table : (t table : ℕ) → is_child_table t ≡ true → is_child_table table ≡ false → (table == t) ≡ false
other_table t table child none = elim (cases_Bool (table == t)) [
  | inl same ↦ let is : table ≡ t = eqb-true table t same in absurd (both_ways (is_child_table table) none (rw is child))
  | inr other ↦ other
]

add_entries : (c : Chain) (l : EditList) (before : List Edit) (table : ℕ) (owner : Token) (cells : _) (code : _) (points : _) (b : Bool) → is_child_table table ≡ b → owner_breaks (count_after c l.edits) (Add table owner cells code points) ≡ false → Entries c l before (Add table owner cells code points) (row_edited c.plain before (Add table owner cells code points))
unfolding entries_for
add_entries c l before table owner cells code points true is fits = paired owner table (record {
  gives = rw is refl;
  entries = rw is refl;
  adds = λ t. refl;
  child = is;
  there = not-false (is_row_of (count_after c l.edits) (owner_table table) owner) (rw is at fits);
  own = refl;
  number = refl;
  other = child_no_reference table is;
})
add_entries c l before table owner cells code points false is fits = alone (record {
  gives = rw is refl;
  entries = rw is refl;
  adds = λ t child. other_table t table child is;
})

-- the entries of an edit whose owner is there
pub entries_are : (c : Chain) (l : EditList) (before : List Edit) (e : Edit) → owner_breaks (count_after c l.edits) e ≡ false → Entries c l before e (row_edited c.plain before e)
unfolding entries_for
entries_are c l before (Add table owner cells code points) fits = add_entries c l before table owner cells code points (is_child_table table) refl fits
entries_are c l before (Replace method code points) fits = alone (record { gives = refl; entries = refl; adds = λ t child. refl })

-- an edit of a list that breaks nothing: its owner is there, and its row isn't the Module's
pub record IsLogged (c : Chain) (l : EditList) (before : List Edit) (e : Edit) : Type 0 where
  pub owner : owner_breaks (count_after c l.edits) e ≡ false
  pub row : is_module (row_edited c.plain before e) ≡ false

no_module : (t : Token) → (t.table == 0) ≡ false → is_module t ≡ false
no_module t h = rw h refl

pub is_logged : (c : Chain) (l : EditList) (before rest : List Edit) (e : Edit) → BreakNothing c l → l.edits ≡ before ++ e ∷ rest → IsLogged c l before e
is_logged c l before rest e none is =
    let there : slice_get l.edits (length before) ≡ Some e = rw is (seam before rest e) in
    let row : slice_get (rows_edited c.plain l.edits) (length before) ≡ Some (row_edited c.plain before e) = rw is (row_there c.plain before rest e) in
    record {
      owner = sym (owner_is c l (length before) e there) ∙ none.owners (length before);
      row = no_module (row_edited c.plain before e) (stands_after c l (row_edited c.plain before e) none (edit_about c.plain l.edits (length before) (row_edited c.plain before e) row)).module_;
    }

-- an owner isn't the Module
pub owner_counts : (count : ℕ → ℕ) (owner : Token) (table : ℕ) → is_child_table table ≡ true → is_row_of count (owner_table table) owner ≡ true → counts (owner_entry owner table) ≡ true
owner_counts count owner table child h =
    let own : owner.table ≡ owner_table table = eqb-true owner.table (owner_table table) (first (owner.table == owner_table table) _ _ h) in
    let some : (owner_table table == 0) ≡ false = by_child (λ k. (owner_table k == 0) ≡ false) refl refl refl refl refl table child in
    rw (own, some) refl
  where
    first : (a b d : Bool) → (a && b && d) ≡ true → a ≡ true
    first true b d g = refl
    first false b d g = absurd cc

pub own_counts : (row : Token) → is_module row ≡ false → counts (own_entry row) ≡ true
own_counts row h = rw h refl
