-- The rows of edits, kept in a set by their numbers.
use Rattle.std.proofs.Common.{◌≡◌, ℕ, ◌<◌, Bool, true, false, cond, List, [], ◌∷◌, ◌++◌, take, Option, Some, None, refl, sym, ap, ◌∙◌, arith}
use Rattle.std.specs.Prelude.{◌==◌, ◌&&◌, ◌||◌, ◌^◌, slice_get, option_map}
use Rattle.std.specs.List.{list_any}
use Rattle.std.specs.Ordering.{nat_cmp}
use Rattle.std.specs.BTreeMap.{is_at}
use Rattle.std.specs.BTreeSet.{BTreeSet, contains, Updates, IsEmpty}
use Rattle.std.proofs.lemmas.Bool.Decides.{nat_tests}
use Rattle.std.proofs.lemmas.List.Folds.{list_any-append}
use Rattle.std.proofs.lemmas.Bool.{and_parts}
use Rattle.enc_base.specs.Token.{is_token}
use Rattle.enc_base.specs.declared.token.Token.{Token}
use Rattle.enc_plain.specs.Chain.{Chain}
use Rattle.enc_plain.specs.Module.{Module}
use Rattle.enc_edit_list.specs.declared.edit.Edit.{Edit}
use Rattle.enc_edit_list.specs.declared.edit.EditList.{EditList}
use Rattle.enc_rules.specs.Edited.{row_edited, rows_edited}
use Rattle.enc_rules.specs.Known.{key_of_row}
use Rattle.enc_rules.specs.Rules.{row_is_edited_twice}
use Rattle.enc_rules.proofs.RowsEdited.{row_behind, at_edit_is}

-- the rows whose numbers are in a set
pub record AreRows (known : BTreeSet ℕ) (rows : List Token) : Type 0 where
  pub each : (t : Token) → t.row < 2 ^ 32 → contains nat_cmp known (key_of_row t) ≡ list_any (λ u. is_token u t) rows

pub rows_unknown : (known : BTreeSet ℕ) → IsEmpty known → AreRows known []
rows_unknown known empty = record { each = λ t low. rw empty refl }

-- tokens are one where their numbers are
same_number : (a b : ℕ) → is_at (nat_cmp a) b ≡ true → a ≡ b
same_number a b h = grind (arith, nat_tests, h)

itself : (a b : ℕ) → a ≡ b → is_at (nat_cmp a) b ≡ true
itself a b e = grind (arith, nat_tests, e)

equal : (a b : ℕ) → (a == b) ≡ true → a ≡ b
equal a b h = grind (arith, nat_tests, h)

equal_test : (a b : ℕ) → a ≡ b → (a == b) ≡ true
equal_test a b e = grind (arith, nat_tests, e)

keys_by : (r t : Token) (here there : Bool) → is_at (nat_cmp (key_of_row r)) (key_of_row t) ≡ here → is_token r t ≡ there → r.row < 2 ^ 32 → t.row < 2 ^ 32 → here ≡ there
keys_by r t true true h k low few = refl
keys_by r t false false h k low few = refl
keys_by r t true false h k low few =
    let key = same_number (key_of_row r) (key_of_row t) h in
    let row : r.row ≡ t.row = omega (arith, key) in
    let table : r.table ≡ t.table = omega (arith, key) in
    let is : is_token r t ≡ true = rw (equal_test r.table t.table table, equal_test r.row t.row row) refl in
    sym is ∙ k
keys_by r t false true h k low few =
    let parts = and_parts (r.table == t.table) (r.row == t.row) k in
    let table = equal r.table t.table parts.0 in
    let row = equal r.row t.row parts.1 in
    let key : key_of_row r ≡ key_of_row t = omega (arith, table, row) in
    sym h ∙ itself (key_of_row r) (key_of_row t) key

one_known : (here is before there : Bool) → here ≡ is → before ≡ there → cond here true before ≡ (there || (is || false))
one_known true is before true e f = refl
one_known true true before false e f = refl
one_known true false before false e f = absurd cc
one_known false is before true e f = f
one_known false false before false e f = f
one_known false true before false e f = absurd cc

-- one row more
pub rows_known : (old new : BTreeSet ℕ) (rows : List Token) (r : Token) → r.row < 2 ^ 32 → AreRows old rows → Updates nat_cmp old new (key_of_row r) true → AreRows new (rows ++ r ∷ [])
rows_known old new rows r low known updates = record {
  each = λ t few.
      updates.0 (key_of_row t)
      ∙ one_known (is_at (nat_cmp (key_of_row r)) (key_of_row t)) (is_token r t) (contains nat_cmp old (key_of_row t)) (list_any (λ u. is_token u t) rows) (keys_by r t _ _ refl refl low few) (known.each t few)
      ∙ sym (list_any-append (λ u. is_token u t) rows (r ∷ []));
}

-- the edit at a place is about one of the rows before its own
edit_by : (m : Module) (before : List Edit) (o : Option Edit) (t : Token) → option_map (row_edited m before) o ≡ Some t → (e : Edit) × (o ≡ Some e) × (row_edited m before e ≡ t)
edit_by m before None t is = absurd cc
edit_by m before (Some e) t is = (e, refl, let same : row_edited m before e ≡ t = cc in same)

pub twice_is : (c : Chain) (l : EditList) (k : ℕ) (t : Token) → slice_get (rows_edited c.plain l.edits) k ≡ Some t
    → row_is_edited_twice c l k ≡ list_any (λ u. is_token u t) (take k (rows_edited c.plain l.edits))
unfolding row_is_edited_twice
twice_is c l k t there =
    let w = edit_by c.plain (take k l.edits) (slice_get l.edits k) t (sym (row_behind c.plain [] l.edits k) ∙ there) in
    at_edit_is (λ e t. list_any (λ u. is_token u t) (take k (rows_edited c.plain l.edits))) c l k w.0 w.1
    ∙ ap (λ t. list_any (λ u. is_token u t) (take k (rows_edited c.plain l.edits))) w.2
