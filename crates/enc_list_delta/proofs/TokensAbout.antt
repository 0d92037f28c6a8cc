-- The rows that edits are about.
use Rattle.std.proofs.Common.{◌≡◌, ℕ, zero, suc, ◌+◌, ◌-◌, ◌<◌, ◌≤◌, Bool, true, false, List, [], ◌∷◌, length, take, Option, Some, refl, sym, ap, ◌∙◌, inl, inr, arith}
use Rattle.std.specs.Prelude.{slice_get, ◌||◌, ◌==◌, not, nat_lt, if◌then◌else◌}
use Rattle.std.specs.List.{list_any}
use Rattle.std.proofs.lemmas.Bool.{or_cases, or_right}
use Rattle.std.proofs.lemmas.Option.{slice_get_within}
use Rattle.std.proofs.lemmas.Bool.Decides.{nat_tests}
use Rattle.enc_base.specs.Token.{is_token}
use Rattle.enc_base.specs.declared.token.Token.{Token}
use Rattle.enc_plain.specs.Chain.{Chain, rows_before}
use Rattle.enc_plain.specs.Module.{Module}
use Rattle.enc_plain.specs.Sound.{row_count}
use Rattle.enc_plain.proofs.Applied.{same_is}
use Rattle.enc_edit_list.specs.declared.edit.Edit.{Edit}
use Rattle.enc_edit_list.specs.declared.edit.Edit.TheVariants.{Add, Body as Replace}
use Rattle.enc_edit_list.specs.declared.edit.EditList.{EditList}
use Rattle.enc_edit_list.specs.Added.{adding, rows_added}
use Rattle.enc_delta.specs.Rules.{may_change}
use Rattle.enc_rules.specs.Edited.{row_edited, rows_edited}
use Rattle.enc_rules.specs.Listed.{edit_of, count_after}
use Rattle.enc_rules.specs.Rules.{table_breaks}
use Rattle.enc_rules.proofs.RowsEdited.{row_there, table_is}
use Rattle.enc_memory_module.proofs.Unbroken.{BreakNothing}
use Rattle.enc_memory_module.proofs.Split.{few_of, rows_length}
use Rattle.enc_memory_module.proofs.Landed.{adder, lands, no_rows}
use Rattle.enc_memory_module.proofs.Agreed.{found_added}
use Rattle.enc_list_delta.specs.Delta.{is_edited}

-- an edit that is about a row
pub record IsEdit (m : Module) (edits : List Edit) (u : Token) : Type 0 where
  pub at : ℕ
  pub edit : Edit
  pub there : slice_get edits at ≡ Some edit
  pub row : slice_get (rows_edited m edits) at ≡ Some u
  pub own : row_edited m (take at edits) edit ≡ u

-- the place of what stands in a list
pub record Stands (ts : List Token) (u : Token) : Type 0 where
  pub at : ℕ
  pub there : slice_get ts at ≡ Some u

-- a token that stands in a list has a place there
pub stands : (ts : List Token) (u : Token) → list_any (λ t. is_token t u) ts ≡ true → Stands ts u
stands [] u h = absurd cc
stands (t ∷ ts) u h = elim (or_cases (is_token t u) (list_any (λ t. is_token t u) ts) h) [
  | inl here ↦ record { at = 0; there = ap (λ x. Some x) (same_is t u here) }
  | inr behind ↦ let w = stands ts u behind in record { at = suc w.at; there = w.there }
]

item_at : {A : Type 0} (xs : List A) (k : ℕ) → k < length xs → (x : A) × (slice_get xs k ≡ Some x)
item_at [] k low = absurd (omega (arith, low))
item_at (x ∷ xs) zero low = (x, refl)
item_at (x ∷ xs) (suc k) low = item_at xs k (omega (arith, low))

-- a row that edits are about is the row of one of them
pub about_edit : (m : Module) (edits : List Edit) (u : Token) → is_edited m edits u ≡ true → IsEdit m edits u
unfolding is_edited
about_edit m edits u h =
    let w = stands (rows_edited m edits) u h in
    let many = rows_length m [] edits in
    let low = slice_get_within (rows_edited m edits) w.at u w.there in
    let e = item_at edits w.at (omega (arith, many, low)) in
    let here : Some (row_edited m (take w.at edits) e.0) ≡ Some u = sym (row_there m edits w.at e.0 e.1) ∙ w.there in
    record { at = w.at; edit = e.0; there = e.1; row = w.there; own = cc }

-- a token is itself
pub self : (t : Token) → is_token t t ≡ true
self t = grind (arith, nat_tests)

-- and one with a place stands there
pub listed_there : (ts : List Token) (k : ℕ) (u : Token) → slice_get ts k ≡ Some u → list_any (λ t. is_token t u) ts ≡ true
listed_there [] k u h = absurd cc
listed_there (t ∷ ts) zero u h = let is : t ≡ u = cc in let e : is_token t u ≡ true = rw is (self u) in rw e refl
listed_there (t ∷ ts) (suc k) u h = or_right (is_token t u) (list_any (λ t. is_token t u) ts) (listed_there ts k u h)

-- and they are about the row of each
pub edit_about : (m : Module) (edits : List Edit) (k : ℕ) (u : Token) → slice_get (rows_edited m edits) k ≡ Some u → is_edited m edits u ≡ true
unfolding is_edited
edit_about m edits k u h = listed_there (rows_edited m edits) k u h

-- where a row stands that edits are about
pub record StandsAfter (c : Chain) (l : EditList) (u : Token) : Type 0 where
  pub low : 0 < u.row
  pub high : u.row ≤ count_after c l.edits u.table
  pub small : u.table < 0x2D
  pub may : may_change u.table ≡ true
  pub module_ : (u.table == 0) ≡ false
  pub log : (u.table == 0x1E) ≡ false
  pub map_ : (u.table == 0x1F) ≡ false

-- of those that a list may add to
record IsOpen (table : ℕ) : Type 0 where
  may : may_change table ≡ true
  module_ : (table == 0) ≡ false
  log : (table == 0x1E) ≡ false
  map_ : (table == 0x1F) ≡ false

flipped : (a b : ℕ) → (a == b) ≡ false → (b == a) ≡ false
flipped a b h = grind (arith, nat_tests, h)

is_open : (table : ℕ) (a b d e : Bool) → may_change table ≡ a → (0 == table) ≡ b → (0x1E == table) ≡ d → (0x1F == table) ≡ e → (not a || (b || (d || (e || false)))) ≡ false → IsOpen table
is_open table true false false false a b d e h = record { may = a; module_ = flipped 0 table b; log = flipped 0x1E table d; map_ = flipped 0x1F table e }
is_open table true false false true a b d e h = absurd cc
is_open table true false true f a b d e h = absurd cc
is_open table true true g f a b d e h = absurd cc
is_open table false b' g f a b d e h = absurd cc

open_add : (table : ℕ) (owner : Token) (cells : _) (code : _) (points : _) → table_breaks (Add table owner cells code points) ≡ false → IsOpen table
open_add table owner cells code points h = is_open table (may_change table) (0 == table) (0x1E == table) (0x1F == table) refl refl refl refl h

few_added : (c : Chain) (edits : List Edit) (u : Token) (e : Edit) → edit_of c edits u ≡ Some e → u.row ≤ count_after c edits u.table
unfolding edit_of count_after rows_added
few_added c edits u e h = by_test (nat_lt (rows_before c u.table) u.row) refl h
  where
    by_test : (b : Bool) → nat_lt (rows_before c u.table) u.row ≡ b → (if b then slice_get (adding edits u.table) (u.row - rows_before c u.table - 1) else Option.None) ≡ Some e → u.row ≤ rows_before c u.table + length (adding edits u.table)
    by_test false p g = absurd cc
    by_test true p g = let low = few_of (adding edits u.table) (u.row - rows_before c u.table - 1) e g in omega (arith, low)

of_edit : (c : Chain) (l : EditList) (u : Token) (k : ℕ) (e : Edit) → BreakNothing c l → slice_get l.edits k ≡ Some e → slice_get (rows_edited c.plain l.edits) k ≡ Some u → row_edited c.plain (take k l.edits) e ≡ u → StandsAfter c l u
unfolding count_after
of_edit c l u k (Add table owner cells code points) none there row own =
    let e : Edit = Add table owner cells code points in
    let shut : table_breaks e ≡ false = sym (table_is c l k e there) ∙ none.tables k in
    let open_ = open_add table owner cells code points shut in
    let same : u.table ≡ table = ap (λ (t : Token). t.table) (sym own) in
    let land : table < 0x2D = lands c l k e u none there row tt in
    let high = few_added c l.edits u e (found_added c l k table owner cells code points u there row) in
    let low : row_count c.plain table + rows_added (take k l.edits) table + 1 ≡ u.row = ap (λ (t : Token). t.row) own in
    record { low = omega (arith, low); high = high; small = rw same land; may = rw same open_.may; module_ = rw same open_.module_; log = rw same open_.log; map_ = rw same open_.map_ }
of_edit c l u k (Replace method code points) none there row own =
    let land = lands c l k (Replace method code points) u none there row (sym own) in
    let table : u.table ≡ 6 = ap (λ (t : Token). t.table) (sym own) ∙ land.0 in
    let number : method.row ≡ u.row = ap (λ (t : Token). t.row) own in
    record { low = omega (arith, number, land.1); high = rw table (omega (arith, number, land.2)); small = rw table (omega arith); may = rw table refl; module_ = rw table refl; log = rw table refl; map_ = rw table refl }

pub stands_after : (c : Chain) (l : EditList) (u : Token) → BreakNothing c l → is_edited c.plain l.edits u ≡ true → StandsAfter c l u
stands_after c l u none h =
    let w = about_edit c.plain l.edits u h in
    of_edit c l u w.at w.edit none w.there w.row w.own

-- a row that was there is about only a method's new body
old_edit : (c : Chain) (l : EditList) (u : Token) (k : ℕ) (e : Edit) → BreakNothing c l → slice_get l.edits k ≡ Some e → slice_get (rows_edited c.plain l.edits) k ≡ Some u → row_edited c.plain (take k l.edits) e ≡ u → u.row ≤ row_count c.plain u.table → u.table ≡ 6
old_edit c l u k (Add table owner cells code points) none there row own old =
    let same : u.table ≡ table = ap (λ (t : Token). t.table) (sym own) in
    let here : row_count c.plain table + rows_added (take k l.edits) table + 1 ≡ u.row = ap (λ (t : Token). t.row) own in
    let low : u.row ≤ row_count c.plain table = rw same at old in
    absurd (omega (arith, here, low))
old_edit c l u k (Replace method code points) none there row own old =
    ap (λ (t : Token). t.table) (sym own) ∙ (lands c l k (Replace method code points) u none there row (sym own)).0

pub old_about : (c : Chain) (l : EditList) (u : Token) → BreakNothing c l → is_edited c.plain l.edits u ≡ true → u.row ≤ row_count c.plain u.table → u.table ≡ 6
old_about c l u none h old =
    let w = about_edit c.plain l.edits u h in
    old_edit c l u w.at w.edit none w.there w.row w.own old

-- each new row is one that they are about
pub new_about : (c : Chain) (l : EditList) (u : Token) → row_count c.plain u.table < u.row → u.row ≤ count_after c l.edits u.table → is_edited c.plain l.edits u ≡ true
unfolding count_after
new_about c l u past high =
    let w = adder c.plain [] l.edits u.table (u.row - row_count c.plain u.table - 1) (omega (arith, past, high)) in
    let zero_added = no_rows u.table in
    let n : row_count c.plain u.table + rows_added [] u.table + (u.row - row_count c.plain u.table - 1) + 1 ≡ u.row = omega (arith, zero_added, past) in
    edit_about c.plain l.edits w.at u (w.row ∙ (rw n refl))
