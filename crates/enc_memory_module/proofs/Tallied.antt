-- How many rows each table has while the rows of edits are put, and that each fits.
use Rattle.std.proofs.Common.{◌≡◌, ◌≢◌, ℕ, ◌+◌, ◌-◌, ◌<◌, ◌≤◌, Bool, true, false, List, [], ◌∷◌, ◌++◌, length, refl, sym, ap, ◌∙◌, arith, append_assoc, subst}
use Rattle.std.specs.Prelude.{◌==◌}
use Rattle.std.proofs.lemmas.Bool.Decides.{nat_tests}
use Rattle.std.proofs.lemmas.List.{append-nil}
use Rattle.enc_base.specs.declared.token.Token.{Token}
use Rattle.enc_plain.specs.Apply.{Change, put, apply}
use Rattle.enc_plain.specs.Chain.{Chain}
use Rattle.enc_plain.specs.Fits.{FitsOne, Fits}
use Rattle.enc_plain.specs.Module.{Module, rows_in}
use Rattle.enc_plain.specs.Sound.{row_count}
use Rattle.enc_edit_list.specs.declared.edit.Edit.{Edit}
use Rattle.enc_edit_list.specs.declared.edit.Edit.TheVariants.{Add, Body as Replace}
use Rattle.enc_edit_list.specs.declared.edit.EditList.{EditList}
use Rattle.enc_edit_list.specs.Added.{adds_to, rows_added}
use Rattle.enc_rules.specs.Edited.{row_edited, rows_behind, rows_edited, cells_edited, changes_behind}
use Rattle.enc_agg.proofs.Counting.{put_within, put_past, put_tables, rows_other, rows_same}
use Rattle.enc_memory_module.proofs.Unbroken.{BreakNothing}
use Rattle.enc_memory_module.proofs.Split.{seam, row_there, rows_append, added_more}
use Rattle.enc_memory_module.proofs.Fitted.{among_last, Fresh, none_changed}
use Rattle.enc_memory_module.proofs.Landed.{Lands, row_is_of, lands}

-- with the rows of some edits put into a module, each table has so many
pub record Tally (m0 m : Module) (before : List Edit) : Type 0 where
  pub tables : length m.tables ≡ 0x2D
  pub counts : (t : ℕ) → row_count m t ≡ row_count m0 t + rows_added before t

abbrev change_for : Module → List Edit → Edit → Change
change_for m0 before e = record { token = row_edited m0 before e; cells = cells_edited m0 e }

of_split : (c : Chain) (l : EditList) (before rest : List Edit) (e : Edit) → BreakNothing c l → l.edits ≡ before ++ e ∷ rest → row_is_of e (row_edited c.plain before e) → Lands c.plain e (row_edited c.plain before e)
of_split c l before rest e none is own = lands c l (length before) e (row_edited c.plain before e) none (rw is (seam before rest e)) (rw is (row_there c.plain before rest e)) own

pub landed : (c : Chain) (l : EditList) (before rest : List Edit) (e : Edit) → BreakNothing c l → l.edits ≡ before ++ e ∷ rest → Lands c.plain e (row_edited c.plain before e)
landed c l before rest (Add table owner cells code points) none is = of_split c l before rest (Add table owner cells code points) none is tt
landed c l before rest (Replace method code points) none is = of_split c l before rest (Replace method code points) none is refl

-- where the row of an edit is put: within its table, or behind its last row
pub record Puts (m0 m : Module) (before : List Edit) (e : Edit) : Type 0 where
  pub table : (row_edited m0 before e).table < length m.tables
  pub low : 0 < (row_edited m0 before e).row
  pub high : (row_edited m0 before e).row ≤ row_count m (row_edited m0 before e).table + 1

puts : (m0 m : Module) (before : List Edit) (e : Edit) → Tally m0 m before → Lands m0 e (row_edited m0 before e) → Puts m0 m before e
puts m0 m before (Add table owner cells code points) tally land =
    let n = tally.counts table in
    record { table = omega (arith, tally.tables, land); low = omega arith; high = omega (arith, n) }
puts m0 m before (Replace method code points) tally land =
    let n = tally.counts 6 in
    let few : method.row ≤ row_count m 6 = omega (arith, n, land.2) in
    record { table = rw land.0 (omega (arith, tally.tables)); low = land.1; high = rw land.0 (omega (arith, few)) }

elsewhere : (m0 m : Module) (before : List Edit) (e : Edit) (ch : Change) (t : ℕ) → Tally m0 m before → t ≢ ch.token.table → adds_to t e ≡ false → row_count (put m ch) t ≡ row_count m0 t + rows_added (before ++ e ∷ []) t
elsewhere m0 m before e ch t tally other adds =
    let same : row_count (put m ch) t ≡ row_count m t = ap length (rows_other m ch t other) in
    let n = tally.counts t in
    let more : rows_added (before ++ e ∷ []) t ≡ rows_added before t + 0 = added_more before e t ∙ (rw adds refl) in
    omega (arith, same, n, more)

is_not : (t u : ℕ) → (u == t) ≡ false → t ≢ u
is_not t u h e = let f : (u == t) ≡ true = grind (arith, nat_tests, e) in let g : true ≡ false = sym f ∙ h in cc

by_table : (m0 m : Module) (before : List Edit) (table : ℕ) (owner : Token) (cells : _) (code : _) (points : _) (t : ℕ) (b : Bool) → Tally m0 m before → table < 0x2D → (table == t) ≡ b → row_count (put m (change_for m0 before (Add table owner cells code points))) t ≡ row_count m0 t + rows_added (before ++ Add table owner cells code points ∷ []) t
by_table m0 m before table owner cells code points t true tally land h =
    let e : Edit = Add table owner cells code points in
    let is : table ≡ t = grind (arith, nat_tests, h) in
    let n = tally.counts table in
    let past : length (rows_in m table) ≡ row_count m0 table + rows_added before table + 1 - 1 = omega (arith, n) in
    let same = rows_same m (change_for m0 before e) (omega (arith, tally.tables, land)) (omega arith) in
    let put_one : row_count (put m (change_for m0 before e)) table ≡ row_count m table + 1 = ap length same ∙ put_past table (rows_in m table) (row_count m0 table + rows_added before table + 1 - 1) (cells_edited m0 e) past in
    let self : (table == table) ≡ true = grind (arith, nat_tests) in
    let more : rows_added (before ++ e ∷ []) table ≡ rows_added before table + 1 = added_more before e table ∙ (rw self refl) in
    rw (← is) (omega (arith, put_one, n, more))
by_table m0 m before table owner cells code points t false tally land h =
    elsewhere m0 m before (Add table owner cells code points) (change_for m0 before (Add table owner cells code points)) t tally (is_not t table h) h

by_method : (m0 m : Module) (before : List Edit) (method : Token) (code : _) (points : _) (t : ℕ) (b : Bool) → Tally m0 m before → Lands m0 (Replace method code points) method → (6 == t) ≡ b → row_count (put m (change_for m0 before (Replace method code points))) t ≡ row_count m0 t + rows_added (before ++ Replace method code points ∷ []) t
by_method m0 m before method code points t true tally land h =
    let e : Edit = Replace method code points in
    let is : 6 ≡ t = grind (arith, nat_tests, h) in
    let n = tally.counts 6 in
    let same = rows_same m (change_for m0 before e) (rw land.0 (omega (arith, tally.tables))) land.1 in
    let kept : row_count (put m (change_for m0 before e)) method.table ≡ row_count m method.table = ap length same ∙ put_within method.table (rows_in m method.table) (method.row - 1) (cells_edited m0 e) (rw land.0 (omega (arith, n, land.2, land.1))) in
    let at_six : row_count (put m (change_for m0 before e)) 6 ≡ row_count m 6 = subst (λ k. row_count (put m (change_for m0 before e)) k ≡ row_count m k) land.0 kept in
    let more : rows_added (before ++ e ∷ []) 6 ≡ rows_added before 6 + 0 = added_more before e 6 in
    rw (← is) (omega (arith, at_six, n, more))
by_method m0 m before method code points t false tally land h =
    elsewhere m0 m before (Replace method code points) (change_for m0 before (Replace method code points)) t tally (rw land.0 (is_not t 6 h)) refl

next_tally : (m0 m : Module) (before : List Edit) (e : Edit) → Tally m0 m before → Lands m0 e (row_edited m0 before e) → Tally m0 (put m (change_for m0 before e)) (before ++ e ∷ [])
next_tally m0 m before (Add table owner cells code points) tally land = record {
  tables = put_tables m (change_for m0 before (Add table owner cells code points)) ∙ tally.tables;
  counts = λ t. by_table m0 m before table owner cells code points t (table == t) tally land refl;
}
next_tally m0 m before (Replace method code points) tally land = record {
  tables = put_tables m (change_for m0 before (Replace method code points)) ∙ tally.tables;
  counts = λ t. by_method m0 m before method code points t (6 == t) tally land refl;
}

fits_one : (m0 m : Module) (before rest : List Edit) (e : Edit) → Puts m0 m before e → Fresh m0 (before ++ e ∷ []) rest → FitsOne m (change_for m0 before e) (changes_behind m0 (before ++ e ∷ []) rest)
unfolding rows_behind
fits_one m0 m before rest e p fresh = record {
  table = p.table;
  low = p.low;
  high = p.high;
  fresh = none_changed m0 (row_edited m0 before e) (before ++ e ∷ []) rest fresh (rw (rows_append m0 [] before (e ∷ [])) (among_last (row_edited m0 before e) (rows_edited m0 before)));
}

-- the rows of edits fit, one behind the other
pub fits_from : (c : Chain) (l : EditList) (m : Module) (before rest : List Edit) → BreakNothing c l → l.edits ≡ before ++ rest → Fresh c.plain before rest → Tally c.plain m before → Fits m (changes_behind c.plain before rest)
unfolding Fits changes_behind Fresh
fits_from c l m before [] none is fresh tally = tt
fits_from c l m before (e ∷ rest) none is fresh tally =
    let land = landed c l before rest e none is in
    (fits_one c.plain m before rest e (puts c.plain m before e tally land) fresh.1, fits_from c l (put m (change_for c.plain before e)) (before ++ e ∷ []) rest none (is ∙ sym (append_assoc before (e ∷ []) rest)) fresh.1 (next_tally c.plain m before e tally land))

-- and each table has so many rows then
pub tally_from : (c : Chain) (l : EditList) (m : Module) (before rest : List Edit) → BreakNothing c l → l.edits ≡ before ++ rest → Tally c.plain m before → Tally c.plain (apply m (changes_behind c.plain before rest)) (before ++ rest)
unfolding apply changes_behind
tally_from c l m before [] none is tally = rw (append-nil before) tally
tally_from c l m before (e ∷ rest) none is tally =
    let land = landed c l before rest e none is in
    rw (← append_assoc before (e ∷ []) rest) (tally_from c l (put m (change_for c.plain before e)) (before ++ e ∷ []) rest none (is ∙ sym (append_assoc before (e ∷ []) rest)) (next_tally c.plain m before e tally land))
