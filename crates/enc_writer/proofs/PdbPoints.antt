-- The points of a list that breaks no rule can be written, and the edits that give bodies are about methods.
use Rattle.std.proofs.Common.{◌≡◌, ℕ, suc, ◌+◌, ◌*◌, ◌%◌, ◌<◌, Bool, true, false, List, [], ◌∷◌, length, take, Option, Some, None, refl, sym, ap, subst, ◌∙◌, arith}
use Rattle.std.specs.Prelude.{◌^◌, ◌&&◌, ◌||◌, ◌==◌, not, nat_lt, nat_le, sum_by, is_ok, is_some, slice_get}
use Rattle.std.specs.List.{list_any, list_all}
use Rattle.std.proofs.lemmas.Bool.{and_parts, both_ways, eqb-true}
use Rattle.std.proofs.lemmas.Bool.Decides.{nat_tests}
use Rattle.std.proofs.lemmas.List.Sums.{sum_by-cons}
use Rattle.enc_base.specs.Token.{is_token}
use Rattle.enc_base.specs.declared.token.Token.{Token}
use Rattle.enc_base.specs.Tables as tables
use Rattle.enc_seqpoints.specs.Spelling.{blob_of}
use Rattle.enc_plain.specs.Chain.{Chain}
use Rattle.enc_plain.specs.Rows.{Rows, number_at}
use Rattle.enc_schema.specs.Columns as columns
use Rattle.enc_edit_list.specs.Form.{edit_fits, is_known_table, owner_fits, cells_fit, stated_columns}
use Rattle.enc_edit_list.specs.Sizes.{length_of_code}
use Rattle.enc_edit_list.specs.declared.body.BodyValue.{BodyValue}
use Rattle.enc_edit_list.specs.declared.edit.Edit.{Edit}
use Rattle.enc_edit_list.specs.declared.edit.Edit.TheVariants.{Add, Body as Replace}
use Rattle.enc_edit_list.specs.declared.edit.EditList.{EditList}
use Rattle.enc_rules.specs.Edited.{rows_edited}
use Rattle.enc_rules.specs.Listed.{body_given, points_given, count_after, rows_listed}
use Rattle.enc_rules.specs.Rules.{room_of, room_of_edit, gives_body, is_il, body_is_missing_or_stands, body_is_broken, has_document, has_points, room_of_points, room_of_document, points_are_bad}
use Rattle.enc_rules.proofs.RowsEdited.{row_there, rows_all}
use Rattle.enc_memory_module.proofs.AddedRow.{form_at}
use Rattle.enc_memory_module.proofs.Landed.{apart}
use Rattle.enc_pdb_writer.specs.Stated.{locals_row, edit_points_stand, points_stand, AreMethods}
use Rattle.enc_pdb_writer.proofs.Lists.{all_of_each}
use Rattle.enc_list_delta.specs.Holds.{MayFollow}
use Rattle.enc_list_delta.proofs.TokensAbout.{stands_after, edit_about, self}
use Rattle.enc_list_delta.proofs.TokensUnbroken.{nothing_breaks, other_rules, counts_fit}
use Rattle.enc_writer.specs.PdbFollows.{PointsCanBeWritten}
use Rattle.enc_writer.proofs.BodiesGiven.{some_room, given, can}

-- an edit gives a body exactly where it has one
pub body_gives : (e : Edit) (o : Option BodyValue) → body_given e ≡ o → gives_body e ≡ is_some o
body_gives e None is = ap (λ (o : Option BodyValue). nat_lt 0 (room_of o)) is
body_gives e (Some b) is = ap (λ (o : Option BodyValue). nat_lt 0 (room_of o)) is ∙ some_room (length_of_code b.code) (28 * length b.clauses)

-- its row is a method (E16)
il_of : (gives il stands long : Bool) → gives ≡ true → (gives && (not il || not stands || long)) ≡ false → il ≡ true
il_of true true stands long is h = refl
il_of true false stands long is h = absurd cc
il_of false il stands long is h = absurd cc

il_table : (rows : Rows) (t : Token) → is_il rows t ≡ true → t.table ≡ tables.method_def
il_table rows t h = eqb-true t.table tables.method_def (and_parts (t.table == tables.method_def) (number_at rows t columns.method_def_impl_flags % 4 == 0) h).0

pub gives_method : (c : Chain) (l : EditList) (k : ℕ) (e : Edit) (u : Token) → MayFollow c l → slice_get l.edits k ≡ Some e → slice_get (rows_edited c.plain l.edits) k ≡ Some u → gives_body e ≡ true → u.table ≡ tables.method_def
unfolding body_is_broken
gives_method c l k e u may there row gives =
    let rule = rw (there, row) at ((nothing_breaks c l may).bodies k) in
    il_table (rows_listed c l.edits) u
    (il_of (gives_body e) (is_il (rows_listed c l.edits) u) (body_is_missing_or_stands (count_after c l.edits) (body_given e)) (nat_le (2 ^ 32) (sum_by room_of_edit (take (k + 1) l.edits))) gives rule)

-- an edit with points gives a body
none_has : (n : ℕ) → (n == 0) ≡ true → nat_lt 0 n ≡ true → ⊥
none_has n none some =
    let zero_ : n ≡ 0 = grind (arith, nat_tests, none) in
    let low : 0 < n = grind (arith, nat_tests, some) in
    absurd (omega (arith, zero_, low))

points_body : (e : Edit) → edit_fits e ≡ true → has_points e ≡ true → (b : BodyValue) × (body_given e ≡ Some b)
unfolding edit_fits
points_body (Add table owner cells None points) form some =
    absurd (none_has (length points) (and_parts (is_known_table table && owner_fits table owner && cells_fit (stated_columns table) cells) (length points == 0) form).1 some)
points_body (Add table owner cells (Some code) points) form some = (code, refl)
points_body (Replace method code points) form some = (code, refl)

-- the edits are about methods where they have points, and no two give one method its body (E6)
are_methods : (c : Chain) (l : EditList) → MayFollow c l → AreMethods (rows_edited c.plain l.edits) l.edits
are_methods c l may = record {
  many = rows_all c.plain l.edits;
  each = λ k e t there row some.
      let body = points_body e (form_at l k e may.form there) some in
      let after = stands_after c l t (nothing_breaks c l may) (edit_about c.plain l.edits k t row) in
      let few = counts_fit c l may t.table in
      let low = (can c l k body.0 may (given c l k e body.0 may there body.1)).row in
      (gives_method c l k e t may there row (body_gives e (Some body.0) body.1), omega (arith, after.low), omega (arith, after.high, few), subst (λ (o : Option BodyValue). locals_row o < 2 ^ 24) (sym body.1) low);
  once = λ i k d e t low there here gives also row same. both_ways (is_token t t) (apart c l i k d e t t (nothing_breaks c l may) there here row same low) (self t);
}

-- what E22 says of an edit with points
good_points : (some ok documents long : Bool) → some ≡ true → (some && (not ok || not documents || long)) ≡ false → (ok ≡ true) × (documents ≡ true) × (long ≡ false)
good_points true true true false is h = (refl, refl, refl)
good_points true true true true is h = absurd cc
good_points true true false long is h = absurd cc
good_points true false documents long is h = absurd cc
good_points false ok documents long is h = absurd cc

-- the bytes that the PDB takes with the first edits
abbrev bytes_with : EditList → ℕ → ℕ
bytes_with l n = 0x10000 + sum_by room_of_points (take n l.edits) + sum_by room_of_document l.documents

points_said : (c : Chain) (l : EditList) (k : ℕ) (e : Edit) → MayFollow c l → slice_get l.edits k ≡ Some e → has_points e ≡ true
    → (is_ok (blob_of 0 0 (points_given e)) ≡ true) × (list_all (has_document (length l.documents)) (points_given e) ≡ true) × (nat_lt (2 ^ 29) (bytes_with l (k + 1)) ≡ false)
unfolding points_are_bad
points_said c l k e may there some =
    let rule = rw (there, row_there c.plain l.edits k e there) at ((other_rules c l may).points k) in
    good_points (has_points e) (is_ok (blob_of 0 0 (points_given e))) (list_all (has_document (length l.documents)) (points_given e)) (nat_lt (2 ^ 29) (bytes_with l (k + 1))) some rule

stand_by : (some ok documents : Bool) → (some ≡ true → (ok ≡ true) × (documents ≡ true)) → (not some || (ok && documents)) ≡ true
stand_by false ok documents said = refl
stand_by true ok documents said = let w = said refl in rw (w.0, w.1) refl

edit_stands : (c : Chain) (l : EditList) (k : ℕ) (e : Edit) → MayFollow c l → slice_get l.edits k ≡ Some e → edit_points_stand (length l.documents) e ≡ true
edit_stands c l k e may there = stand_by (has_points e) (is_ok (blob_of 0 0 (points_given e))) (list_all (has_document (length l.documents)) (points_given e)) (λ some. let w = points_said c l k e may there some in (w.0, w.1))

-- the last edit with points: those up to it have the room of all
record LastPoints (edits : List Edit) : Type 0 where
  place : ℕ
  edit : Edit
  here : slice_get edits place ≡ Some edit
  points : has_points edit ≡ true
  room : sum_by room_of_points (take (place + 1) edits) ≡ sum_by room_of_points edits

without : (e : Edit) → has_points e ≡ false → room_of_points e ≡ 0
without e none = rw none refl

no_room : (edits : List Edit) → list_any has_points edits ≡ false → sum_by room_of_points edits ≡ 0
no_room [] none = refl
no_room (e ∷ edits) none = by (has_points e) refl none (no_room edits)
  where
    by : (b : Bool) → has_points e ≡ b → (b || list_any has_points edits) ≡ false → (list_any has_points edits ≡ false → sum_by room_of_points edits ≡ 0) → sum_by room_of_points (e ∷ edits) ≡ 0
    by true is h more = absurd cc
    by false is h more = sum_by-cons room_of_points e edits ∙ omega (arith, without e is, more h)

more_room : (e : Edit) (some all : List Edit) → sum_by room_of_points some ≡ sum_by room_of_points all → sum_by room_of_points (e ∷ some) ≡ sum_by room_of_points (e ∷ all)
more_room e some all same = sum_by-cons room_of_points e some ∙ ap (λ n. room_of_points e + n) same ∙ sym (sum_by-cons room_of_points e all)

first_of : (a : Bool) → (a || false) ≡ true → a ≡ true
first_of true h = refl
first_of false h = h

last_points : (edits : List Edit) → list_any has_points edits ≡ true → LastPoints edits
last_points [] some = absurd cc
last_points (e ∷ edits) some = by (list_any has_points edits) refl (last_points edits) some
  where
    by : (b : Bool) → list_any has_points edits ≡ b → (list_any has_points edits ≡ true → LastPoints edits) → (has_points e || b) ≡ true → LastPoints (e ∷ edits)
    by true is later h =
        let w = later is in
        let n : suc w.place + 1 ≡ suc (w.place + 1) = omega arith in
        let room = ap (λ n. sum_by room_of_points (take n (e ∷ edits))) n ∙ more_room e (take (w.place + 1) edits) edits w.room in
        record { place = suc w.place; edit = w.edit; here = w.here; points = w.points; room = room }
    by false is later h = record { place = 0; edit = e; here = refl; points = first_of (has_points e) h; room = more_room e [] edits (sym (no_room edits is)) }

can_be_held : (c : Chain) (l : EditList) → MayFollow c l → (b : Bool) → list_any has_points l.edits ≡ b
    → (not b || nat_le (0x10000 + sum_by room_of_points l.edits + sum_by room_of_document l.documents) (2 ^ 29)) ≡ true
can_be_held c l may false is = refl
can_be_held c l may true is =
    let w = last_points l.edits is in
    let all = w.room in
    let low = (points_said c l w.place w.edit may w.here w.points).2 in
    grind (arith, nat_tests, all, low)

pub points_can_be_written : PointsCanBeWritten
unfolding points_stand
points_can_be_written c l may =
    let each : list_all (edit_points_stand (length l.documents)) l.edits ≡ true = all_of_each (edit_points_stand (length l.documents)) l.edits (λ k e there. edit_stands c l k e may there) in
    ((rw (each, can_be_held c l may (list_any has_points l.edits) refl) refl), are_methods c l may)
