-- The points that are read stand in the code of their body.
use Rattle.std.proofs.Common.{◌≡◌, ℕ, zero, suc, ◌+◌, ◌<◌, ◌≤◌, arith, List, [], ◌∷◌, inl, inr, Option, Some, None, Result, Ok, Err, Bool, true, false, refl, sym, ap}
use Rattle.std.specs.Prelude.{nat_le, nat_lt, option_and_then, IfOk, if◌then◌else◌, slice_get, bytes_eq, codes, is_some}
use Rattle.std.specs.List.{list_all}
use Rattle.std.proofs.lemmas.Bool.Decides.{nat_tests}
use Rattle.std.proofs.lemmas.Bool.{and_from}
use Rattle.serde_json.specs.Data.{Data}
use Rattle.serde_json.specs.Find.{get, as_str, as_bool}
use Rattle.enc_seqpoints.specs.declared.point.Point.{Point}
use Rattle.enc_opcodes.specs.Sound.{operand_size, instruction_size}
use Rattle.enc_edit_list.specs.declared.body.BodyValue.{BodyValue}
use Rattle.enc_edit_list.specs.declared.body.InstrValue.{InstrValue}
use Rattle.enc_edit_list.specs.declared.edit.Edit.{Edit}
use Rattle.enc_edit_list.specs.declared.edit.Edit.TheVariants.{Add, Body}
use Rattle.enc_edit_list.specs.declared.edit.EditList.{EditList}
use Rattle.enc_edit_list.specs.Form.{stated_columns}
use Rattle.enc_edit_list.specs.Sizes.{arg_meant, instr_meant, length_of_code}
use Rattle.enc_pdb_writer.specs.Stated.{stands_within, points_lie_within}
use Rattle.enc_jobs.specs.declared.code.InstrCode.{InstrCode}
use Rattle.enc_jobs.specs.declared.code.Offsets.{Offsets}
use Rattle.enc_jobs.specs.declared.body.Placed.{Placed}
use Rattle.enc_jobs.specs.declared.body.Method.{Method}
use Rattle.enc_jobs.specs.declared.fault.JobFault.{JobFault}
use Rattle.enc_jobs.specs.Outcome.{GivesList}
use Rattle.enc_jobs.specs.Json.{elements_of, has_only, at_key_or, number_said, word_said, token_said, pair_said}
use Rattle.enc_jobs.specs.Code.{within_word, offsets_of, code_said}
use Rattle.enc_jobs.specs.Clause.{clauses_said}
use Rattle.enc_jobs.specs.Points.{at_said, hidden_said, shown_said, point_said, points_from, points_said}
use Rattle.enc_jobs.specs.Body.{body_said, method_said, method_said_if}
use Rattle.enc_jobs.specs.Cell.{cells_said}
use Rattle.enc_jobs.specs.Edits.{table_named, add_keys, owner_said, add_to_said, add_said, replace_said, edit_of_kind, edit_said, edits_said}
use Rattle.enc_jobs.specs.Laws.{PointsLie}
use Rattle.enc_jobs.proofs.Inverse.{map_some, then_some, if_some, either_some}
use Rattle.enc_jobs.proofs.Places.{places, places_front, places_none, size_front}
use Rattle.enc_jobs.proofs.Standing.{stands}
use Rattle.enc_jobs.proofs.EditForms.{no_points_if, said_have}

-- an instruction has at least one byte
some_byte : (b : Bool) (n : ℕ) → 1 ≤ (if b then 2 else 1) + n
some_byte true n = omega arith
some_byte false n = omega arith

has_byte : (i : InstrValue) → 1 ≤ instruction_size (instr_meant i)
unfolding instruction_size
has_byte i = some_byte (nat_le 0xFE00 i.op.byte) (operand_size i.op.operand (arg_meant i.arg))

-- where an instruction begins, there is code
first_is : (at t : ℕ) (rest : List ℕ) → slice_get (at ∷ rest) 0 ≡ Some t → at ≡ t
first_is at t rest h = cc

none_at : {A : Type 0} (xs : List ℕ) (k t : ℕ) → xs ≡ [] → slice_get xs k ≡ Some t → A
none_at [] k t e h = absurd (cc)
none_at (x ∷ xs) k t e h = absurd (cc)

place_low : (code : List InstrValue) (at k t : ℕ) → slice_get (places at code) k ≡ Some t → t < at + length_of_code code
place_low [] at k t h = none_at (places at []) k t (places_none at) h
place_low (x ∷ code) at zero t h =
    let e = first_is at t (places (at + instruction_size (instr_meant x)) code) (rw (places_front at x code) at h) in
    omega (arith, e, has_byte x, size_front x code)
place_low (x ∷ code) at (suc k) t h =
    let low = place_low code (at + instruction_size (instr_meant x)) k t (rw (places_front at x code) at h) in
    omega (arith, low, size_front x code)

-- offsets of which each is below a number
abbrev AreBelow : List ℕ → ℕ → Type 0
AreBelow starts n = (k t : ℕ) → slice_get starts k ≡ Some t → t < n

code_low : (c : InstrCode) → offsets_of c.instrs ≡ Some c.offsets → AreBelow c.offsets.starts (length_of_code c.instrs)
unfolding offsets_of
code_low c is k t h =
    let w = map_some _ (within_word (length_of_code c.instrs)) c.offsets is in
    let e = ap (λ (o : Offsets). o.starts) w.2 in
    let low = place_low c.instrs 0 k t (rw e h) in
    omega (arith, low)

body_low : (d : Data) (p : Placed) → body_said d ≡ Some p → AreBelow p.starts (length_of_code p.body.code)
unfolding body_said
body_low d p h =
    let w = if_some (has_only (codes "max" ∷ codes "code" ∷ codes "init" ∷ codes "locals" ∷ codes "clauses" ∷ []) d) _ p h in
    let max = then_some (option_and_then (number_said 0xFFFF) (get (codes "max") d)) _ p w.1 in
    let init = then_some (at_key_or false as_bool (get (codes "init") d)) _ p max.2 in
    let locals = then_some (at_key_or _ token_said (get (codes "locals") d)) _ p init.2 in
    let code = then_some (option_and_then code_said (get (codes "code") d)) _ p locals.2 in
    let clauses = then_some (at_key_or [] (clauses_said code.0.offsets) (get (codes "clauses") d)) _ p code.2 in
    let there = then_some (get (codes "code") d) code_said code.0 code.1 in
    let e = clauses.2 in
    let q : record { body = record { max = max.0; init = init.0; locals = locals.0; code = code.0.instrs; clauses = clauses.0 }; starts = code.0.offsets.starts } ≡ p = cc in
    rw (← q) (code_low code.0 (stands there.0 code.0 there.2))

-- such is the offset of a point
below : (a n : ℕ) → a < n → nat_lt a n ≡ true
below a n h = grind (arith, nat_tests, h)

at_low : (starts : List ℕ) (n : ℕ) → AreBelow starts n → (d : Data) (t : ℕ) → at_said starts d ≡ Some t → nat_lt t n ≡ true
unfolding at_said
at_low starts n low d t h = let w = then_some _ (slice_get starts) t h in below t n (low w.0 t w.2)

hidden_low : (starts : List ℕ) (n : ℕ) → AreBelow starts n → (document : ℕ) (d : Data) (p : Point) → hidden_said starts document d ≡ Some p → nat_lt p.offset n ≡ true
unfolding hidden_said
hidden_low starts n low document d p h =
    let w = if_some (has_only (codes "at" ∷ codes "hidden" ∷ []) d) _ p h in
    let o = then_some (at_said starts d) _ p w.1 in
    let g = then_some (option_and_then as_bool (get (codes "hidden") d)) _ p o.2 in
    let q = if_some g.0 (Some (record { offset = o.0; document = document; lines = None })) p g.2 in
    let e : record { offset = o.0; document = document; lines = None } ≡ p = cc in
    rw (← e) (at_low starts n low d o.0 o.1)

shown_low : (starts : List ℕ) (n : ℕ) → AreBelow starts n → (d : Data) (p : Point) → shown_said starts d ≡ Some p → nat_lt p.offset n ≡ true
unfolding shown_said
shown_low starts n low d p h =
    let w = if_some (has_only (codes "at" ∷ codes "document" ∷ codes "from" ∷ codes "to" ∷ []) d) _ p h in
    let o = then_some (at_said starts d) _ p w.1 in
    let document = then_some (option_and_then word_said (get (codes "document") d)) _ p o.2 in
    let from = then_some (option_and_then pair_said (get (codes "from") d)) _ p document.2 in
    let to = then_some (option_and_then pair_said (get (codes "to") d)) _ p from.2 in
    let e : record { offset = o.0; document = document.0; lines = Some (from.0.0, from.0.1, to.0.0, to.0.1) } ≡ p = cc in
    rw (← e) (at_low starts n low d o.0 o.1)

point_low : (starts : List ℕ) (n : ℕ) → AreBelow starts n → (document : ℕ) (d : Data) (p : Point) → point_said starts document d ≡ Some p → nat_lt p.offset n ≡ true
unfolding point_said
point_low starts n low document d p h =
    elim (either_some (is_some (get (codes "hidden") d)) _ _ p h) [
      | inl a ↦ hidden_low starts n low document d p a
      | inr a ↦ shown_low starts n low d p a
    ]

points_low : (starts : List ℕ) (b : BodyValue) → AreBelow starts (length_of_code b.code) → (document : ℕ) (ds : List Data) (ps : List Point) → points_from starts document ds ≡ Some ps → list_all (stands_within (Some b)) ps ≡ true
unfolding points_from
points_low starts b low document [] ps h = let e : [] ≡ ps = cc in rw (← e) refl
points_low starts b low document (d ∷ ds) ps h =
    let p = then_some (point_said starts document d) _ ps h in
    let r = map_some (λ (qs : List Point). p.0 ∷ qs) (points_from starts p.0.document ds) ps p.2 in
    rw (← r.2) (and_from (stands_within (Some b) p.0) (list_all (stands_within (Some b)) r.0) (point_low starts (length_of_code b.code) low document d p.0 p.1) (points_low starts b low p.0.document ds r.0 r.1))

said_low : (starts : List ℕ) (b : BodyValue) → AreBelow starts (length_of_code b.code) → (o : Option Data) (ps : List Point) → points_said starts o ≡ Some ps → list_all (stands_within (Some b)) ps ≡ true
unfolding points_said
said_low starts b low None ps h = let e : [] ≡ ps = cc in rw (← e) refl
said_low starts b low (Some d) ps h = let w = then_some (elements_of d) (points_from starts 1) ps h in points_low starts b low 1 w.0 ps w.2

method_low : (code : Data) (points : Option Data) (m : Method) → method_said code points ≡ Some m → list_all (stands_within (Some m.body)) m.points ≡ true
unfolding method_said
method_low code points m h =
    let p = then_some (body_said code) _ m h in
    let ps = then_some (points_said p.0.starts points) _ m p.2 in
    let e : record { body = p.0.body; points = ps.0 } ≡ m = cc in
    rw (← e) (said_low p.0.starts p.0.body (body_low code p.0 p.1) points ps.0 ps.1)

some_method : (code points : Option Data) (m : Option BodyValue × List Point) → method_said_if code points ≡ Some m → list_all (stands_within m.0) m.1 ≡ true
unfolding method_said_if
some_method None points m h =
    let w = map_some _ (points_said [] points) m h in
    let e : w.0 ≡ [] = no_points_if points w.0 w.1 in
    rw (← w.2) (rw e refl)
some_method (Some code) points m h =
    let w = map_some _ (method_said code points) m h in
    rw (← w.2) (method_low code points w.0 w.1)

-- so it is of the points of each edit
add_low : (d : Data) (table : ℕ) (e : Edit) → add_to_said d table ≡ Some e → points_lie_within e ≡ true
unfolding add_to_said
add_low d table e h =
    let w = if_some (has_only (add_keys table) d) _ e h in
    let owner = then_some (owner_said table d) _ e w.1 in
    let items = then_some (option_and_then elements_of (get (codes "cells") d)) _ e owner.2 in
    let cells = then_some (cells_said (stated_columns table) items.0) _ e items.2 in
    let m = then_some (method_said_if (get (codes "code") d) (get (codes "points") d)) _ e cells.2 in
    let q : Add table owner.0 cells.0 m.0.0 m.0.1 ≡ e = cc in
    rw (← q) (some_method (get (codes "code") d) (get (codes "points") d) m.0 m.1)

added_low : (d : Data) (e : Edit) → add_said d ≡ Some e → points_lie_within e ≡ true
unfolding add_said
added_low d e h =
    let table = then_some (option_and_then table_named (option_and_then as_str (get (codes "table") d))) (add_to_said d) e h in
    add_low d table.0 e table.2

replace_low : (d : Data) (e : Edit) → replace_said d ≡ Some e → points_lie_within e ≡ true
unfolding replace_said
replace_low d e h =
    let w = if_some (has_only (codes "do" ∷ codes "method" ∷ codes "code" ∷ codes "points" ∷ []) d) _ e h in
    let method = then_some (option_and_then token_said (get (codes "method") d)) _ e w.1 in
    let code = then_some (get (codes "code") d) _ e method.2 in
    let m = then_some (method_said code.0 (get (codes "points") d)) _ e code.2 in
    let q : Body method.0 m.0.body m.0.points ≡ e = cc in
    rw (← q) (method_low code.0 (get (codes "points") d) m.0 m.1)

kind_low : (d : Data) (kind : List ℕ) (e : Edit) → edit_of_kind d kind ≡ Some e → points_lie_within e ≡ true
kind_low d kind e h =
    elim (either_some (bytes_eq kind (codes "add")) _ _ e h) [
      | inl w ↦ added_low d e w
      | inr w ↦ replace_low d e ((if_some (bytes_eq kind (codes "body")) _ e w).1)
    ]

edit_low : (d : Data) (e : Edit) → edit_said d ≡ Some e → points_lie_within e ≡ true
unfolding edit_said
edit_low d e h =
    let kind = then_some (option_and_then as_str (get (codes "do") d)) (edit_of_kind d) e h in
    kind_low d kind.0 e kind.2

pub points_lie : PointsLie
points_lie text list h = said_have points_lie_within edit_low text list h

-- the points that are read stand in the code
pub given_lie : PointsLie → (text : List ℕ) (r : Result EditList JobFault) → GivesList r (edits_said text) → IfOk r (λ l. list_all points_lie_within l.edits ≡ true)
given_lie law text (Ok list) h = law text list h
given_lie law text (Err fault) h = tt
