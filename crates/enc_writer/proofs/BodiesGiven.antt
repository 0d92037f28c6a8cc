-- A body that an edit gives can be written, and then stands in the code.
use Rattle.std.proofs.Common.{◌≡◌, ℕ, ◌+◌, ◌*◌, ◌<◌, ◌≤◌, Bool, true, false, List, [], ◌∷◌, ◌++◌, length, map, take, Option, Some, None, option_map, refl, sym, ap, subst, ◌∙◌, arith, Result, Ok, Err}
use Rattle.std.specs.Prelude.{◌^◌, ◌&&◌, ◌||◌, ◌==◌, not, nat_lt, nat_le, sum_by, option_and_then, slice_get, OnOk, IfOk}
use Rattle.std.specs.List.{list_all}
use Rattle.std.proofs.lemmas.Bool.{and_parts, and_from}
use Rattle.std.proofs.lemmas.Bool.Decides.{nat_tests}
use Rattle.std.proofs.lemmas.List.{length-append}
use Rattle.std.proofs.lemmas.List.Sums.{sum_by-append, sum_by-cons}
use Rattle.enc_meta.specs.Built.{Built, user_offset}
use Rattle.enc_meta.specs.BuiltLaws.{IsGood}
use Rattle.enc_meta.proofs.BuiltMeanings.{users_are_read}
use Rattle.enc_base.specs.Tables as tables
use Rattle.enc_opcodes.specs.Clause.{clauses_of}
use Rattle.enc_opcodes.specs.Instruction.{Instruction, instructions_of}
use Rattle.enc_opcodes.specs.Body.{Code, Body, instruction_told, handler_meant, body_of, is_good, text_is_there, texts_are_there}
use Rattle.enc_opcodes.specs.Sound.{body_is_sound}
use Rattle.enc_il.specs.Written.{IsWritable, code_again, sections_written}
use Rattle.enc_il.proofs.ClausesWritten.{clauses_are_read}
use Rattle.enc_plain.specs.Bodies.{body_loaded, code_is_good}
use Rattle.enc_plain.specs.Chain.{Chain}
use Rattle.enc_edit_list.specs.declared.body.BodyValue.{BodyValue}
use Rattle.enc_edit_list.specs.declared.body.InstrValue.{InstrValue}
use Rattle.enc_edit_list.specs.declared.edit.Edit.{Edit}
use Rattle.enc_edit_list.specs.declared.edit.Edit.TheVariants.{Add, Body as Replace}
use Rattle.enc_edit_list.specs.declared.edit.EditList.{EditList}
use Rattle.enc_edit_list.specs.Form.{instr_fits, clause_is_stated, body_fits, edit_fits, is_known_table, owner_fits, cells_fit, stated_columns}
use Rattle.enc_edit_list.specs.Reach.{branches_reach}
use Rattle.enc_edit_list.specs.Sizes.{length_of_code, placed}
use Rattle.enc_rules.specs.Edited.{body_stated, row_edited}
use Rattle.enc_rules.specs.Listed.{body_given, count_after, rows_listed}
use Rattle.enc_rules.specs.Rules.{room_of, room_of_edit, is_il, given_stands, body_is_broken}
use Rattle.enc_rules.proofs.RowsEdited.{row_there, take_next}
use Rattle.enc_memory_module.proofs.AddedRow.{form_at}
use Rattle.enc_assembly.specs.Assembly.{AssembledIsRead, code_bytes, text_is_kept}
use Rattle.enc_list_delta.specs.Holds.{MayFollow, StandsIn, heaps_written}
use Rattle.enc_list_delta.proofs.TokensUnbroken.{nothing_breaks, counts_fit}
use Rattle.enc_writer.specs.BodiesWriting.{CanBeWritten, HasWidths, HasRoom, parts_of, place_given, with_given, users_written, StandsFirm, StandsOf}
use Rattle.enc_writer.proofs.BodiesAssembled.{AreRead, all_told, all_there, body_small, locals_low}
use Rattle.enc_writer.proofs.HeapsPast.{chain_past}
use Rattle.enc_writer.proofs.BodiesKept.{body_kept, user_low}
use Rattle.enc_writer.proofs.BodiesSound.{sound_is_good}
use Rattle.enc_writer.proofs.BodiesStanding.{place_behind, code_stands, with_grows}

-- what the form and the rules say of a body that the edit at a place gives (E16)
pub record IsGiven (c : Chain) (l : EditList) (k : ℕ) (b : BodyValue) : Type 0 where
  pub fits : list_all instr_fits b.code ≡ true
  pub kinds : list_all clause_is_stated b.clauses ≡ true
  pub kept : list_all (λ (i : InstrValue). text_is_kept (heaps_written c l) i.arg) b.code ≡ true
  pub sound : body_is_sound (count_after c l.edits) (body_stated b) ≡ true
  pub reach : branches_reach 0 b.code ≡ true
  pub room : sum_by room_of_edit (take k l.edits) + room_of (Some b) < 2 ^ 32

form_of : (e : Edit) (b : BodyValue) → body_given e ≡ Some b → edit_fits e ≡ true → body_fits b ≡ true
unfolding edit_fits
form_of (Add table owner cells None points) b given form = absurd cc
form_of (Add table owner cells (Some code) points) b given form =
    let same : code ≡ b = cc in
    let a = and_parts (is_known_table table && owner_fits table owner && cells_fit (stated_columns table) cells) (table == tables.method_def && body_fits code) form in
    ap body_fits (sym same) ∙ (and_parts (table == tables.method_def) (body_fits code) a.1).1
form_of (Replace method code points) b given form = let same : code ≡ b = cc in ap body_fits (sym same) ∙ form

parts_fit : (b : BodyValue) → body_fits b ≡ true → (list_all instr_fits b.code ≡ true) × (list_all clause_is_stated b.clauses ≡ true)
unfolding body_fits
parts_fit b form = and_parts (list_all instr_fits b.code) (list_all clause_is_stated b.clauses) form

-- the room of one edit more
pub room_more : (l : EditList) (k : ℕ) (e : Edit) → slice_get l.edits k ≡ Some e → sum_by room_of_edit (take (k + 1) l.edits) ≡ sum_by room_of_edit (take k l.edits) + room_of (body_given e)
room_more l k e there =
    ap (sum_by room_of_edit) (take_next l.edits k e there)
    ∙ sum_by-append room_of_edit (take k l.edits) (e ∷ [])
    ∙ ap (λ n. sum_by room_of_edit (take k l.edits) + n) (sum_by-cons room_of_edit e [] ∙ omega arith)

pub some_room : (code clauses : ℕ) → nat_lt 0 (code + 64 + clauses) ≡ true
some_room code clauses = grind (arith, nat_tests)

unbroken : (gives il stands long : Bool) → gives ≡ true → (gives && (not il || not stands || long)) ≡ false → (stands ≡ true) × (long ≡ false)
unbroken true true true false is h = (refl, refl)
unbroken true true true true is h = absurd cc
unbroken true true false long is h = absurd cc
unbroken true false stands long is h = absurd cc
unbroken false il stands long is h = absurd cc

rules_of : (c : Chain) (l : EditList) (k : ℕ) (e : Edit) (b : BodyValue) → MayFollow c l → slice_get l.edits k ≡ Some e → body_given e ≡ Some b
    → (given_stands (count_after c l.edits) b ≡ true) × (nat_le (2 ^ 32) (sum_by room_of_edit (take (k + 1) l.edits)) ≡ false)
unfolding body_is_broken
rules_of c l k e b may there is =
    let rule = rw (there, row_there c.plain l.edits k e there) at ((nothing_breaks c l may).bodies k) in
    let said = rw is at rule in
    unbroken (nat_lt 0 (length_of_code b.code + 64 + 28 * length b.clauses)) (is_il (rows_listed c l.edits) (row_edited c.plain (take k l.edits) e)) (given_stands (count_after c l.edits) b) (nat_le (2 ^ 32) (sum_by room_of_edit (take (k + 1) l.edits)))
    (some_room (length_of_code b.code) (28 * length b.clauses)) said

stands_of : (count : ℕ → ℕ) (b : BodyValue) → given_stands count b ≡ true → (body_is_sound count (body_stated b) ≡ true) × (branches_reach 0 b.code ≡ true)
unfolding given_stands
stands_of count b h = and_parts (body_is_sound count (body_stated b)) (branches_reach 0 b.code) h

below : (limit n : ℕ) → nat_le limit n ≡ false → n < limit
below limit n h = grind (arith, nat_tests, h)

pub given : (c : Chain) (l : EditList) (k : ℕ) (e : Edit) (b : BodyValue) → MayFollow c l → slice_get l.edits k ≡ Some e → body_given e ≡ Some b → IsGiven c l k b
given c l k e b may there is =
    let form = parts_fit b (form_of e b is (form_at l k e may.form there)) in
    let rules = rules_of c l k e b may there is in
    let stands = stands_of (count_after c l.edits) b rules.0 in
    record {
      fits = form.0;
      kinds = form.1;
      kept = body_kept c l k e b there is;
      sound = stands.0;
      reach = stands.1;
      room = omega (arith, room_more l k e there, ap room_of is, below (2 ^ 32) (sum_by room_of_edit (take (k + 1) l.edits)) rules.1);
    }

-- so it can be written
pub can : (c : Chain) (l : EditList) (k : ℕ) (b : BodyValue) → MayFollow c l → IsGiven c l k b → CanBeWritten (heaps_written c l) b
can c l k b may is = record {
  fits = is.fits;
  small = body_small (heaps_written c l) (count_after c l.edits) b (counts_fit c l may) (λ v kept. user_low c l v may kept) is.kept (omega (arith, is.room)) is.sound;
  kept = is.kept;
  row = locals_low (count_after c l.edits) b (counts_fit c l may) is.sound;
}

-- its user texts are read in the joined heaps
users_read : (c : Chain) (l : EditList) → IsGood (heaps_written c l) → AreRead (heaps_written c l) (users_written c l)
users_read c l good v kept = users_are_read c.heaps (heaps_written c l) v good (chain_past c l) kept

-- what is written means what was stated
meant : AssembledIsRead → (c : Chain) (l : EditList) (k : ℕ) (b : BodyValue) → MayFollow c l → IsGood (heaps_written c l) → IsGiven c l k b → HasWidths b
    → body_of (users_written c l) (code_again (parts_of (heaps_written c l) b) b.clauses) ≡ body_stated b
unfolding body_of body_stated
meant assembled c l k b may good is widths =
    let h = heaps_written c l in
    let users = users_written c l in
    let read = assembled (user_offset h) b.code is.fits is.reach (can c l k b may is).small (omega (arith, is.room)) in
    let told : map (instruction_told users) (instructions_of (code_bytes (user_offset h) 0 b.code)) ≡ placed 0 b.code =
    ap (map (instruction_told users)) read.0 ∙ all_told h users 0 b.code (users_read c l good) is.kept in
    let handlers : map handler_meant (clauses_of (sections_written b.clauses)) ≡ map handler_meant b.clauses = ap (map handler_meant) (clauses_are_read b.clauses widths.clauses) in
    rw (read.2, told, handlers) refl

good_code : AssembledIsRead → (c : Chain) (l : EditList) (k : ℕ) (b : BodyValue) → MayFollow c l → IsGood (heaps_written c l) → IsGiven c l k b → HasWidths b
    → is_good (count_after c l.edits) (code_again (parts_of (heaps_written c l) b) b.clauses) ≡ true
good_code assembled c l k b may good is widths =
    let h = heaps_written c l in
    let read = assembled (user_offset h) b.code is.fits is.reach (can c l k b may is).small (omega (arith, is.room)) in
    sound_is_good (users_written c l) (count_after c l.edits) (code_again (parts_of h b) b.clauses) (read.1 ∙ sym read.2)
    (ap (list_all clause_is_stated) (clauses_are_read b.clauses widths.clauses) ∙ is.kinds)
    (ap (body_is_sound (count_after c l.edits)) (meant assembled c l k b may good is widths) ∙ is.sound)

texts_there : AssembledIsRead → (c : Chain) (l : EditList) (k : ℕ) (b : BodyValue) → MayFollow c l → IsGood (heaps_written c l) → IsGiven c l k b
    → texts_are_there (users_written c l) (code_bytes (user_offset (heaps_written c l)) 0 b.code) ≡ true
unfolding texts_are_there
texts_there assembled c l k b may good is =
    let h = heaps_written c l in
    let read = assembled (user_offset h) b.code is.fits is.reach (can c l k b may is).small (omega (arith, is.room)) in
    ap (list_all (λ (x : ℕ × Instruction ℕ). text_is_there (users_written c l) x.1.arg)) read.0 ∙ all_there h (users_written c l) 0 b.code (users_read c l good) is.kept

writable : AssembledIsRead → (c : Chain) (l : EditList) (k : ℕ) (b : BodyValue) → MayFollow c l → IsGiven c l k b → HasWidths b → IsWritable (parts_of (heaps_written c l) b) b.clauses
writable assembled c l k b may is widths =
    let w = can c l k b may is in
    let read = assembled (user_offset (heaps_written c l)) b.code is.fits is.reach w.small (omega (arith, is.room)) in
    record { max = widths.max; table = widths.table; row = w.row; size = omega (arith, read.2, is.room); sections = omega (arith, is.room) }

-- and stands where it was written to, whatever comes behind
pub stands : AssembledIsRead → (c : Chain) (l : EditList) (k : ℕ) (b : BodyValue) (il behind : List ℕ) → MayFollow c l → IsGood (heaps_written c l) → IsGiven c l k b → HasWidths b → 0 < length il
    → StandsIn (count_after c l.edits) (users_written c l) (with_given (heaps_written c l) il b ++ behind) (place_given (heaps_written c l) (length il) b) (body_stated b)
unfolding body_loaded
stands assembled c l k b il behind may good is widths some =
    let parts = parts_of (heaps_written c l) b in
    let users = users_written c l in
    let there = code_stands il behind parts b.clauses (writable assembled c l k b may is widths) some in
    record {
      some = omega (arith, some, place_behind (length il) parts b.clauses);
      meant = ap (λ (o : Option Code). option_map (body_of users) o) there ∙ ap (λ (x : Body). Some x) (meant assembled c l k b may good is widths);
      good = ap (code_is_good (count_after c l.edits) users) there
          ∙ and_from _ _ (good_code assembled c l k b may good is widths) (texts_there assembled c l k b may good is);
    }

-- the body of the edit at a place
given_at : (l : EditList) (k : ℕ) (e : Edit) (o : Option BodyValue) → slice_get l.edits k ≡ Some e → body_given e ≡ o → option_and_then body_given (slice_get l.edits k) ≡ o
given_at l k e o there is = ap (option_and_then body_given) there ∙ is

pub stands_of_edit : AssembledIsRead → (c : Chain) (l : EditList) (k place : ℕ) (e : Edit) (b : BodyValue) (il new : List ℕ) → MayFollow c l → IsGood (heaps_written c l) → HasWidths b → slice_get l.edits k ≡ Some e → body_given e ≡ Some b → 0 < length il
    → new ≡ with_given (heaps_written c l) il b → place ≡ place_given (heaps_written c l) (length il) b → StandsOf c l new place k
stands_of_edit assembled c l k place e b il new may good widths there is some written at =
    let count = count_after c l.edits in
    let users = users_written c l in
    subst (StandsFirm c l new place) (sym (given_at l k e (Some b) there is)) (λ behind.
    subst (λ xs. StandsIn count users (xs ++ behind) place (body_stated b)) (sym written)
    (subst (λ p. StandsIn count users (with_given (heaps_written c l) il b ++ behind) p (body_stated b)) (sym at)
    (stands assembled c l k b il behind may good (given c l k e b may there is) widths some)))

pub none_of_edit : (c : Chain) (l : EditList) (k : ℕ) (e : Edit) (il : List ℕ) → slice_get l.edits k ≡ Some e → body_given e ≡ None → StandsOf c l il 0 k
none_of_edit c l k e il there is = subst (StandsFirm c l il 0) (sym (given_at l k e None there is)) refl

-- the code before it stays
pub given_grows : (h : Built) (b : BodyValue) (il new : List ℕ) → new ≡ with_given h il b → (rest : List ℕ) × (new ≡ il ++ rest)
given_grows h b il new written = let more = with_grows il (parts_of h b) b.clauses in (more.0, written ∙ more.1)

-- room is left for the others
pub room_before : (c : Chain) (l : EditList) (k : ℕ) (e : Edit) (b : BodyValue) (il : List ℕ) → MayFollow c l → slice_get l.edits k ≡ Some e → body_given e ≡ Some b → HasRoom l k il → length il + room_of (Some b) < 2 ^ 32 + 32
room_before c l k e b il may there is has = omega (arith, has.room, (given c l k e b may there is).room)

pub room_behind : (h : Built) (l : EditList) (k : ℕ) (e : Edit) (b : BodyValue) (il new : List ℕ) → slice_get l.edits k ≡ Some e → body_given e ≡ Some b → HasRoom l k il → new ≡ with_given h il b → length new ≤ length il + room_of (Some b) → HasRoom l (k + 1) new
room_behind h l k e b il new there is has written few =
    let more = given_grows h b il new written in
    record {
      some = omega (arith, has.some, ap (λ (xs : List ℕ). length xs) more.1, length-append il more.0);
      room = omega (arith, few, has.room, room_more l k e there, ap room_of is);
    }

pub room_beside : (l : EditList) (k : ℕ) (e : Edit) (il : List ℕ) → slice_get l.edits k ≡ Some e → HasRoom l k il → HasRoom l (k + 1) il
room_beside l k e il there has = record { some = has.some; room = omega (arith, has.room, room_more l k e there) }

-- what is known of a result in two parts
pub if_both : {X E : Type 0} (r : Result X E) (P : Type 0) (Q R : X → Type 0) → ((x : X) → P → Q x → R x) → OnOk r P → IfOk r Q → IfOk r R
if_both (Ok x) P Q R goes p q = goes x p q
if_both (Err e) P Q R goes p q = p
