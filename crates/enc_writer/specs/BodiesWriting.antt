-- For the contracts of private functions: the bodies that edits give, as they are written.
use Rattle.std.specs.Prelude.{◌≡◌, ℕ, ◌+◌, ◌^◌, ◌<◌, ◌≤◌, true, ◌&&◌, ◌==◌, if◌then◌else◌}
use Rattle.std.specs.Prelude.{List, [], ◌++◌, length, sum_by, take, slice_get, Option, Some, None, is_some, option_and_then}
use Rattle.std.specs.List.{list_all}
use Rattle.std.specs.BTreeMap.{BTreeMap, get}
use Rattle.std.specs.Ordering.{nat_cmp}
use Rattle.enc_base.specs.declared.token.Token.{Token}
use Rattle.enc_meta.specs.Built.{Built, user_offset}
use Rattle.enc_meta.specs.BuiltLaws.{heaps_joined}
use Rattle.enc_meta.specs.Joined.{joined_user}
use Rattle.enc_base.specs.Tables.{method_def}
use Rattle.enc_opcodes.specs.Body.{Code}
use Rattle.enc_il.specs.Written.{clause_fits, place_for, with_body}
use Rattle.enc_plain.specs.Chain.{Chain}
use Rattle.enc_edit_list.specs.Form.{instr_fits}
use Rattle.enc_edit_list.specs.declared.body.BodyValue.{BodyValue}
use Rattle.enc_edit_list.specs.declared.body.InstrValue.{InstrValue}
use Rattle.enc_edit_list.specs.declared.edit.EditList.{EditList}
use Rattle.enc_assembly.specs.Assembly.{code_bytes, are_small, text_is_kept}
use Rattle.enc_rules.specs.Edited.{body_stated, rows_edited}
use Rattle.enc_rules.specs.Listed.{body_given, count_after}
use Rattle.enc_rules.specs.Rules.{room_of_edit}
use Rattle.enc_list_delta.specs.Delta.{is_edited, cells_written}
use Rattle.enc_list_delta.specs.Holds.{StandsIn, PlacesBody, heaps_written}
use Rattle.enc_writer.specs.Writing.{method_token}

-- the parts of a body that is written: its code is assembled, and its clauses are apart
abbrev pub parts_of : Built → BodyValue → Code
parts_of h b = record {
  max = b.max;
  init = b.init;
  locals = b.locals;
  code = code_bytes (user_offset h) 0 b.code;
  sections = [];
}

-- where it begins behind so many bytes, and the bytes with it
abbrev pub place_given : Built → ℕ → BodyValue → ℕ
place_given h n b = place_for n (parts_of h b) b.clauses

abbrev pub with_given : Built → List ℕ → BodyValue → List ℕ
with_given h il b = with_body il (parts_of h b) b.clauses

-- the numbers of a body fit their bytes
pub record HasWidths (b : BodyValue) : Type 0 where
  pub max : b.max < 2 ^ 16
  pub table : b.locals.table < 0x100
  pub clauses : list_all clause_fits b.clauses ≡ true

-- a body can be written: its instructions are some, what they name fits its bytes, and their user texts have a place
pub record CanBeWritten (h : Built) (b : BodyValue) : Type 0 where
  pub fits : list_all instr_fits b.code ≡ true
  pub small : are_small (user_offset h) b.code ≡ true
  pub kept : list_all (λ (i : InstrValue). text_is_kept h i.arg) b.code ≡ true
  pub row : b.locals.row < 2 ^ 24

-- the user texts of a delta
abbrev pub users_written : Chain → EditList → ℕ → Option (List ℕ)
users_written c l = joined_user (heaps_joined c.heaps (heaps_written c l))

-- a body that is given stands at a place, whatever code comes behind; without a body the place is 0
abbrev pub StandsFirm : Chain → EditList → List ℕ → ℕ → Option BodyValue → Type 0
StandsFirm c l il place None = place ≡ 0
StandsFirm c l il place (Some b) =
    (behind : List ℕ) → StandsIn (count_after c l.edits) (users_written c l) (il ++ behind) place (body_stated b)

-- so does that of the edit at a place of the list
abbrev pub StandsOf : Chain → EditList → List ℕ → ℕ → ℕ → Type 0
StandsOf c l il place k = StandsFirm c l il place (option_and_then body_given (slice_get l.edits k))

-- the code has room left behind the bodies of so many edits, and no body at 0
pub record HasRoom (l : EditList) (n : ℕ) (il : List ℕ) : Type 0 where
  pub some : 0 < length il
  pub room : length il ≤ 4 + sum_by room_of_edit (take n l.edits)

-- the place of a method, with that of the body of a row, where this is a method
abbrev pub place_known : BTreeMap ℕ ℕ → Token → ℕ → ℕ → Option ℕ
place_known methods row place q = if row.table == method_def && row.row == q then Some place else get nat_cmp methods q

-- it is put down, and no other place changes
abbrev pub PutsPlace : BTreeMap ℕ ℕ → BTreeMap ℕ ℕ → Token → ℕ → Type 0
PutsPlace old new row place = (q : ℕ) → get nat_cmp new q ≡ place_known old row place q

-- the methods that so many edits are about are known, each with the place of its body
pub record ArePlacedUpto (c : Chain) (l : EditList) (n : ℕ) (il : List ℕ) (methods : BTreeMap ℕ ℕ) : Type 0 where
  pub edited : (row place : ℕ) → get nat_cmp methods row ≡ Some place
      → is_edited c.plain l.edits (method_token row) ≡ true
  pub placed : (row place : ℕ) → get nat_cmp methods row ≡ Some place → (behind : List ℕ)
      → PlacesBody (count_after c l.edits) (users_written c l) (il ++ behind) place
      (slice_get (cells_written c.plain l.edits (method_token row)) 0)
  pub known : (k row : ℕ) → k < n → slice_get (rows_edited c.plain l.edits) k ≡ Some (method_token row)
      → is_some (get nat_cmp methods row) ≡ true
