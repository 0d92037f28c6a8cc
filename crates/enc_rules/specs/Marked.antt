-- For the contracts of private functions: how bodies are judged, by marks of where instructions begin.
use Rattle.std.specs.Prelude.{ℕ, ◌^◌, Bool, false, not, ◌&&◌, ◌||◌, List, nat_le, slice_index_or}
use Rattle.enc_base.specs.declared.token.Token.{Token}
use Rattle.enc_opcodes.specs.Body.{handler_meant}
use Rattle.enc_opcodes.specs.Sound.{argument_is_sound, handler_is_sound}
use Rattle.enc_opcodes.specs.declared.code.Clause.{Clause}
use Rattle.enc_plain.specs.Rows.{Rows}
use Rattle.enc_edit_list.specs.Sizes.{arg_meant}
use Rattle.enc_edit_list.specs.declared.body.InstrValue.{InstrValue}
use Rattle.enc_edit_list.specs.declared.edit.Edit.{Edit}
use Rattle.enc_rules.specs.Listed.{body_given}
use Rattle.enc_rules.specs.Rules.{gives_body, is_il, body_is_missing_or_stands}

-- whether an instruction begins at an offset, as marked for each byte of the code
abbrev pub is_marked : List Bool → ℕ → Bool
is_marked marks t = slice_index_or marks t false

-- an instruction and a clause by where instructions begin
abbrev pub value_is_sound : (ℕ → ℕ) → (ℕ → Bool) → InstrValue → Bool
value_is_sound count begins i = argument_is_sound count begins i.op.operand (arg_meant i.arg)

abbrev pub clause_is_sound : (ℕ → ℕ) → (ℕ → Bool) → ℕ → Clause → Bool
clause_is_sound count begins size c = handler_is_sound count begins size (handler_meant c)

-- an edit gives a body to what isn't a method of IL code, or one that isn't good, or with which the code takes so
-- much room
abbrev pub body_breaks : (ℕ → ℕ) → Rows → ℕ → Edit → Token → Bool
body_breaks count rows room e t =
    gives_body e && (not (is_il rows t) || not (body_is_missing_or_stands count (body_given e)) || nat_le (2 ^ 32) room)
