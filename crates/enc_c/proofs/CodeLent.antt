-- A method that has no body.
use Rattle.std.proofs.Common.{◌≡◌, ℕ, Bool, true, List, Option, Some, None, Result, Err, IsTrue, refl, ap, ◌∙◌}
use Rattle.std.specs.Prelude.{◌==◌, option_map, if◌then◌else◌}
use Rattle.enc_base.specs.declared.token.Token.{Token}
use Rattle.enc_opcodes.specs.Body.{Body, body_of, code_seen}
use Rattle.enc_opcodes.specs.declared.code.CodeRef.{CodeRef}
use Rattle.enc_plain.specs.Cell.{Cell, body}
use Rattle.enc_plain.specs.Module.{Module, cell_of, has_row}
use Rattle.enc_base.specs.Tables.{method_def}
use Rattle.enc_c.specs.Code.{asked_body, body_told}
use Rattle.enc_c.specs.declared.status.Status.{Status}
use Rattle.enc_c.specs.declared.status.Status.TheVariants.{Absent, Unlike}

-- by whether it is a row, and one of methods, and by its cell
abbrev asked_by : Bool → Bool → Option Cell → Result Body Status
asked_by row method cell = if row then (if method then body_told cell else Err Unlike) else Err Absent

none_asked : (row method : Bool) (cell : Option Cell) → row ≡ true → method ≡ true → cell ≡ Some (body None) → asked_by row method cell ≡ Err Absent
none_asked row method cell there is none = rw (there, is, none) refl

-- where no code is lent, none is told
pub no_body : (m : Module) (t : Token) (users : ℕ → Option (List ℕ)) (o : Option CodeRef) → IsTrue (has_row m t) → t.table ≡ method_def
    → cell_of m t 0 ≡ Some (body (option_map (λ (c : CodeRef). body_of users (code_seen c)) o)) → o ≡ None → asked_body m t ≡ Err Absent
unfolding asked_body
no_body m t users o row table cell none =
    none_asked (has_row m t) (t.table == method_def) (cell_of m t 0) row (ap (λ (n : ℕ). n == method_def) table)
    (cell ∙ ap (λ (x : Option CodeRef). Some (body (option_map (λ (c : CodeRef). body_of users (code_seen c)) x))) none)
