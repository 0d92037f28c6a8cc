-- For the contracts of private functions: the cells of an added row, part by part.
use Rattle.std.specs.Prelude.{ℕ, ◌==◌, List, [], ◌∷◌, Option, option_map, if◌then◌else◌}
use Rattle.enc_plain.specs.Cell.{Cell, body, field}
use Rattle.enc_edit_list.specs.declared.body.BodyValue.{BodyValue}
use Rattle.enc_rules.specs.Edited.{body_stated}
use Rattle.enc_base.specs.Tables as tables

-- the cell that no value states: a method's body, and that a field has no bytes
abbrev pub front_stated : ℕ → Option BodyValue → List Cell
front_stated table code =
    if table == tables.method_def then body (option_map body_stated code) ∷ []
    else if table == tables.field_rva then field [] ∷ []
    else []
