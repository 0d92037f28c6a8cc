use Rattle.std.proofs.Common.{◌≡◌, ℕ, drop}
use Rattle.std.specs.Prelude.{filter}
use Rattle.enc_machine_types.specs.Members.{is_type_constructor, method_of_row}
use Rattle.enc_machine_types.proofs.members.constructor_among.Given as goal

-- what is left decides
abbrev pub invariant-loop-row : goal.invariant-loop-row
invariant-loop-row g l = filter (λ (row : ℕ). is_type_constructor (g.V.ModuleView.meaning l.view) (method_of_row row)) (drop l.row-index l.rows) ≡ filter (λ (row : ℕ). is_type_constructor (g.V.ModuleView.meaning l.view) (method_of_row row)) l.rows
