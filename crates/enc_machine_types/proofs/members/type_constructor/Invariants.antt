use Rattle.std.proofs.Common.{◌≡◌, ℕ, drop}
use Rattle.std.specs.Prelude.{filter}
use Rattle.enc_plain.specs.Module.{kids_of}
use Rattle.enc_machine_types.specs.Members.{is_type_constructor, method_of_row}
use Rattle.enc_machine_types.proofs.members.type_constructor.Given as goal

abbrev pub invariant-loop-i : goal.invariant-loop-i
invariant-loop-i g l = filter (λ (row : ℕ). is_type_constructor (g.V.ModuleView.meaning l.fn.view) (method_of_row row)) (drop l.i (kids_of (g.V.ModuleView.meaning l.fn.view) l.fn.owner 0x06)) ≡ filter (λ (row : ℕ). is_type_constructor (g.V.ModuleView.meaning l.fn.view) (method_of_row row)) (kids_of (g.V.ModuleView.meaning l.fn.view) l.fn.owner 0x06)
