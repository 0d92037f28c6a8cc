use Rattle.std.proofs.Common.{ℕ, ◌%◌, ◌^◌, ap, ◌∙◌, sym}
use Rattle.enc_plain.specs.Module.{cell_of}
use Rattle.enc_opcodes.specs.Body.{code_seen}
use Rattle.enc_command_line.proofs.Sums.{body_loaded}
use Rattle.enc_command_line.proofs.loaded.loaded_in_method.Goals as goal

pub returns-in-Some : goal.returns-in-Some
returns-in-Some g c = c.loaded_in.ensures ∙ ap (λ (n : ℕ). n % 2 ^ 64) (sym (body_loaded (g.V.ModuleView.users c.args.view.now) (code_seen c.in-Some.code) (cell_of (g.V.ModuleView.meaning c.args.view.now) c.args.method 0) c.in-Some.ensures.body))
