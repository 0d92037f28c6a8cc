use Rattle.std.proofs.Common.{sym, ap, ◌∙◌}
use Rattle.std.specs.Prelude.{option_map}
use Rattle.enc_script.proofs.Watching.{nothing_applied}
use Rattle.enc_script.proofs.running.Running.apply.Goals as goal

pub returns-in-None-clause-ran : goal.returns-in-None-clause-ran
returns-in-None-clause-ran g c =
    nothing_applied c.args.name.now _ c.args.self.now c.args.out.now.items (sym c.in_ok-files_of.ensures ∙ ap (option_map _) c.in-None.is)
