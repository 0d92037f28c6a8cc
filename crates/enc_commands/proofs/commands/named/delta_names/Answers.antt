use Rattle.std.proofs.Common.{[], refl, ap, ◌∙◌}
use Rattle.std.specs.List.{list_all}
use Rattle.enc_jobs.specs.Scripts.{is_name}
use Rattle.enc_rewriter.specs.Distinct.{borrowed}
use Rattle.enc_commands.proofs.Named.{all_good}
use Rattle.enc_commands.proofs.commands.named.delta_names.Goals as goal

pub texts_of-requires : goal.texts_of-requires
texts_of-requires c =
    ap (λ names. list_all is_name (borrowed names)) c.as_slice.ensures.keys ∙ ap (list_all is_name) c.in_ok-names.ensures ∙ all_good [] c.args.script.now refl c.requires
