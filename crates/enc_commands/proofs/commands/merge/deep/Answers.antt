use Rattle.std.proofs.Common.{List, ℕ, Err, subst, ◌∙◌}
use Rattle.enc_commands.specs.Plans.{IsPlanOf}
use Rattle.enc_commands.specs.Stops.{OnPlan}
use Rattle.enc_commands.specs.Verdict.{deep_chain}
use Rattle.enc_commands.proofs.Merging.{deep_name}
use Rattle.enc_commands.proofs.commands.merge.deep.Goals as goal

pub returns-in-Ok-clause-plan : goal.returns-in-Ok-clause-plan
returns-in-Ok-clause-plan c =
    subst (λ (name : List ℕ). OnPlan c.too_deep.result (IsPlanOf (Err (deep_chain name c.args.token))))
    (c.as_str-in-Ok.ensures.value ∙ deep_name c.args.deltas.now c.last-item.result c.as_str.result.now _ c.in-len1-up.len_at_least c.last-item.is c.as_str.ensures.value c.in-Ok.ensures)
    c.too_deep.ensures.plan
