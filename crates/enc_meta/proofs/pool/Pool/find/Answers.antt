use Rattle.std.proofs.Common.{◌∙◌}
use Rattle.enc_meta.specs.Pools.{encoded}
use Rattle.enc_meta.proofs.Places.{looked_up_some, looked_up_none}
use Rattle.enc_meta.proofs.pool.Pool.find.Goals as goal

pub returns-clause-found : goal.returns-clause-found
returns-clause-found c =
    rw (← c.self.view_is) (looked_up_some _ (encoded c.self.inside.form) _ _ c.args.value.now _ c.self.invariant.placed (c.copied.ensures ∙ c.get.ensures.value))

pub returns-clause-none : goal.returns-clause-none
returns-clause-none c =
    rw (← c.self.view_is) (looked_up_none _ (encoded c.self.inside.form) _ _ c.args.value.now _ c.self.invariant.placed (c.copied.ensures ∙ c.get.ensures.value))
