use Rattle.enc_rewriter.proofs.Apart.{are_within}
use Rattle.enc_rewriter.proofs.module_values.ModuleValues.laws.Goals as goal

pub returns-clause-within : goal.returns-clause-within
returns-clause-within c =
    rw (← c.self.view_is) (are_within c.self.inside.texts c.self.inside.users c.self.inside.blobs c.self.inside.heaps c.self.invariant c.laws.ensures.within c.laws-2.ensures.within c.laws-3.ensures.within c.laws-4.ensures.within)
