use Rattle.std.proofs.Common.{◌∙◌}
use Rattle.enc_rewriter.proofs.Apart.{blob_filled, blob_refused, same_pass}
use Rattle.enc_rewriter.proofs.module_values.ModuleValues.add_blob.Goals as goal

pub invariant_of-self : goal.invariant_of-self
invariant_of-self c =
    let e = same_pass c.add.result c.self.inside.blobs c.add.new.self c.args.blob.now c.add.ensures.added c.add.ensures.err in
    record { texts = c.self.invariant.texts; users = c.self.invariant.users; blobs = e ∙ c.self.invariant.blobs; guids = c.self.invariant.guids }

pub returns-clause-filled : goal.returns-clause-filled
returns-clause-filled c = rw (← c.self.view_is) (blob_filled c.add.result c.self.inside.texts c.self.inside.users _ _ c.self.inside.heaps c.args.blob.now c.add.ensures.added)

pub returns-clause-past : goal.returns-clause-past
returns-clause-past c =
    rw (← c.self.view_is) (blob_refused c.add.result c.self.inside.texts c.self.inside.users c.self.inside.blobs c.self.inside.heaps c.args.blob.now c.self.invariant c.add.ensures.refused)
