use Rattle.enc_rewriter.proofs.Apart.{guid_filled, guid_refused, guid_apart}
use Rattle.enc_rewriter.proofs.module_values.ModuleValues.add_guid.Goals as goal

pub invariant_of-self : goal.invariant_of-self
invariant_of-self c =
    guid_apart c.copy_guid.result c.self.inside.texts c.self.inside.users c.self.inside.blobs c.self.inside.heaps c.copy_guid.new.heaps c.args.guid c.self.invariant c.copy_guid.ensures.filled c.copy_guid.ensures.err

pub returns-clause-filled : goal.returns-clause-filled
returns-clause-filled c =
    rw (← c.self.view_is) (guid_filled c.copy_guid.result c.self.inside.texts c.self.inside.users c.self.inside.blobs c.self.inside.heaps c.copy_guid.new.heaps c.args.guid c.copy_guid.ensures.filled)

pub returns-clause-past : goal.returns-clause-past
returns-clause-past c =
    rw (← c.self.view_is) (guid_refused c.copy_guid.result c.self.inside.texts c.self.inside.users c.self.inside.blobs c.self.inside.heaps c.args.guid c.copy_guid.ensures.past)
