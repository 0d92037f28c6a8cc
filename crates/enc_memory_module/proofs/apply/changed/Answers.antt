use Rattle.enc_memory_module.specs.Encoded.{with_tables}
use Rattle.enc_memory_module.proofs.FollowingEdits.{changed_all}
use Rattle.enc_memory_module.proofs.apply.changed.Goals as goal

pub returns : goal.returns
returns c = changed_all c.args.module.now.plain (with_tables c.loop-k.tables.items) _ c.args.added.now c.loop-k.k (rw c.edits-k-end.ensures at c.loop-k-test.false) c.loop-k.invariant
