use Rattle.std.proofs.Common.{◌≡◌, Some, refl}
use Rattle.std.specs.Prelude.{slice_get}
use Rattle.std.proofs.lemmas.Option.{slice_get_read}
use Rattle.enc_memory_module.specs.Encoded.{with_tables}
use Rattle.enc_memory_module.proofs.FollowingEdits.{children_next, children_all}
use Rattle.enc_memory_module.proofs.apply.attach_children.Goals as goal

pub loop-k-preserved : goal.loop-k-preserved
loop-k-preserved c =
    let there : slice_get c.args.added.now c.loop-k.k ≡ Some c.index-edits-k.result = rw c.edits-edits.ensures at (slice_get_read c.edits-edits.result.now _ c.loop-k.k c.index-edits-k.result refl c.loop-k-test.true c.index-edits-k.is) in
    children_next c.args.module.now.plain (with_tables c.loop-k.tables.items) (with_tables c.attach_child.new.tables.items) _ c.args.added.now c.loop-k.k c.index-edits-k.result c.row_at.result there c.row_at.ensures c.in_ok-attach_child.ensures c.loop-k.invariant

pub returns : goal.returns
returns c = children_all c.args.module.now.plain (with_tables c.loop-k.tables.items) _ c.args.added.now c.loop-k.k (rw c.edits-edits.ensures at c.loop-k-test.false) c.loop-k.invariant
