use Rattle.std.proofs.Common.{sym, ◌∙◌, ap, arith, length}
use Rattle.enc_rules.specs.Told.{adds_row, adds_child}
use Rattle.enc_rules.proofs.EditAt.{row_low, judged_at, such_more, such_found}
use Rattle.enc_rules.proofs.members.edit_of.Goals as goal

pub bounds-rows-k : goal.bounds-rows-k
bounds-rows-k g c = row_low c.args.context.now.chain c.args.context.now.list c.edits-edits.result.now c.rows-rows.result.now c.loop-k.k c.edits-edits.ensures.edits c.rows-rows.ensures c.loop-k-test.true

pub returns-then-adds_row-clause-first : goal.returns-then-adds_row-clause-first
unfolding adds_child
returns-then-adds_row-clause-first g c =
    such_found (adds_child c.args.child c.args.context.now.chain c.args.context.now.list) _ c.loop-k.k (omega (arith, ap length c.edits-edits.ensures.edits)) c.loop-k.invariant
    (judged_at (adds_row c.args.child) c.args.context.now.chain c.args.context.now.list c.edits-edits.result.now c.rows-rows.result.now c.loop-k.k c.index-edits-k.result _ c.edits-edits.ensures.edits c.rows-rows.ensures c.loop-k-test.true c.index-edits-k.is ∙ sym c.adds_row.ensures ∙ c.if-adds_row.true)

pub loop-k-preserved : goal.loop-k-preserved
unfolding adds_child
loop-k-preserved g c =
    such_more (adds_child c.args.child c.args.context.now.chain c.args.context.now.list) c.loop-k.k c.loop-k.invariant
    (judged_at (adds_row c.args.child) c.args.context.now.chain c.args.context.now.list c.edits-edits.result.now c.rows-rows.result.now c.loop-k.k c.index-edits-k.result _ c.edits-edits.ensures.edits c.rows-rows.ensures c.loop-k-test.true c.index-edits-k.is ∙ sym c.adds_row.ensures ∙ c.if-adds_row.false)
