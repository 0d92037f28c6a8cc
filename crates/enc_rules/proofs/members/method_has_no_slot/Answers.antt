use Rattle.std.proofs.Common.{sym, ◌∙◌, ap, arith, length}
use Rattle.enc_delta.specs.Changes.{has_no_slot}
use Rattle.enc_rules.specs.Known.{listed_rows}
use Rattle.enc_rules.specs.Rules.{of_child, method_has_no_slot}
use Rattle.enc_rules.proofs.EditAt.{row_low, judged_at, such_more, such_found}
use Rattle.enc_rules.proofs.members.method_has_no_slot.Goals as goal

pub bounds-rows-k : goal.bounds-rows-k
bounds-rows-k g c = row_low c.args.context.now.chain c.args.context.now.list c.edits-edits.result.now c.rows-rows.result.now c.loop-k.k c.edits-edits.ensures.edits c.rows-rows.ensures c.loop-k-test.true

pub returns-then-method_breaks-clause-first : goal.returns-then-method_breaks-clause-first
unfolding method_has_no_slot
returns-then-method_breaks-clause-first g c =
    such_found (method_has_no_slot c.args.context.now.chain c.args.context.now.list) _ c.loop-k.k (omega (arith, ap length c.edits-edits.ensures.edits)) c.loop-k.invariant
    (judged_at (of_child (has_no_slot c.args.context.now.chain (listed_rows c.args.context.now))) c.args.context.now.chain c.args.context.now.list c.edits-edits.result.now c.rows-rows.result.now c.loop-k.k c.index-edits-k.result _ c.edits-edits.ensures.edits c.rows-rows.ensures c.loop-k-test.true c.index-edits-k.is ∙ sym c.method_breaks.ensures ∙ c.if-method_breaks.true)

pub loop-k-preserved : goal.loop-k-preserved
unfolding method_has_no_slot
loop-k-preserved g c =
    such_more (method_has_no_slot c.args.context.now.chain c.args.context.now.list) c.loop-k.k c.loop-k.invariant
    (judged_at (of_child (has_no_slot c.args.context.now.chain (listed_rows c.args.context.now))) c.args.context.now.chain c.args.context.now.list c.edits-edits.result.now c.rows-rows.result.now c.loop-k.k c.index-edits-k.result _ c.edits-edits.ensures.edits c.rows-rows.ensures c.loop-k-test.true c.index-edits-k.is ∙ sym c.method_breaks.ensures ∙ c.if-method_breaks.false)
