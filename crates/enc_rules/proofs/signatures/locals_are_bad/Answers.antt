use Rattle.std.proofs.Common.{sym, ◌∙◌, ap, arith, length}
use Rattle.enc_edit_list.specs.declared.edit.Edit.{Edit}
use Rattle.enc_rules.specs.Known.{listed_rows}
use Rattle.enc_rules.specs.Listed.{body_given}
use Rattle.enc_rules.specs.Rules.{locals_break, locals_are_bad}
use Rattle.enc_rules.proofs.EditAt.{judged_alone, such_more, such_found}
use Rattle.enc_rules.proofs.signatures.locals_are_bad.Goals as goal

pub returns-then-locals_break-clause-first : goal.returns-then-locals_break-clause-first
unfolding locals_are_bad
returns-then-locals_break-clause-first g c =
    such_found (locals_are_bad c.args.context.now.chain c.args.context.now.list) _ c.loop-k.k (omega (arith, ap length c.edits-edits.ensures.edits)) c.loop-k.invariant
    (judged_alone (λ (e : Edit). locals_break (listed_rows c.args.context.now) (body_given e)) c.args.context.now.chain c.args.context.now.list c.edits-edits.result.now c.loop-k.k c.index-edits-k.result c.edits-edits.ensures.edits c.loop-k-test.true c.index-edits-k.is ∙ sym c.locals_break.ensures ∙ c.if-locals_break.true)

pub loop-k-preserved : goal.loop-k-preserved
unfolding locals_are_bad
loop-k-preserved g c =
    such_more (locals_are_bad c.args.context.now.chain c.args.context.now.list) c.loop-k.k c.loop-k.invariant
    (judged_alone (λ (e : Edit). locals_break (listed_rows c.args.context.now) (body_given e)) c.args.context.now.chain c.args.context.now.list c.edits-edits.result.now c.loop-k.k c.index-edits-k.result c.edits-edits.ensures.edits c.loop-k-test.true c.index-edits-k.is ∙ sym c.locals_break.ensures ∙ c.if-locals_break.false)
