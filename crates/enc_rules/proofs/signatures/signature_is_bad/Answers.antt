use Rattle.std.proofs.Common.{sym, ◌∙◌, ap, arith, length}
use Rattle.enc_rules.specs.Known.{listed_counts, listed_rows}
use Rattle.enc_rules.specs.Rules.{new_signature_breaks, signature_is_bad}
use Rattle.enc_rules.proofs.EditAt.{row_low, about_its_table, judged_at, such_more, such_found}
use Rattle.enc_rules.proofs.signatures.signature_is_bad.Goals as goal

pub bounds-rows-k : goal.bounds-rows-k
bounds-rows-k g c = row_low c.args.context.now.chain c.args.context.now.list c.edits-edits.result.now c.rows-rows.result.now c.loop-k.k c.edits-edits.ensures.edits c.rows-rows.ensures c.loop-k-test.true

pub signature_breaks-requires : goal.signature_breaks-requires
signature_breaks-requires g c = about_its_table c.args.context.now.chain c.args.context.now.list c.edits-edits.result.now c.rows-rows.result.now c.loop-k.k c.index-edits-k.result _ c.edits-edits.ensures.edits c.rows-rows.ensures c.loop-k-test.true c.index-edits-k.is

pub returns-then-signature_breaks-clause-first : goal.returns-then-signature_breaks-clause-first
unfolding signature_is_bad
returns-then-signature_breaks-clause-first g c =
    such_found (signature_is_bad c.args.context.now.chain c.args.context.now.list) _ c.loop-k.k (omega (arith, ap length c.edits-edits.ensures.edits)) c.loop-k.invariant
    (judged_at (new_signature_breaks (listed_counts c.args.context.now) (listed_rows c.args.context.now)) c.args.context.now.chain c.args.context.now.list c.edits-edits.result.now c.rows-rows.result.now c.loop-k.k c.index-edits-k.result _ c.edits-edits.ensures.edits c.rows-rows.ensures c.loop-k-test.true c.index-edits-k.is ∙ sym c.signature_breaks.ensures ∙ c.if-signature_breaks.true)

pub loop-k-preserved : goal.loop-k-preserved
unfolding signature_is_bad
loop-k-preserved g c =
    such_more (signature_is_bad c.args.context.now.chain c.args.context.now.list) c.loop-k.k c.loop-k.invariant
    (judged_at (new_signature_breaks (listed_counts c.args.context.now) (listed_rows c.args.context.now)) c.args.context.now.chain c.args.context.now.list c.edits-edits.result.now c.rows-rows.result.now c.loop-k.k c.index-edits-k.result _ c.edits-edits.ensures.edits c.rows-rows.ensures c.loop-k-test.true c.index-edits-k.is ∙ sym c.signature_breaks.ensures ∙ c.if-signature_breaks.false)
