use Rattle.std.proofs.Common.{◌≡◌, ◌+◌, sym, ◌∙◌, ap, arith, length, take}
use Rattle.std.specs.Prelude.{min, sum_by}
use Rattle.enc_rules.specs.Rules.{room_of_edit, body_is_broken}
use Rattle.enc_rules.specs.Sums.{most_room}
use Rattle.enc_rules.proofs.BodiesAt.{body_at}
use Rattle.enc_rules.proofs.Capped.{capped_more}
use Rattle.enc_rules.proofs.EditAt.{row_low, such_more, such_found}
use Rattle.enc_rules.proofs.bodies.body_is_broken.Goals as goal

pub bounds-rows-k : goal.bounds-rows-k
bounds-rows-k g c = row_low c.args.context.now.chain c.args.context.now.list c.edits-edits.result.now c.rows-rows.result.now c.loop-k.k c.edits-edits.ensures.edits c.rows-rows.ensures c.loop-k-test.true

pub returns-in-Ok-true-clause-first : goal.returns-in-Ok-true-clause-first
returns-in-Ok-true-clause-first g c =
    let more : c.capped-sum.result ≡ min most_room (sum_by room_of_edit (take (c.loop-k.k + 1) c.edits-edits.result.now)) = capped_more room_of_edit c.edits-edits.result.now c.loop-k.k c.index-edits-k.result c.loop-k.sum c.room_of_edit.result c.capped-sum.result c.loop-k-test.true c.index-edits-k.is c.loop-k.invariant.sum c.room_of_edit.ensures.room c.capped-sum.ensures.capped in
    such_found (body_is_broken c.args.context.now.chain c.args.context.now.list) _ c.loop-k.k (omega (arith, ap length c.edits-edits.ensures.edits)) c.loop-k.invariant.none
    (body_at c.args.context.now.chain c.args.context.now.list c.edits-edits.result.now c.rows-rows.result.now c.loop-k.k c.index-edits-k.result _ c.capped-sum.result c.edits-edits.ensures.edits c.rows-rows.ensures c.loop-k-test.true c.index-edits-k.is more ∙ sym c.in-Ok-true.ensures ∙ c.in-Ok-true.field-0-test)

pub loop-k-preserved : goal.loop-k-preserved
loop-k-preserved g c =
    let more : c.capped-sum.result ≡ min most_room (sum_by room_of_edit (take (c.loop-k.k + 1) c.edits-edits.result.now)) = capped_more room_of_edit c.edits-edits.result.now c.loop-k.k c.index-edits-k.result c.loop-k.sum c.room_of_edit.result c.capped-sum.result c.loop-k-test.true c.index-edits-k.is c.loop-k.invariant.sum c.room_of_edit.ensures.room c.capped-sum.ensures.capped in
    record {
      none = such_more (body_is_broken c.args.context.now.chain c.args.context.now.list) c.loop-k.k c.loop-k.invariant.none
          (body_at c.args.context.now.chain c.args.context.now.list c.edits-edits.result.now c.rows-rows.result.now c.loop-k.k c.index-edits-k.result _ c.capped-sum.result c.edits-edits.ensures.edits c.rows-rows.ensures c.loop-k-test.true c.index-edits-k.is more ∙ sym c.in-Ok-false.ensures ∙ c.in-Ok-false.field-0-test);
      sum = more;
      few = c.capped-sum.ensures.most;
    }
