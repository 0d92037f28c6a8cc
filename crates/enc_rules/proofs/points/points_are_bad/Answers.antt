use Rattle.std.proofs.Common.{◌≡◌, ◌+◌, sym, ◌∙◌, ap, arith, length, take}
use Rattle.std.specs.Prelude.{min, sum_by}
use Rattle.enc_rules.specs.Listed.{AfterList}
use Rattle.enc_rules.specs.Rules.{room_of_points, points_are_bad}
use Rattle.enc_rules.specs.Sums.{most_room}
use Rattle.enc_rules.proofs.Capped.{capped_more}
use Rattle.enc_rules.proofs.EditAt.{such_more, such_found}
use Rattle.enc_rules.proofs.PointsAt.{points_judged}
use Rattle.enc_rules.proofs.points.points_are_bad.Goals as goal

pub returns-in-Ok-true-clause-first : goal.returns-in-Ok-true-clause-first
returns-in-Ok-true-clause-first g c =
    let more : c.capped-sum.result ≡ min most_room (sum_by room_of_points (take (c.loop-k.k + 1) c.edits-edits.result.now)) = capped_more room_of_points c.edits-edits.result.now c.loop-k.k c.index-edits-k.result c.loop-k.sum c.room_of_points.result c.capped-sum.result c.loop-k-test.true c.index-edits-k.is c.loop-k.invariant.sum c.room_of_points.ensures.room c.capped-sum.ensures.capped in
    such_found (points_are_bad c.args.context.now.chain c.args.context.now.list) _ c.loop-k.k (omega (arith, ap length c.edits-edits.ensures.edits)) c.loop-k.invariant.none
    (points_judged c.args.context.now.chain c.args.context.now.list c.edits-edits.result.now c.as_slice-documents.result.now c.loop-k.k c.index-edits-k.result c.room_of_documents-names.result c.capped-sum.result c.edits-edits.ensures.edits (c.as_slice-documents.ensures ∙ ap (λ (j : AfterList). j.list.documents) c.context.view_is) c.loop-k-test.true c.index-edits-k.is c.room_of_documents-names.ensures.room more ∙ sym c.in-Ok-true.ensures ∙ c.in-Ok-true.field-0-test)

pub loop-k-preserved : goal.loop-k-preserved
loop-k-preserved g c =
    let more : c.capped-sum.result ≡ min most_room (sum_by room_of_points (take (c.loop-k.k + 1) c.edits-edits.result.now)) = capped_more room_of_points c.edits-edits.result.now c.loop-k.k c.index-edits-k.result c.loop-k.sum c.room_of_points.result c.capped-sum.result c.loop-k-test.true c.index-edits-k.is c.loop-k.invariant.sum c.room_of_points.ensures.room c.capped-sum.ensures.capped in
    record {
      none = such_more (points_are_bad c.args.context.now.chain c.args.context.now.list) c.loop-k.k c.loop-k.invariant.none
          (points_judged c.args.context.now.chain c.args.context.now.list c.edits-edits.result.now c.as_slice-documents.result.now c.loop-k.k c.index-edits-k.result c.room_of_documents-names.result c.capped-sum.result c.edits-edits.ensures.edits (c.as_slice-documents.ensures ∙ ap (λ (j : AfterList). j.list.documents) c.context.view_is) c.loop-k-test.true c.index-edits-k.is c.room_of_documents-names.ensures.room more ∙ sym c.in-Ok-false.ensures ∙ c.in-Ok-false.field-0-test);
      sum = more;
      few = c.capped-sum.ensures.most;
    }
