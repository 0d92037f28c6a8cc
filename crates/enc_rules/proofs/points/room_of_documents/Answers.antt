use Rattle.enc_rules.specs.Rules.{room_of_document}
use Rattle.enc_rules.proofs.Capped.{capped_more}
use Rattle.enc_rules.proofs.points.room_of_documents.Goals as goal

pub loop-k-preserved : goal.loop-k-preserved
loop-k-preserved c = record {
  sum = capped_more room_of_document c.args.documents.now c.loop-k.k c.index-documents-k.result c.loop-k.sum c.room_of_document.result c.capped-sum.result c.loop-k-test.true c.index-documents-k.is c.loop-k.invariant.sum c.room_of_document.ensures.room c.capped-sum.ensures.capped;
  few = c.capped-sum.ensures.most;
}
