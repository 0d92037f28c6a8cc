use Rattle.std.proofs.Common.{arith}
use Rattle.std.proofs.lemmas.Bool.Decides.{nat_tests}
use Rattle.enc_seqpoints.proofs.PointsSized.{blob_few}
use Rattle.enc_ppdb.proofs.MethodBlobs.{nothing_said}
use Rattle.enc_ppdb.proofs.parts.method_blob.Goals as goal

pub returns-then-is_empty-clause-reads : goal.returns-then-is_empty-clause-reads
returns-then-is_empty-clause-reads c =
    nothing_said c.args.document c.args.locals c.args.points.now c.new.result.items (grind (arith, nat_tests, c.if-locals-eq0.true)) (grind (arith, nat_tests, c.is_empty.ensures, c.if-is_empty.true)) c.new.ensures.items

pub returns-clause-few : goal.returns-clause-few
returns-clause-few c = blob_few c.args.locals c.args.document c.args.points.now c.in_ok-blob.blob.items c.in_ok-blob.ensures
