use Rattle.enc_delta.proofs.StoredBlobs.{alike_at}
use Rattle.enc_delta.proofs.members.are_alike.Goals as goal

pub returns-then-is_one_place-clause-alike : goal.returns-then-is_one_place-clause-alike
returns-then-is_one_place-clause-alike g c = alike_at (g.R.CellView.rows c.args.rows.now) (g.R.CellView.stored c.args.rows.now) c.args.member.table _ _ _ _ c.blob_place.ensures c.blob_place-2.ensures (c.is_one_place.ensures c.if-is_one_place.true)
