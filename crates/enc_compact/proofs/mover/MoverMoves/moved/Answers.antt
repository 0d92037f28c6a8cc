use Rattle.enc_schema.specs.Schema.{list_at}
use Rattle.enc_compact.proofs.MovesLow.{is_low}
use Rattle.enc_compact.proofs.mover.MoverMoves.moved.Goals as goal

pub returns : goal.returns
returns c = is_low (list_at c.args.self.now.order.now) c.args.token c.moved.result c.moved.ensures.moved c.moved.ensures.low
