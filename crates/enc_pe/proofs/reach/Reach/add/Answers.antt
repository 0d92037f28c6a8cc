use Rattle.std.proofs.Common.{◌-◌, arith}
use Rattle.enc_pe.proofs.Reaches.{within_last}
use Rattle.enc_pe.proofs.reach.Reach.add.Goals as goal

pub returns-then-corner-index-clause-more : goal.returns-then-corner-index-clause-more
returns-then-corner-index-clause-more c = within_last c.self.inside.corners.items c.args.self.now c.args.corner (c.len-count.result - 1) _ c.self.view_is (omega (arith, c.if-count-eq0.false, c.len-count.ensures)) c.index.ensures c.if-corner-index.true c.requires
