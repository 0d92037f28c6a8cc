use Rattle.enc_ppdb.proofs.MethodsHeld.{numbered_none}
use Rattle.enc_ppdb.proofs.parts.numbered.Goals as goal

pub loop-i-init : goal.loop-i-init
loop-i-init g c = (c.requires.so_far, numbered_none (g.P.PointSource.debug c.args.source.now) c.args.n c.new-rows.result.items c.new-rows.ensures.items)
