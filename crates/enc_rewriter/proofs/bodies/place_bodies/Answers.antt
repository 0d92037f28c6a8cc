use Rattle.std.proofs.Common.{◌≡◌, arith}
use Rattle.enc_plain.specs.Sound.{row_count}
use Rattle.enc_rewriter.proofs.MethodsPlaced.{all_weigh}
use Rattle.enc_rewriter.proofs.bodies.place_bodies.Goals as goal

pub returns-clause-weighs : goal.returns-clause-weighs
returns-clause-weighs g c =
    let m = g.V.ModuleView.meaning c.args.view.now in
    let count : c.count-n-end.result ≡ row_count m 0x06 = c.count-n-end.ensures.count in
    let all : c.loop-n.n ≡ row_count m 0x06 = omega (arith, count, c.loop-n-test.false, c.loop-n.auto.n-end) in
    omega (arith, all_weigh m c.loop-n.n all, c.loop-n.invariant.3)
