use Rattle.std.proofs.Common.{◌≡◌, ap, ◌∙◌, arith}
use Rattle.std.specs.Prelude.{min}
use Rattle.enc_plain.specs.Sound.{row_count}
use Rattle.enc_rewriter.specs.Standing.{bodies_before}
use Rattle.enc_rewriter.specs.Weight.{most_weight}
use Rattle.enc_rewriter.proofs.Weights.{bodies_all}
use Rattle.enc_rewriter.proofs.weight.bodies_weight.Goals as goal

pub returns : goal.returns
returns g c =
    let m = g.V.ModuleView.meaning c.args.view.now in
    let count : c.count-n-end.result ≡ row_count m 0x06 = c.count-n-end.ensures.count in
    let all : c.loop-n.n ≡ row_count m 0x06 = omega (arith, count, c.loop-n-test.false, c.loop-n.auto.n-end) in
    c.loop-n.invariant.0 ∙ ap (λ k. min most_weight (bodies_before m k)) all ∙ ap (min most_weight) (bodies_all m)
