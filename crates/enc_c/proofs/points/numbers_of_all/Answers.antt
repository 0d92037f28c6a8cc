use Rattle.std.proofs.Common.{◌++◌, [], ◌∷◌, ◌∙◌, sym, ap, List, map, take}
use Rattle.enc_c.specs.Points.{point_numbers}
use Rattle.enc_c.specs.declared.points.PointNumbers.{PointNumbers}
use Rattle.enc_c.proofs.Items.{one_more}
use Rattle.enc_c.proofs.points.numbers_of_all.Goals as goal

pub loop-i-preserved : goal.loop-i-preserved
loop-i-preserved c =
    c.in_ok-push.ensures.items ∙ ap (λ (l : List PointNumbers). l ++ c.numbers_of.result ∷ []) c.loop-i.invariant
    ∙ ap (λ (p : PointNumbers). map point_numbers (take c.loop-i.i c.args.points.now.points) ++ p ∷ []) c.numbers_of.ensures ∙ sym (one_more point_numbers c.args.points.now.points c.loop-i.i c.point.result c.point.ensures)
