use Rattle.std.proofs.Common.{◌≡◌, ◌+◌, ◌++◌, ◌∙◌, drop, map, sym, ap, List, ℕ, append_assoc}
use Rattle.std.specs.Prelude.{flat_map}
use Rattle.enc_plain.specs.Debug.{plain_point}
use Rattle.enc_text.specs.PointText.{point_text}
use Rattle.enc_text.proofs.PointLines.{lines_more}
use Rattle.enc_text.proofs.points.push_each_point.Goals as goal

pub loop-i-preserved : goal.loop-i-preserved
loop-i-preserved g c =
    let plain = plain_point (g.P.PointSource.documents c.args.source.now c.args.method) in
    let more = lines_more point_text plain c.args.points.now.points c.loop-i.i c.point.result c.point.ensures in
    c.loop-i.invariant ∙ ap (λ (l : List ℕ). c.loop-i.out.items ++ l) more ∙ sym (append_assoc c.loop-i.out.items (point_text (plain c.point.result)) (flat_map point_text (map plain (drop (c.loop-i.i + 1) c.args.points.now.points)))) ∙ ap (λ (l : List ℕ). l ++ flat_map point_text (map plain (drop (c.loop-i.i + 1) c.args.points.now.points))) (sym c.in_ok-push_point.ensures)
