use Rattle.std.proofs.Common.{◌≡◌, ◌++◌, drop, map}
use Rattle.std.specs.Prelude.{flat_map}
use Rattle.enc_plain.specs.Debug.{plain_point}
use Rattle.enc_text.specs.PointText.{point_text}
use Rattle.enc_text.proofs.points.push_each_point.Given as goal

-- the lines so far and those that are left
abbrev pub invariant-loop-i : goal.invariant-loop-i
invariant-loop-i g l = l.fn.out.items ++ flat_map point_text (map (plain_point (g.P.PointSource.documents l.source l.method)) l.points.points) ≡ l.out.items ++ flat_map point_text (map (plain_point (g.P.PointSource.documents l.source l.method)) (drop l.i l.points.points))
