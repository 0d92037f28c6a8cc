use Rattle.std.proofs.Common.{◌≡◌, length, arith}
use Rattle.enc_plain.specs.Module.{rows_in}
use Rattle.enc_base.specs.Tables.{method_def}
use Rattle.enc_versions.proofs.Begun.{all_stand}
use Rattle.enc_versions.proofs.versions.slots_of.Goals as goal

pub returns-clause-versions : goal.returns-clause-versions
returns-clause-versions g c =
    let size : length c.loop-n.slots.items ≡ length (rows_in (g.V.ModuleView.meaning c.args.view.now) method_def) = omega (arith, c.loop-n.invariant.2, c.loop-n-test.false, c.loop-n.auto.n-end, c.count-n-end.ensures.count) in
    all_stand (g.V.ModuleView.users c.args.view.now) (g.V.ModuleView.meaning c.args.view.now) (g.P.PointSource.debug c.args.points.now) c.loop-n.slots.items c.loop-n.invariant.1 size
