use Rattle.std.proofs.Common.{sym, ◌∙◌, reverse, take, None, Some, arith}
use Rattle.enc_plain.specs.ClassPath.{path_of}
use Rattle.enc_dispatch.specs.Target.{walk_down}
use Rattle.enc_dispatch.proofs.WalkSteps.{walk_end, walk_step}
use Rattle.enc_dispatch.proofs.free_walk.walk_down.Goals as goal

pub returns-in_default : goal.returns-in_default
returns-in_default g c =
    let m = g.V.ModuleView.meaning c.args.view.now in
    walk_step m c.args.declared (path_of m c.args.class) c.loop-left.left c.nth_class-at.result c.loop-left.current (walk_down m c.args.declared (reverse (take c.args.count (path_of m c.args.class))) c.args.declared) None
    (omega (arith, c.loop-left-test.true)) c.nth_class-at.ensures (sym c.turn.ensures ∙ c.in_default.is) c.loop-left.invariant.0

pub loop-left-preserved : goal.loop-left-preserved
loop-left-preserved g c =
    let m = g.V.ModuleView.meaning c.args.view.now in (
      walk_step m c.args.declared (path_of m c.args.class) c.loop-left.left c.nth_class-at.result c.loop-left.current (walk_down m c.args.declared (reverse (take c.args.count (path_of m c.args.class))) c.args.declared) (Some c.in-Some.next)
          (omega (arith, c.loop-left-test.true)) c.nth_class-at.ensures (sym c.turn.ensures ∙ c.in-Some.is) c.loop-left.invariant.0,
      omega (arith, c.loop-left.invariant.1),
    )

pub returns : goal.returns
returns g c =
    let m = g.V.ModuleView.meaning c.args.view.now in
    walk_end m c.args.declared (path_of m c.args.class) c.loop-left.left c.loop-left.current (walk_down m c.args.declared (reverse (take c.args.count (path_of m c.args.class))) c.args.declared)
    (omega (arith, c.loop-left-test.false)) c.loop-left.invariant.0
