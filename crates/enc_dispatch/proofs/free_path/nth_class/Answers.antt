use Rattle.std.proofs.Common.{◌≡◌, ◌-◌, ◌<◌, length, arith}
use Rattle.enc_plain.specs.Sound.{row_count}
use Rattle.enc_base.specs.Tables as tables
use Rattle.enc_plain.specs.ClassPath.{path_of}
use Rattle.enc_dispatch.proofs.PathSteps.{nth_step, nth_end}
use Rattle.enc_dispatch.proofs.free_path.nth_class.Goals as goal

pub loop-preserved : goal.loop-preserved
loop-preserved g c =
    let m = g.V.ModuleView.meaning c.args.view.now in
    nth_step m (path_of m c.args.class) c.loop.counter (row_count m tables.type_def) c.loop.at c.base-at.result
    (omega (arith, c.loop-test.true, c.requires)) c.loop.invariant c.base-at.ensures

pub returns : goal.returns
returns g c =
    let m = g.V.ModuleView.meaning c.args.view.now in
    let all : c.loop.counter ≡ c.args.n = omega (arith, c.loop-test.false, c.loop.auto.counter-end) in
    let there : c.loop.counter < length (path_of m c.args.class) = omega (arith, all, c.requires) in
    rw (← all) (nth_end m (path_of m c.args.class) c.loop.counter (row_count m tables.type_def - c.loop.counter) c.loop.at there c.loop.invariant)
