use Rattle.std.proofs.Common.{sym, ◌∙◌}
use Rattle.enc_dispatch.specs.Asked.{left_of}
use Rattle.enc_plain.specs.ClassPath.{path_of}
use Rattle.enc_dispatch.specs.Target.{from_interface}
use Rattle.enc_dispatch.proofs.PathSteps.{interface_end, interface_here, interface_next}
use Rattle.enc_dispatch.proofs.free_path.from_interface.Goals as goal

pub returns-then-has_interface : goal.returns-then-has_interface
returns-then-has_interface g c =
    let m = g.V.ModuleView.meaning c.args.view.now in
    interface_here m c.args.interface c.loop-rest.climb.class (left_of m c.loop-rest.climb) (left_of m c.in-Some.rest) (from_interface m c.args.interface (path_of m c.args.class))
    c.in-Some.ensures.path (sym c.has_interface.ensures ∙ c.if-has_interface.true) c.loop-rest.invariant

pub loop-rest-preserved : goal.loop-rest-preserved
loop-rest-preserved g c =
    let m = g.V.ModuleView.meaning c.args.view.now in
    interface_next m c.args.interface c.loop-rest.climb.class (left_of m c.loop-rest.climb) (left_of m c.in-Some.rest) (from_interface m c.args.interface (path_of m c.args.class))
    c.in-Some.ensures.path (sym c.has_interface.ensures ∙ c.if-has_interface.false) c.loop-rest.invariant

pub returns : goal.returns
returns g c =
    let m = g.V.ModuleView.meaning c.args.view.now in
    interface_end m c.args.interface (left_of m c.loop-rest.climb) (from_interface m c.args.interface (path_of m c.args.class)) c.in_default.ensures.path c.loop-rest.invariant
