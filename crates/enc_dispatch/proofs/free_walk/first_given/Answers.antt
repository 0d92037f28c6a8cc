use Rattle.std.proofs.Common.{sym, ◌∙◌}
use Rattle.enc_dispatch.specs.Asked.{left_of}
use Rattle.enc_dispatch.specs.Target.{first_given}
use Rattle.enc_dispatch.proofs.WalkSteps.{given_end, given_here, given_next}
use Rattle.enc_dispatch.proofs.free_walk.first_given.Goals as goal

pub returns-in-Some-given_by-clause-given : goal.returns-in-Some-given_by-clause-given
returns-in-Some-given_by-clause-given g c =
    let m = g.V.ModuleView.meaning c.args.view.now in
    given_here m c.args.declared c.loop-rest.climb.class (left_of m c.loop-rest.climb) (left_of m c.in-Some.rest) c.in-Some-given_by.method (first_given m c.args.declared (left_of m c.args.from))
    c.in-Some.ensures.path (sym c.given_by.ensures.given ∙ c.in-Some-given_by.is) c.loop-rest.invariant

pub loop-rest-preserved : goal.loop-rest-preserved
loop-rest-preserved g c =
    let m = g.V.ModuleView.meaning c.args.view.now in
    given_next m c.args.declared c.loop-rest.climb.class (left_of m c.loop-rest.climb) (left_of m c.in-Some.rest) (first_given m c.args.declared (left_of m c.args.from))
    c.in-Some.ensures.path (sym c.given_by.ensures.given ∙ c.in_default-given_by.is) c.loop-rest.invariant

pub returns-clause-given : goal.returns-clause-given
returns-clause-given g c =
    let m = g.V.ModuleView.meaning c.args.view.now in
    given_end m c.args.declared (left_of m c.loop-rest.climb) (first_given m c.args.declared (left_of m c.args.from)) c.in_default.ensures.path c.loop-rest.invariant
