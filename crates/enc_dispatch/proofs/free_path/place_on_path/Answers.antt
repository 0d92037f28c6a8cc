use Rattle.std.proofs.Common.{sym, ◌∙◌, arith}
use Rattle.enc_dispatch.specs.Asked.{left_of}
use Rattle.enc_plain.specs.ClassPath.{path_of}
use Rattle.enc_dispatch.specs.Walked.{place_on}
use Rattle.enc_dispatch.proofs.Climbs.{place_end, place_here, place_next}
use Rattle.enc_dispatch.proofs.free_path.place_on_path.Goals as goal

pub returns-then-is_same : goal.returns-then-is_same
returns-then-is_same g c =
    let m = g.V.ModuleView.meaning c.args.view.now in
    place_here c.args.base c.loop-rest.climb.class (left_of m c.loop-rest.climb) (left_of m c.in-Some.rest) c.loop-rest.place (place_on c.args.base (path_of m c.args.class))
    c.in-Some.ensures.path (sym c.is_same.ensures ∙ c.if-is_same.true) c.loop-rest.invariant.0

pub loop-rest-preserved : goal.loop-rest-preserved
loop-rest-preserved g c =
    let m = g.V.ModuleView.meaning c.args.view.now in (
      place_next c.args.base c.loop-rest.climb.class (left_of m c.loop-rest.climb) (left_of m c.in-Some.rest) c.loop-rest.place (place_on c.args.base (path_of m c.args.class))
          c.in-Some.ensures.path (sym c.is_same.ensures ∙ c.if-is_same.false) c.loop-rest.invariant.0,
      omega (arith, c.loop-rest.invariant.1, c.in-Some.ensures.less),
    )

pub returns : goal.returns
returns g c =
    let m = g.V.ModuleView.meaning c.args.view.now in
    place_end c.args.base (left_of m c.loop-rest.climb) c.loop-rest.place (place_on c.args.base (path_of m c.args.class)) c.in_default.ensures.path c.loop-rest.invariant.0
