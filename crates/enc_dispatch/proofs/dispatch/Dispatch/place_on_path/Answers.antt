use Rattle.std.proofs.Common.{sym, ◌∙◌, arith}
use Rattle.enc_dispatch.specs.Walked.{left_in}
use Rattle.enc_dispatch.proofs.Climbs.{place_end, place_here, place_next}
use Rattle.enc_dispatch.proofs.dispatch.Dispatch.place_on_path.Goals as goal

pub returns-then-is_same : goal.returns-then-is_same
returns-then-is_same c =
    place_here c.args.base c.loop-rest.climb.class (left_in c.args.self.now c.loop-rest.climb) (left_in c.args.self.now c.in-Some.rest) c.loop-rest.place _
    c.in-Some.ensures.path (sym c.is_same.ensures ∙ c.if-is_same.true) c.loop-rest.invariant.0

pub loop-rest-preserved : goal.loop-rest-preserved
loop-rest-preserved c = (
  place_next c.args.base c.loop-rest.climb.class (left_in c.args.self.now c.loop-rest.climb) (left_in c.args.self.now c.in-Some.rest) c.loop-rest.place _
      c.in-Some.ensures.path (sym c.is_same.ensures ∙ c.if-is_same.false) c.loop-rest.invariant.0,
  omega (arith, c.loop-rest.invariant.1, c.in-Some.ensures.less),
)

pub returns : goal.returns
returns c = place_end c.args.base (left_in c.args.self.now c.loop-rest.climb) c.loop-rest.place _ c.in_default.ensures.path c.loop-rest.invariant.0
