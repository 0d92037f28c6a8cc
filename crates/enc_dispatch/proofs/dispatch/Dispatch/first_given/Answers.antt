use Rattle.std.proofs.Common.{sym, ◌∙◌}
use Rattle.enc_dispatch.specs.Walked.{left_in}
use Rattle.enc_dispatch.proofs.Turns.{given_end, given_here, given_next}
use Rattle.enc_dispatch.proofs.dispatch.Dispatch.first_given.Goals as goal

pub returns-in-Some-given_by : goal.returns-in-Some-given_by
returns-in-Some-given_by c =
    given_here c.args.self.now c.args.slot c.args.declared c.loop-rest.climb.class (left_in c.args.self.now c.loop-rest.climb) (left_in c.args.self.now c.in-Some.rest) c.in-Some-given_by.row _
    c.in-Some.ensures.path (sym c.given_by.ensures ∙ c.in-Some-given_by.is) c.loop-rest.invariant

pub loop-rest-preserved : goal.loop-rest-preserved
loop-rest-preserved c =
    given_next c.args.self.now c.args.slot c.args.declared c.loop-rest.climb.class (left_in c.args.self.now c.loop-rest.climb) (left_in c.args.self.now c.in-Some.rest) _
    c.in-Some.ensures.path (sym c.given_by.ensures ∙ c.in_default-given_by.is) c.loop-rest.invariant

pub returns : goal.returns
returns c = given_end c.args.self.now c.args.slot c.args.declared (left_in c.args.self.now c.loop-rest.climb) _ c.in_default.ensures.path c.loop-rest.invariant
