use Rattle.std.proofs.Common.{◌∙◌, arith}
use Rattle.enc_script.proofs.Stepping.{goes_on, ends, halts, none_left}
use Rattle.enc_script.proofs.steps.make_steps.Goals as goal

pub loop-made-preserved : goal.loop-made-preserved
loop-made-preserved g c = (
  goes_on c.args.task c.args.count c.loop-made.made c.in_ok-step.field-0 c.args.session.now c.loop-made.session c.step.new.self
      c.step.new.out.items c.loop-made.out.items c.args.out.now.items c.loop-made.invariant.0 c.loop-made-test.true c.in-Ran.is c.in_ok-step.ensures.end
      c.in_ok-step.ensures.passed,
  c.in_ok-step.ensures.given ∙ c.loop-made.invariant.1,
)

pub returns-in-Ended-clause-stepped : goal.returns-in-Ended-clause-stepped
returns-in-Ended-clause-stepped g c =
    ends c.args.task c.args.count c.loop-made.made c.in_ok-step.field-0 c.args.session.now c.loop-made.session c.step.new.self
    c.step.new.out.items c.loop-made.out.items c.args.out.now.items c.loop-made.invariant.0 c.loop-made-test.true c.in-Ended.is c.in_ok-step.ensures.end
    c.in_ok-step.ensures.passed

pub returns-in-Trapped : goal.returns-in-Trapped
returns-in-Trapped g c = record {
  stepped =
      halts c.args.task c.args.count c.loop-made.made c.in_ok-step.field-0 c.args.session.now c.loop-made.session c.step.new.self
      c.step.new.out.items c.loop-made.out.items c.args.out.now.items c.loop-made.invariant.0 c.loop-made-test.true c.in-Trapped.is c.in_ok-step.ensures.end
      c.in_ok-step.ensures.passed;
  given = c.in_ok-step.ensures.given ∙ c.loop-made.invariant.1;
}

pub returns-clause-stepped : goal.returns-clause-stepped
returns-clause-stepped g c =
    none_left c.args.task c.args.count c.loop-made.made c.args.session.now c.loop-made.session c.loop-made.out.items c.args.out.now.items
    c.loop-made.invariant.0 (omega arith)
