use Rattle.std.proofs.Common.{refl, sym, ◌∙◌, arith}
use Rattle.enc_session.proofs.Stepping.{none_ran, ran_more, ended_behind, stopped_behind}
use Rattle.enc_session.proofs.recording.Recording.steps.Goals as goal

pub loop-ran-init : goal.loop-ran-init
loop-ran-init c = (none_ran c.args.task c.args.self.now, omega arith, refl, omega arith)

pub loop-ran-preserved : goal.loop-ran-preserved
loop-ran-preserved c =
    let few = c.loop-ran.invariant.1 in let more = c.in-Ok.ensures.few in let left = c.loop-ran-test.true in (
      ran_more c.args.task c.loop-ran.ran c.step.new.self c.loop-ran.self c.args.self.now c.loop-ran.invariant.0 (sym c.in-Ran.is ∙ c.in-Ok.ensures.end)
          c.in-Ok.ensures.recorded,
      omega (arith, few, more),
      c.in-Ok.ensures.limit ∙ c.loop-ran.invariant.2,
      omega (arith, left),
    )

pub returns-in-Ended-clause-stepped : goal.returns-in-Ended-clause-stepped
returns-in-Ended-clause-stepped c =
    ended_behind c.args.task c.args.count c.loop-ran.ran c.step.new.self c.loop-ran.self c.args.self.now c.loop-ran-test.true c.loop-ran.invariant.0
    (sym c.in-Ended.is ∙ c.in-Ok.ensures.end) c.in-Ok.ensures.recorded

pub returns-in_default-end : goal.returns-in_default-end
returns-in_default-end c =
    let few = c.loop-ran.invariant.1 in let more = c.in-Ok.ensures.few in let left = c.loop-ran-test.true in
    record {
      stepped =
          stopped_behind c.args.task c.args.count c.loop-ran.ran c.in-Ok.end c.step.new.self c.loop-ran.self c.args.self.now c.in_default-end.not-Ran
          c.in_default-end.not-Ended c.loop-ran-test.true c.loop-ran.invariant.0 c.in-Ok.ensures.end c.in-Ok.ensures.recorded;
      few = omega (arith, few, more, left);
    }
