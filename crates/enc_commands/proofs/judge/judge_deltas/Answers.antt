use Rattle.std.proofs.Common.{◌≡◌, ◌+◌, ◌∷◌, [], ◌∙◌, length, map, sym, subst, arith, Err}
use Rattle.enc_commands.specs.Verdict.{judge_deltas}
use Rattle.enc_commands.specs.Loads.{file_seen, followed}
use Rattle.enc_commands.specs.Stops.{Comes}
use Rattle.enc_commands.proofs.Loading.{judged_more, judging_stops, judged_none, none_left}
use Rattle.enc_commands.proofs.judge.judge_deltas.Goals as goal

pub loop-file-preserved : goal.loop-file-preserved
loop-file-preserved c =
    let items : c.loop-file.file-iterator.rest.items ≡ c.in-Some.file ∷ c.next.new.self.rest.items = c.in-Some.ensures.steps.0 in
    record {
      next = tt;
      finite = tt;
      many = let one : length c.loop-file.file-iterator.rest.items ≡ length c.next.new.self.rest.items + 1 = rw items (omega arith) in omega (arith, one, c.in-Some.ensures.steps.1, c.loop-file.invariant.many);
      judged = c.loop-file.invariant.judged ∙ rw items (judged_more {U = Unit {0}} c.loop-file.chain c.judge_delta.new.chain (file_seen c.in-Some.file) _ tt c.in_ok-judge_delta.ensures.step);
    }

pub returns-in_err-judge_delta-clause-step : goal.returns-in_err-judge_delta-clause-step
returns-in_err-judge_delta-clause-step c =
    let items : c.loop-file.file-iterator.rest.items ≡ c.in-Some.file ∷ c.next.new.self.rest.items = c.in-Some.ensures.steps.0 in
    let gone : c.from_residual.result ≡ Err c.in_err-judge_delta.field-0.0 = grind arith in
    subst (λ r. Comes (λ u. followed c.judge_delta.new.chain) r (judge_deltas (followed c.args.chain.now) (map file_seen c.args.files.items))) (sym gone) (rw (c.loop-file.invariant.judged, items) (judging_stops _ (file_seen c.in-Some.file) _ c.in_err-judge_delta.field-0.0 c.in_err-judge_delta.ensures.step))

pub returns-clause-step : goal.returns-clause-step
returns-clause-step c =
    let none : c.loop-file.file-iterator.rest.items ≡ [] = none_left _ (omega (arith, c.in-None.ensures.steps.0, c.loop-file.invariant.many)) in
    c.loop-file.invariant.judged ∙ rw none (judged_none _)
