use Rattle.std.proofs.Common.{ap}
use Rattle.std.specs.Prelude.{Result}
use Rattle.enc_base.specs.declared.refusal.Refusal.{Refusal}
use Rattle.enc_checker.specs.Check.{Accepted}
use Rattle.enc_commands.specs.Verdict.{in_delta}
use Rattle.enc_commands.specs.Loads.{file_seen}
use Rattle.enc_commands.proofs.judge.judge_delta.Goals as goal

pub returns-in-Ok-clause-step : goal.returns-in-Ok-clause-step
returns-in-Ok-clause-step c =
    let a = c.in-Ok.ensures in
    (a.0, ap (λ (r : Result Accepted Refusal). in_delta (file_seen c.args.file) r) a.1, a.2)
