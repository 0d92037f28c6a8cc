use Rattle.enc_script.proofs.Commands.{whole_run}
use Rattle.enc_script.proofs.Watching.{on_ok}
use Rattle.enc_script.proofs.whole.run.Goals as goal

pub returns : goal.returns
returns g c =
    on_ok c.push_reports.result _ _ (λ printed. whole_run _ _ _ _ c.in_ok-running.running c.run_commands.new.running c.run_commands.new.out.items
    c.push_reports.new.out.items c.args.out.now.items c.in_ok-running.ensures c.in_ok-run_commands.ensures printed) c.push_reports.ensures
