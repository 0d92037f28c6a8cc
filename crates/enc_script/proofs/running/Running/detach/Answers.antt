use Rattle.std.proofs.Common.{sym}
use Rattle.enc_script.proofs.Watching.{on_ok, none_detached, was_detached}
use Rattle.enc_script.proofs.running.Running.detach.Goals as goal

pub returns-in_default-clause-ran : goal.returns-in_default-clause-ran
returns-in_default-clause-ran g c =
    rw (← c.self.view_is)
    (on_ok c.push_said.result _ _ (λ printed. none_detached c.args.number c.detach.new.self c.self.inside.session c.self.inside.handed c.push_said.new.out.items
    c.args.out.now.items (sym c.in_default.ensures.taken) c.detach.ensures.left printed) c.push_said.ensures)

pub returns-clause-ran : goal.returns-clause-ran
returns-clause-ran g c =
    rw (← c.self.view_is)
    (on_ok c.report.result _ _ (λ printed. was_detached c.args.number _ c.detach.new.self c.self.inside.session c.self.inside.handed c.report.new.out.items
    c.push_said-3.new.out.items c.push_said-2.new.out.items c.args.out.now.items (sym c.in-Some.ensures.taken) c.detach.ensures.left
    c.in_ok-push_said.ensures c.in_ok-push_said-2.ensures printed) c.report.ensures.ok)
