use Rattle.std.proofs.Common.{sym}
use Rattle.enc_script.proofs.Watching.{on_ok, none_attached, was_attached}
use Rattle.enc_script.proofs.running.Running.attach.Goals as goal

pub returns-in_default-clause-ran : goal.returns-in_default-clause-ran
returns-in_default-clause-ran g c =
    rw (← c.self.view_is)
    (on_ok c.push_none.result _ _ (λ printed. none_attached c.args.kind c.self.inside.session c.take.new.self c.self.inside.handed c.push_none.new.out.items
    c.args.out.now.items (sym c.in_default.ensures.taken) c.in_default.ensures.left printed) c.push_none.ensures)

pub returns-clause-ran : goal.returns-clause-ran
returns-clause-ran g c =
    rw (← c.self.view_is)
    (on_ok c.push_attached.result _ _ (λ printed. was_attached c.args.kind _ c.in-Ok.number c.attach.new.self c.self.inside.session c.take.new.self
    c.self.inside.handed c.push_attached.new.out.items c.args.out.now.items (sym c.in-Some.ensures.taken) c.in-Ok.ensures.number c.in-Ok.ensures.ok
    c.in-Some.ensures.left printed) c.push_attached.ensures)
