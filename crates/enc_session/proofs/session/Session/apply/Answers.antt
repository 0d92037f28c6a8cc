use Rattle.std.proofs.Common.{ap}
use Rattle.enc_session.proofs.Turned.{apply_has_passed}
use Rattle.enc_session.specs.Engine.{PlainEngine}
use Rattle.enc_session.specs.Session.{files_in}
use Rattle.enc_session.proofs.session.Session.apply.Goals as goal

pub returns-clause-passed : goal.returns-clause-passed
returns-clause-passed g c =
    rw (← c.self.view_is)
    (apply_has_passed (files_in c.args.files) _ _ c.in_ok-applied.applied c.tell.new.out.items c.make_room.new.out.items c.args.out.now.items
    c.in_ok-applied.ensures.applied (ap (λ (e : PlainEngine). e.followed) c.in_ok-applied.ensures.ok) (ap (λ (e : PlainEngine). e.machine) c.in_ok-applied.ensures.ok)
    c.tell.ensures.given c.make_room.ensures.same (rw c.applied_event.ensures at c.tell.ensures.told))
