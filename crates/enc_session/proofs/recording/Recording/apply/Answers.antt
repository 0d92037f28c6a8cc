use Rattle.std.proofs.Common.{Ok, Err}
use Rattle.enc_checker.specs.Check.{accepted}
use Rattle.enc_session.proofs.Recorded.{apply_is_recorded, apply_if_recorded}
use Rattle.enc_session.specs.Session.{files_in}
use Rattle.enc_session.proofs.recording.Recording.apply.Goals as goal

pub returns-in-Err-Refused-clause-recorded : goal.returns-in-Err-Refused-clause-recorded
returns-in-Err-Refused-clause-recorded c =
    rw (← c.self.view_is)
    (apply_is_recorded (files_in c.args.files) (Err c.in-Err-Refused.refusal) c.refuse.new.self _
    (rw c.in-Err-Refused.field-0-is at c.in-Err-Refused.ensures.answer) (rw (← c.self.view_is) at c.refuse.ensures.recorded))

pub returns-in-Ok-clause-recorded : goal.returns-in-Ok-clause-recorded
returns-in-Ok-clause-recorded c =
    rw (← c.self.view_is)
    (apply_if_recorded (files_in c.args.files) (Ok (accepted c.in-Ok.checked.delta c.in-Ok.checked.pdb)) c.follow.result c.follow.new.self _
    c.in-Ok.ensures.answer (rw (← c.self.view_is) at c.follow.ensures.recorded))
