use Rattle.enc_frames.specs.Machine.{version_world}
use Rattle.enc_session.proofs.Short.{short_within}
use Rattle.enc_session.proofs.room.write_units.Goals as goal

pub returns : goal.returns
returns g c users methods =
    short_within (version_world users (g.V.ModuleView.meaning c.args.view.now) methods) c.args.task c.args.machine.now c.has_text_on_top.result
    c.if-has_text_on_top.false c.has_text_on_top.ensures.short
