use Rattle.std.proofs.Common.{refl}
use Rattle.enc_session.proofs.Remapping.{remap_is_passed}
use Rattle.enc_session.proofs.session.Session.remap.Goals as goal

pub returns-clause-passed : goal.returns-clause-passed
returns-clause-passed g c =
    rw (← c.self.view_is)
    (remap_is_passed c.args.task c.args.map.now c.remap.result _ _ c.args.out.now.items c.args.out.now.items c.remap.ensures.remapped c.remap.ensures.followed
    refl refl)
