use Rattle.enc_base.specs.declared.refusal.StreamName.TheVariants.{Users}
use Rattle.enc_meta.specs.Built.{unit_bytes, with_user, user_passes}
use Rattle.enc_rules.proofs.Filling.{fills_refused, refused_user}
use Rattle.enc_rules.proofs.heaps.add_user.Goals as goal

pub returns-in-Err : goal.returns-in-Err
returns-in-Err c = fills_refused c.in-Err.fault Users (user_passes c.args.heaps.now (unit_bytes c.args.units.now)) c.add_user.new.self (with_user c.args.heaps.now (unit_bytes c.args.units.now)) (refused_user c.args.heaps.now (unit_bytes c.args.units.now)) c.in-Err.ensures.refused
