use Rattle.std.proofs.Common.{◌∙◌}
use Rattle.enc_meta.specs.Built.{unit_bytes}
use Rattle.enc_assembly.proofs.KeptUsers.{user_kept, not_refused}
use Rattle.enc_assembly.proofs.instr.user_offset.Goals as goal

pub unreachable-requires : goal.unreachable-requires
unreachable-requires c =
    let kept = (user_kept c.args.heaps.now (unit_bytes c.args.units.now) c.requires).1 in
    not_refused c.add_user.result _ _ _ _ c.in-Err-TooLarge.is c.in-Err-TooLarge.field-0-is kept c.add_user.ensures.refused

pub returns-in-Ok-clause-same : goal.returns-in-Ok-clause-same
returns-in-Ok-clause-same c =
    let kept = (user_kept c.args.heaps.now (unit_bytes c.args.units.now) c.requires).0 in
    c.in-Ok.ensures.added ∙ kept
