use Rattle.std.proofs.Common.{◌≡◌, true, arith}
use Rattle.std.specs.Prelude.{◌==◌}
use Rattle.std.proofs.lemmas.Bool.Decides.{nat_tests}
use Rattle.enc_machine_types.specs.Outside.{outside_of}
use Rattle.enc_machine_types.proofs.members_outside.outside_of.Goals as goal

pub returns-clause-member : goal.returns-clause-member
unfolding outside_of
returns-clause-member g c =
    let e : (c.args.token.table == 0x0A) ≡ true = grind (arith, nat_tests) in
    rw e c.first_member.ensures
