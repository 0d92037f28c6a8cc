use Rattle.std.proofs.Common.{arith}
use Rattle.enc_lookup.proofs.NoKids.{none_named}
use Rattle.enc_lookup.proofs.members.push_kids.Goals as goal

pub returns-then-not-is_row : goal.returns-then-not-is_row
returns-then-not-is_row g c =
    none_named (g.V.ModuleView.meaning c.args.view.now) c.args.wanted.table c.args.wanted.name.now c.args.owner c.args.found.now.items cc
