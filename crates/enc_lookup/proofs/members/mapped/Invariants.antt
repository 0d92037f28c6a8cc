use Rattle.std.proofs.Common.{◌≡◌}
use Rattle.enc_lookup.specs.Members.{named_upto}
use Rattle.enc_lookup.proofs.members.mapped.Given as goal

abbrev pub invariant-loop-n : goal.invariant-loop-n
invariant-loop-n g l = l.found.items ≡ named_upto (g.V.ModuleView.meaning l.view) l.wanted.table l.wanted.name.now l.owned l.n
