use Rattle.std.proofs.Common.{◌≡◌, ◌-◌, ◌++◌}
use Rattle.enc_pe.specs.Sections.{sections_from}
use Rattle.enc_pe.proofs.sections.list_of.Given as goal

abbrev pub invariant-loop-i : goal.invariant-loop-i
invariant-loop-i l = (l.list.items ++ sections_from l.bytes l.at (l.count - l.i)) ≡ sections_from l.bytes l.first l.count
