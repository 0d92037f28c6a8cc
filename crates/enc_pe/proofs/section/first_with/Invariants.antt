use Rattle.std.proofs.Common.{◌≡◌, ◌-◌}
use Rattle.std.specs.Prelude.{find}
use Rattle.enc_pe.specs.Sections.{sections_from, holds}
use Rattle.enc_pe.proofs.section.first_with.Given as goal

abbrev pub invariant-loop-i : goal.invariant-loop-i
invariant-loop-i l = find (holds l.rva l.len) (sections_from l.bytes l.at (l.count - l.i)) ≡ find (holds l.rva l.len) (sections_from l.bytes l.first l.count)
