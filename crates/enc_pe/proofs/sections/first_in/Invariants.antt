use Rattle.std.proofs.Common.{◌≡◌, drop}
use Rattle.std.specs.Prelude.{find}
use Rattle.enc_pe.specs.Sections.{holds}
use Rattle.enc_pe.proofs.sections.first_in.Given as goal

abbrev pub invariant-loop-i : goal.invariant-loop-i
invariant-loop-i l = find (holds l.rva l.len) l.list ≡ find (holds l.rva l.len) (drop l.i l.list)
