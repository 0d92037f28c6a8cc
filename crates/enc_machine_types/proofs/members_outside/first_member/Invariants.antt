use Rattle.std.proofs.Common.{◌≡◌, map, drop}
use Rattle.enc_machine_types.specs.Outside.{first_member}
use Rattle.enc_machine_types.specs.Seen.{member_seen}
use Rattle.enc_machine_types.proofs.members_outside.first_member.Given as goal

abbrev pub invariant-loop-row : goal.invariant-loop-row
invariant-loop-row g l = first_member (g.V.ModuleView.meaning l.view) l.token (map member_seen l.rows) ≡ first_member (g.V.ModuleView.meaning l.view) l.token (map member_seen (drop l.row-index l.rows))
