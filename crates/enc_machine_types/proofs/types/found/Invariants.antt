use Rattle.std.proofs.Common.{◌≡◌, map, drop}
use Rattle.enc_machine_types.specs.Types.{found}
use Rattle.enc_machine_types.specs.Seen.{system_kind_seen}
use Rattle.enc_machine_types.proofs.types.found.Given as goal

abbrev pub invariant-loop-row : goal.invariant-loop-row
invariant-loop-row l = found l.name (map system_kind_seen l.rows) ≡ found l.name (map system_kind_seen (drop l.row-index l.rows))
