use Rattle.std.proofs.Common.{◌≡◌, ◌++◌, filter, take}
use Rattle.enc_lookup.specs.Members.{is_called}
use Rattle.enc_lookup.proofs.members.push_named.Given as goal

abbrev pub invariant-loop-row : goal.invariant-loop-row
invariant-loop-row g l = l.found.items ≡ l.fn.found.items ++ filter (is_called (g.V.ModuleView.meaning l.view) l.wanted.table l.wanted.name.now) (take l.row-index l.rows)
