use Rattle.std.proofs.Common.{◌≡◌, take}
use Rattle.enc_plain.specs.Module.{kids_of}
use Rattle.enc_agg.specs.Seen.{module_of_all}
use Rattle.enc_agg.proofs.earlier.EarlierModuleView.kid_rows.Given as goal

-- the children so far
abbrev pub invariant-loop-i : goal.invariant-loop-i
invariant-loop-i l = l.rows.items ≡ take l.i (kids_of (module_of_all l.self) l.owner l.table)
