use Rattle.std.proofs.Common.{◌≡◌, ◌++◌, take}
use Rattle.std.specs.Prelude.{flat_map}
use Rattle.enc_text.specs.RowText.{kid_text}
use Rattle.enc_text.proofs.rows.push_each_kid.Given as goal

-- the children so far are appended
abbrev pub invariant-loop-row : goal.invariant-loop-row
invariant-loop-row l = l.out.items ≡ l.fn.out.items ++ flat_map (kid_text l.child) (take l.row-index l.rows)
