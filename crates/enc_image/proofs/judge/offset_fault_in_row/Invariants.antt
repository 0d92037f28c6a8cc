use Rattle.std.proofs.Common.{◌≡◌, None}
use Rattle.enc_base.specs.Token.{nth_row}
use Rattle.enc_base.specs.Order.{first_below}
use Rattle.enc_image.specs.Base.{offset_fault_at}
use Rattle.enc_image.specs.Seen.{source_seen}
use Rattle.enc_image.proofs.judge.offset_fault_in_row.Given as goal

abbrev pub invariant-loop-i : goal.invariant-loop-i
invariant-loop-i l = first_below (offset_fault_at (source_seen l.cells) (nth_row l.table l.r)) l.i ≡ None
