use Rattle.std.proofs.Common.{◌≡◌, None}
use Rattle.enc_base.specs.Order.{first_below}
use Rattle.enc_image.specs.Base.{offset_fault_in_row}
use Rattle.enc_image.specs.Seen.{source_seen}
use Rattle.enc_image.proofs.judge.offset_fault_in.Given as goal

abbrev pub invariant-loop-r : goal.invariant-loop-r
invariant-loop-r l = first_below (offset_fault_in_row (source_seen l.cells) l.table) l.r ≡ None
