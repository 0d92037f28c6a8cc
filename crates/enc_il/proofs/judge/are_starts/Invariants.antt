use Rattle.std.proofs.Common.{◌≡◌, drop}
use Rattle.std.specs.List.{list_all}
use Rattle.enc_il.specs.Judged.{mark_at}
use Rattle.enc_il.proofs.judge.are_starts.Given as goal

-- what is left decides
abbrev pub invariant-loop-offset : goal.invariant-loop-offset
invariant-loop-offset l = list_all (mark_at l.marks) (drop l.offset-index l.offsets) ≡ list_all (mark_at l.marks) l.offsets
