use Rattle.std.proofs.Common.{arith}
use Rattle.enc_base.specs.Numbers.{padded}
use Rattle.enc_merge.proofs.heaps.il_merged.Goals as goal

pub overflow_sub-in_fours : goal.overflow_sub-in_fours
unfolding padded
overflow_sub-in_fours c = omega (arith, c.in_fours.ensures)

pub push_zeros-requires : goal.push_zeros-requires
unfolding padded
push_zeros-requires c = omega (arith, c.in_fours.ensures)
