use Rattle.std.proofs.Common.{◌≡◌, ap, length, arith}
use Rattle.enc_base.specs.Numbers.{padded}
use Rattle.enc_merged_delta.specs.Held.{first_loaded}
use Rattle.enc_merge.proofs.last.Last.shift.Goals as goal

pub overflow_cast-result : goal.overflow_cast-result
unfolding padded
overflow_cast-result c =
    let is : length (first_loaded c.self.inside.first.now.loaded) ≡ length c.il.result.now = ap (λ xs. length (first_loaded xs)) c.il.ensures in
    let few = c.self.invariant.code in
    omega (arith, is, few, c.in_fours.ensures)
