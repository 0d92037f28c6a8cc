use Rattle.std.proofs.Common.{arith}
use Rattle.enc_objects.proofs.Storing.{one_more, parts_more, one_more_fits, more_parts_fit}
use Rattle.enc_objects.proofs.objects.Objects.add.Goals as goal

pub invariant_of-self-2 : goal.invariant_of-self-2
invariant_of-self-2 c =
    let full = rw (← c.self.view_is) at c.requires in
    let one = one_more_fits _ _ full in
    let parts = more_parts_fit _ _ full in
    let long = one_more _ _ _ c.in_ok-push.ensures.items in
    let all = parts_more _ _ _ c.in_ok-push.ensures.items in
    (omega (arith, one, long), omega (arith, parts, c.self.invariant, c.parts-parts.ensures.parts), omega (arith, all, c.self.invariant, c.parts-parts.ensures.parts))
