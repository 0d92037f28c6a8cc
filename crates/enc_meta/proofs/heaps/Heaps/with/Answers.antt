use Rattle.std.proofs.Common.{arith}
use Rattle.enc_meta.specs.Heaps.{heaps_of}
use Rattle.enc_meta.proofs.Lengths.{lengths_few}
use Rattle.enc_meta.proofs.heaps.Heaps.with.Goals as goal

pub invariant_of-result : goal.invariant_of-result
unfolding heaps_of
invariant_of-result c =
    let few = lengths_few c.args.bytes.now c.args.root.now (λ i. omega (arith, c.type_inv.bytes i)) c.requires.root in
    (c.counted_strings.ensures.last, rw (c.counted_strings.ensures.counted, c.part.ensures.part, c.part-2.ensures.part, c.part-3.ensures.part, c.part-4.ensures.part) few)
