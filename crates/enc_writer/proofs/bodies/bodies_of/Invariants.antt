use Rattle.std.proofs.Common.{◌≡◌}
use Rattle.enc_writer.specs.BodiesWriting.{ArePlacedUpto, HasRoom}
use Rattle.enc_writer.proofs.bodies.bodies_of.Given as goal

abbrev pub invariant-loop-k : goal.invariant-loop-k
invariant-loop-k g l = record {
  same : l.heaps ≡ l.fn.heaps;
  placed : ArePlacedUpto l.context.chain l.context.list l.k l.il.items l.methods;
  room : HasRoom l.context.list l.k l.il.items;
}
