use Rattle.std.proofs.Common.{refl}
use Rattle.enc_memory_module.proofs.Begun.{sound_begun}
use Rattle.enc_memory_module.proofs.plain.PlainModule.begin.Goals as goal

pub invariant_of-result : goal.invariant_of-result
invariant_of-result c = rw (c.in_ok-tables.ensures, c.in_ok-row.ensures) (record {
  sound = sound_begun c.args.name.now c.args.mvid c.requires c.sixteen.ensures;
  bodies = rw c.new-2.ensures.items refl;
  texts = rw c.new-2.ensures.items refl;
})
