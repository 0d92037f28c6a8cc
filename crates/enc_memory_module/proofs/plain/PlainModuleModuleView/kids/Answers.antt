use Rattle.std.proofs.Common.{ap, arith}
use Rattle.enc_memory_module.specs.Plain.{InMemory}
use Rattle.enc_plain.specs.Sound.{IsSound}
use Rattle.enc_plain.proofs.Owned.{few_kids}
use Rattle.enc_memory_module.proofs.plain.PlainModuleModuleView.kids.Goals as goal

pub overflow_cast-result : goal.overflow_cast-result
overflow_cast-result c =
    let sound : IsSound c.args.self.now.plain = rw (ap (λ (m : InMemory). m.plain) c.self.view_is) at c.self.invariant.sound in
    let few = few_kids c.args.self.now.plain c.args.owner c.args.table sound.owners.owned c.requires.table in
    let all = sound.counts.few c.args.table in
    rw c.kids_in.ensures (omega (arith, few, all))
