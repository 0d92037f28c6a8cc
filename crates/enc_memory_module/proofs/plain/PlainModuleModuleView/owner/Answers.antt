use Rattle.std.proofs.Common.{ap, sym}
use Rattle.enc_memory_module.specs.Plain.{InMemory}
use Rattle.enc_plain.specs.Sound.{IsSound}
use Rattle.enc_plain.proofs.Owned.{child_owned}
use Rattle.enc_memory_module.proofs.plain.PlainModuleModuleView.owner.Goals as goal

pub unreachable-requires : goal.unreachable-requires
unreachable-requires c =
    let sound : IsSound c.args.self.now.plain = rw (ap (λ (m : InMemory). m.plain) c.self.view_is) at c.self.invariant.sound in
    child_owned c.args.self.now.plain c.args.child _ sound.owners.owned c.requires.row c.requires.table (sym c.owner_found.ensures) c.in-None.is
