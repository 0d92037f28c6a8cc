use Rattle.std.proofs.Common.{refl, sym, ap, ◌∙◌}
use Rattle.std.specs.Prelude.{option_map}
use Rattle.enc_plain.specs.Cell.{cell_kind}
use Rattle.enc_memory_module.specs.Plain.{InMemory}
use Rattle.enc_plain.specs.Sound.{IsSound}
use Rattle.enc_plain.proofs.Held.{kind_is}
use Rattle.enc_memory_module.proofs.plain.PlainModule.cell.Goals as goal

pub returns-clause-kind : goal.returns-clause-kind
returns-clause-kind c =
    let sound : IsSound c.args.self.now.plain = rw (ap (λ (m : InMemory). m.plain) c.self.view_is) at c.self.invariant.sound in
    kind_is c.args.self.now.plain c.args.row c.args.column sound c.requires.row c.requires.kind ∙ ap (λ o. option_map cell_kind o) (sym c.found.ensures) ∙ (rw c.in-Some.is refl)
