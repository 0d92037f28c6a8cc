use Rattle.std.proofs.Common.{◌-◌, ap, sym, ◌∙◌, subst}
use Rattle.std.specs.Prelude.{option_copied, slice_get}
use Rattle.enc_plain.proofs.KindsOf.{row_bounds}
use Rattle.enc_meta.specs.Heaps.{user_at}
use Rattle.enc_memory_module.specs.Encoded.{has_texts, HoldsCodes}
use Rattle.enc_memory_module.specs.Plain.{InMemory}
use Rattle.enc_memory_module.proofs.Rest.{at_place}
use Rattle.enc_memory_module.proofs.HeldBodies.{held_stands, some_held}
use Rattle.enc_memory_module.proofs.plain.PlainModule.held_code.Goals as goal

pub overflow_sub-method : goal.overflow_sub-method
overflow_sub-method c = (row_bounds c.args.self.now.plain c.args.method c.requires.row).0

pub unreachable-requires : goal.unreachable-requires
unreachable-requires c =
    let holds = subst (λ (m : InMemory). HoldsCodes m.plain m.users c.self.inside.codes.items) c.self.view_is c.self.invariant in
    some_held c.args.self.now.plain c.args.self.now.users c.self.inside.codes.items c.args.method holds c.requires.row c.requires.table
    (ap (λ codes. slice_get codes (c.args.method.row - 1)) (sym c.deref.ensures.value) ∙ sym c.code_at.ensures ∙ ap option_copied c.in-None.is)

pub returns-clause-cell : goal.returns-clause-cell
returns-clause-cell c =
    let holds = subst (λ (m : InMemory). HoldsCodes m.plain m.users c.self.inside.codes.items) c.self.view_is c.self.invariant in
    held_stands c.args.self.now.plain c.args.self.now.users c.self.inside.codes.items c.args.method c.in-Some.code.now holds c.requires.row c.requires.table
    (ap (λ codes. slice_get codes (c.args.method.row - 1)) (sym c.deref.ensures.value) ∙ sym c.code_at.ensures ∙ ap option_copied c.in-Some.is)

pub returns-clause-texts : goal.returns-clause-texts
returns-clause-texts c =
    let holds = subst (λ (m : InMemory). HoldsCodes m.plain m.users c.self.inside.codes.items) c.self.view_is c.self.invariant in
    at_place (has_texts (user_at c.args.self.now.users)) c.self.inside.codes.items (c.args.method.row - 1) c.in-Some.code.now holds.texts
    (ap (λ codes. slice_get codes (c.args.method.row - 1)) (sym c.deref.ensures.value) ∙ sym c.code_at.ensures ∙ ap option_copied c.in-Some.is)
