use Rattle.std.proofs.Common.{◌≡◌, refl, ap, sym, subst, ◌∙◌, Err, arith}
use Rattle.std.specs.Prelude.{IfErr}
use Rattle.std.proofs.lemmas.Option.{slice_get_read}
use Rattle.enc_outside.specs.Outside.{HasCause}
use Rattle.enc_outside.specs.declared.store.SaveError.TheVariants.{Failed}
use Rattle.enc_commands.specs.Plans.{saves_of, SavesStop}
use Rattle.enc_commands.proofs.Saves.{after_none, after_more, stops_at}
use Rattle.enc_commands.proofs.Loading.{ok_stands, no_fault}
use Rattle.enc_commands.proofs.finish.save_all.Goals as goal

pub loop-save-init : goal.loop-save-init
loop-save-init g c = (after_none c.args.saves.now _, refl)

pub returns-in_err-save-clause-cause : goal.returns-in_err-save-clause-cause
returns-in_err-save-clause-cause g c =
    let gone : c.from_residual.result ≡ Err c.in_err-save.field-0.0 = grind arith in
    subst (λ r. HasCause Failed (g.S.Store.faults c.args.store.now) (g.S.Store.faults c.save.new.self) r) (sym gone) (rw c.loop-save.invariant.1 at c.in_err-save.ensures.cause)

pub returns-in_err-save-clause-stopped : goal.returns-in_err-save-clause-stopped
returns-in_err-save-clause-stopped g c =
    let gone : c.from_residual.result ≡ Err c.in_err-save.field-0.0 = grind arith in
    subst (λ r. IfErr r (λ e. SavesStop e (saves_of c.args.saves.now) (g.S.Store.told c.args.store.now) (g.S.Store.told c.save.new.self))) (sym gone) (stops_at c.in_err-save.field-0.0 _ _ c.save-item.result _ _ _ (slice_get_read c.args.saves.now _ _ c.save-item.result refl (omega arith) c.save-item.is) c.loop-save.invariant.0 (λ e. rw (← c.as_str.ensures.value, ← c.deref.ensures.value) (c.in_err-save.ensures.failed (ap (λ x. Err x) e))) (λ e. c.in_err-save.ensures.memory (ap (λ x. Err x) e)))

pub loop-save-preserved : goal.loop-save-preserved
loop-save-preserved g c = (c.in_ok-save.ensures.saved ∙ rw (c.as_str.ensures.value, c.deref.ensures.value, c.loop-save.invariant.0) (sym (after_more c.args.saves.now _ c.save-item.result _ (slice_get_read c.args.saves.now _ _ c.save-item.result refl (omega arith) c.save-item.is))), ok_stands _ _ _ _ c.in_ok-save.ensures.cause ∙ c.loop-save.invariant.1)

pub returns-clause-cause : goal.returns-clause-cause
returns-clause-cause g c = no_fault Failed _ _ _ c.loop-save.invariant.1
