use Rattle.std.proofs.Common.{◌≡◌, ap, sym, subst, ◌∙◌, false, Err}
use Rattle.std.specs.Prelude.{nat_lt, OnOk}
use Rattle.enc_rewriter.specs.Values.{with_all, all_values, heap_size, heap_limit, PassEnds}
use Rattle.enc_rewriter.specs.declared.pass.Pass.TheVariants.{Texts, Users, Blobs, Guids}
use Rattle.enc_rewriter.proofs.Limits.{no_heaps_begin, begins_after, after_texts, after_users, after_blobs, all_passes, texts_told, users_told, blobs_told, all_told}
use Rattle.enc_rewriter.proofs.gathering.gather.Goals as goal

pub add_pass-requires-clause-starts : goal.add_pass-requires-clause-starts
add_pass-requires-clause-starts g c = no_heaps_begin c.args.heaps.now c.requires.none

pub returns-in-Err-clause-tells : goal.returns-in-Err-clause-tells
returns-in-Err-clause-tells g c =
    let m = g.V.ModuleView.meaning c.args.view.now in
    texts_told c.in-Err.fault m (subst (λ h. PassEnds (Err c.in-Err.fault) Texts (with_all Texts h (all_values Texts m))) c.requires.none c.in-Err.ensures.ends)

pub add_pass-requires-2-clause-starts : goal.add_pass-requires-2-clause-starts
add_pass-requires-2-clause-starts g c =
    let m = g.V.ModuleView.meaning c.args.view.now in
    begins_after Texts c.args.heaps.now c.add_pass.new.heaps (all_values Texts m) c.in-Ok.ensures.added (no_heaps_begin c.args.heaps.now c.requires.none)

pub returns-in-Err-add_pass-clause-tells : goal.returns-in-Err-add_pass-clause-tells
returns-in-Err-add_pass-clause-tells g c =
    let m = g.V.ModuleView.meaning c.args.view.now in
    let a = subst (λ h. nat_lt (heap_limit Texts) (heap_size Texts (with_all Texts h (all_values Texts m))) ≡ false) c.requires.none c.in-Ok.ensures.ends in
    let e : c.add_pass.new.heaps ≡ after_texts m = c.in-Ok.ensures.added ∙ ap (λ h. with_all Texts h (all_values Texts m)) c.requires.none in
    users_told c.in-Err-add_pass.fault m a (subst (λ h. PassEnds (Err c.in-Err-add_pass.fault) Users (with_all Users h (all_values Users m))) e c.in-Err-add_pass.ensures.ends)

pub add_pass-requires-3-clause-starts : goal.add_pass-requires-3-clause-starts
add_pass-requires-3-clause-starts g c =
    let m = g.V.ModuleView.meaning c.args.view.now in
    begins_after Users c.add_pass.new.heaps c.add_pass-2.new.heaps (all_values Users m) c.in-Ok-add_pass.ensures.added
    (begins_after Texts c.args.heaps.now c.add_pass.new.heaps (all_values Texts m) c.in-Ok.ensures.added (no_heaps_begin c.args.heaps.now c.requires.none))

pub returns-in-Err-add_pass-2-clause-tells : goal.returns-in-Err-add_pass-2-clause-tells
returns-in-Err-add_pass-2-clause-tells g c =
    let m = g.V.ModuleView.meaning c.args.view.now in
    let a = subst (λ h. nat_lt (heap_limit Texts) (heap_size Texts (with_all Texts h (all_values Texts m))) ≡ false) c.requires.none c.in-Ok.ensures.ends in
    let e : c.add_pass.new.heaps ≡ after_texts m = c.in-Ok.ensures.added ∙ ap (λ h. with_all Texts h (all_values Texts m)) c.requires.none in
    let b = subst (λ h. nat_lt (heap_limit Users) (heap_size Users (with_all Users h (all_values Users m))) ≡ false) e c.in-Ok-add_pass.ensures.ends in
    let f : c.add_pass-2.new.heaps ≡ after_users m = c.in-Ok-add_pass.ensures.added ∙ ap (λ h. with_all Users h (all_values Users m)) e in
    blobs_told c.in-Err-add_pass-2.fault m a b (subst (λ h. PassEnds (Err c.in-Err-add_pass-2.fault) Blobs (with_all Blobs h (all_values Blobs m))) f c.in-Err-add_pass-2.ensures.ends)

pub add_pass-requires-4-clause-starts : goal.add_pass-requires-4-clause-starts
add_pass-requires-4-clause-starts g c =
    let m = g.V.ModuleView.meaning c.args.view.now in
    begins_after Blobs c.add_pass-2.new.heaps c.add_pass-3.new.heaps (all_values Blobs m) c.in-Ok-add_pass-2.ensures.added
    (begins_after Users c.add_pass.new.heaps c.add_pass-2.new.heaps (all_values Users m) c.in-Ok-add_pass.ensures.added
    (begins_after Texts c.args.heaps.now c.add_pass.new.heaps (all_values Texts m) c.in-Ok.ensures.added (no_heaps_begin c.args.heaps.now c.requires.none)))

pub returns-clause-gathered : goal.returns-clause-gathered
returns-clause-gathered g c =
    let m = g.V.ModuleView.meaning c.args.view.now in
    let e : c.add_pass.new.heaps ≡ after_texts m = c.in-Ok.ensures.added ∙ ap (λ h. with_all Texts h (all_values Texts m)) c.requires.none in
    let f : c.add_pass-2.new.heaps ≡ after_users m = c.in-Ok-add_pass.ensures.added ∙ ap (λ h. with_all Users h (all_values Users m)) e in
    let h : c.add_pass-3.new.heaps ≡ after_blobs m = c.in-Ok-add_pass-2.ensures.added ∙ ap (λ k. with_all Blobs k (all_values Blobs m)) f in
    let i = ap (λ k. with_all Guids k (all_values Guids m)) h ∙ sym (all_passes m) in
    subst (λ k. OnOk c.add_pass-4.result (c.add_pass-4.new.heaps ≡ k)) i c.add_pass-4.ensures.added

pub returns-clause-tells : goal.returns-clause-tells
returns-clause-tells g c =
    let m = g.V.ModuleView.meaning c.args.view.now in
    let a = subst (λ h. nat_lt (heap_limit Texts) (heap_size Texts (with_all Texts h (all_values Texts m))) ≡ false) c.requires.none c.in-Ok.ensures.ends in
    let e : c.add_pass.new.heaps ≡ after_texts m = c.in-Ok.ensures.added ∙ ap (λ h. with_all Texts h (all_values Texts m)) c.requires.none in
    let b = subst (λ h. nat_lt (heap_limit Users) (heap_size Users (with_all Users h (all_values Users m))) ≡ false) e c.in-Ok-add_pass.ensures.ends in
    let f : c.add_pass-2.new.heaps ≡ after_users m = c.in-Ok-add_pass.ensures.added ∙ ap (λ h. with_all Users h (all_values Users m)) e in
    let d = subst (λ h. nat_lt (heap_limit Blobs) (heap_size Blobs (with_all Blobs h (all_values Blobs m))) ≡ false) f c.in-Ok-add_pass-2.ensures.ends in
    let h : c.add_pass-3.new.heaps ≡ after_blobs m = c.in-Ok-add_pass-2.ensures.added ∙ ap (λ k. with_all Blobs k (all_values Blobs m)) f in
    let i = ap (λ k. with_all Guids k (all_values Guids m)) h ∙ sym (all_passes m) in
    all_told c.add_pass-4.result m a b d (subst (λ k. PassEnds c.add_pass-4.result Guids k) i c.add_pass-4.ensures.ends)
