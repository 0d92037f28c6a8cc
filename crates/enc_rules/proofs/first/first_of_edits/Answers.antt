use Rattle.std.proofs.Common.{[], ◌∷◌, length, None, sym}
use Rattle.enc_rules.specs.Rules.{heap_passes, row_is_edited_twice, owner_is_missing, table_is_closed, token_is_missing, body_is_broken, field_is_out_of_layout, method_has_no_slot, member_has_twin, signature_is_bad, locals_are_bad, points_are_bad}
use Rattle.enc_rules.proofs.SoonestRule.{none_asked, asked}
use Rattle.enc_rules.proofs.first.first_of_edits.Goals as goal

pub returns : goal.returns
returns g c =
    let chain = c.args.context.now.chain in
    let list = c.args.context.now.list in
    let n = length list.edits in
    let e1 = asked [] (5, heap_passes) chain list n c.sooner-first.result None _ (sym (none_asked chain list n)) c.in_ok-heap_passes.ensures.first c.sooner-first.ensures in
    let e2 = asked ((5, heap_passes) ∷ []) (6, row_is_edited_twice) chain list n c.sooner-first-2.result c.sooner-first.result _ e1 c.in_ok-row_is_edited_twice.ensures.first c.sooner-first-2.ensures in
    let e3 = asked ((5, heap_passes) ∷ (6, row_is_edited_twice) ∷ []) (10, owner_is_missing) chain list n c.sooner-first-3.result c.sooner-first-2.result _ e2 c.owner_is_missing.ensures.first c.sooner-first-3.ensures in
    let e4 = asked ((5, heap_passes) ∷ (6, row_is_edited_twice) ∷ (10, owner_is_missing) ∷ []) (12, table_is_closed) chain list n c.sooner-first-4.result c.sooner-first-3.result _ e3 c.table_is_closed.ensures.first c.sooner-first-4.ensures in
    let e5 = asked ((5, heap_passes) ∷ (6, row_is_edited_twice) ∷ (10, owner_is_missing) ∷ (12, table_is_closed) ∷ []) (13, token_is_missing) chain list n c.sooner-first-5.result c.sooner-first-4.result _ e4 c.token_is_missing.ensures.first c.sooner-first-5.ensures in
    let e6 = asked ((5, heap_passes) ∷ (6, row_is_edited_twice) ∷ (10, owner_is_missing) ∷ (12, table_is_closed) ∷ (13, token_is_missing) ∷ []) (16, body_is_broken) chain list n c.sooner-first-6.result c.sooner-first-5.result _ e5 c.in_ok-body_is_broken.ensures.first c.sooner-first-6.ensures in
    let e7 = asked ((5, heap_passes) ∷ (6, row_is_edited_twice) ∷ (10, owner_is_missing) ∷ (12, table_is_closed) ∷ (13, token_is_missing) ∷ (16, body_is_broken) ∷ []) (18, field_is_out_of_layout) chain list n c.sooner-first-7.result c.sooner-first-6.result _ e6 c.field_is_out_of_layout.ensures.first c.sooner-first-7.ensures in
    let e8 = asked ((5, heap_passes) ∷ (6, row_is_edited_twice) ∷ (10, owner_is_missing) ∷ (12, table_is_closed) ∷ (13, token_is_missing) ∷ (16, body_is_broken) ∷ (18, field_is_out_of_layout) ∷ []) (19, method_has_no_slot) chain list n c.sooner-first-8.result c.sooner-first-7.result _ e7 c.method_has_no_slot.ensures.first c.sooner-first-8.ensures in
    let e9 = asked ((5, heap_passes) ∷ (6, row_is_edited_twice) ∷ (10, owner_is_missing) ∷ (12, table_is_closed) ∷ (13, token_is_missing) ∷ (16, body_is_broken) ∷ (18, field_is_out_of_layout) ∷ (19, method_has_no_slot) ∷ []) (20, member_has_twin) chain list n c.sooner-first-9.result c.sooner-first-8.result _ e8 c.in_ok-member_has_twin.ensures.first c.sooner-first-9.ensures in
    let e10 = asked ((5, heap_passes) ∷ (6, row_is_edited_twice) ∷ (10, owner_is_missing) ∷ (12, table_is_closed) ∷ (13, token_is_missing) ∷ (16, body_is_broken) ∷ (18, field_is_out_of_layout) ∷ (19, method_has_no_slot) ∷ (20, member_has_twin) ∷ []) (21, signature_is_bad) chain list n c.sooner-first-10.result c.sooner-first-9.result _ e9 c.signature_is_bad.ensures.first c.sooner-first-10.ensures in
    let e11 = asked ((5, heap_passes) ∷ (6, row_is_edited_twice) ∷ (10, owner_is_missing) ∷ (12, table_is_closed) ∷ (13, token_is_missing) ∷ (16, body_is_broken) ∷ (18, field_is_out_of_layout) ∷ (19, method_has_no_slot) ∷ (20, member_has_twin) ∷ (21, signature_is_bad) ∷ []) (23, locals_are_bad) chain list n c.sooner-first-11.result c.sooner-first-10.result _ e10 c.locals_are_bad.ensures.first c.sooner-first-11.ensures in
    asked ((5, heap_passes) ∷ (6, row_is_edited_twice) ∷ (10, owner_is_missing) ∷ (12, table_is_closed) ∷ (13, token_is_missing) ∷ (16, body_is_broken) ∷ (18, field_is_out_of_layout) ∷ (19, method_has_no_slot) ∷ (20, member_has_twin) ∷ (21, signature_is_bad) ∷ (23, locals_are_bad) ∷ []) (22, points_are_bad) chain list n c.sooner.result c.sooner-first-11.result _ e11 c.in_ok-points_are_bad.ensures.first c.sooner.ensures
