use Rattle.std.proofs.Common.{sym, ap, ◌∙◌, arith, length, false, true, ◌≡◌}
use Rattle.std.proofs.lemmas.Bool.{false≢true}
use Rattle.enc_meta.specs.Built.{Built, none_from}
use Rattle.enc_meta.specs.Joined.{joined_lengths}
use Rattle.enc_edit_list.specs.Form.{list_fits}
use Rattle.enc_rules.specs.Known.{listed_rows}
use Rattle.enc_rules.specs.Listed.{AfterList}
use Rattle.enc_rules.specs.Rules.{heap_passes, heaps_after_edit, passes_limits}
use Rattle.enc_rules.proofs.Filling.{edits_more, edits_none, heaps_passed}
use Rattle.enc_rules.proofs.RoomForAll.{has_room}
use Rattle.enc_rules.proofs.WholeTexts.{edit_formed}
use Rattle.enc_rules.proofs.heaps.heaps_of.Goals as goal

pub loop-k-init : goal.loop-k-init
loop-k-init g c =
    c.in_ok-heaps.ensures ∙ ap none_from c.lengths.ensures
    ∙ ap (λ (j : AfterList). none_from (joined_lengths j.chain.heaps)) c.context.view_is
    ∙ sym (edits_none (listed_rows c.args.context.now) (none_from (joined_lengths c.args.context.now.chain.heaps)))

pub add_edit-requires-clause-form : goal.add_edit-requires-clause-form
add_edit-requires-clause-form g c =
    edit_formed c.args.context.now.list c.edits-edits.result.now c.loop-k.k c.index-edits-k.result
    (ap (λ (j : AfterList). list_fits j.list) (sym c.context.view_is) ∙ c.context.invariant.0.form) c.edits-edits.ensures.edits c.loop-k-test.true c.index-edits-k.is

pub unreachable-requires : goal.unreachable-requires
unreachable-requires g c =
    let room : heap_passes c.args.context.now.chain c.args.context.now.list c.loop-k.k ≡ false =
    has_room c.args.context.now.chain c.args.context.now.list c.loop-k.k c.requires.rules (omega (arith, ap length c.edits-edits.ensures.edits)) in
    let full : heap_passes c.args.context.now.chain c.args.context.now.list c.loop-k.k ≡ true =
    heaps_passed c.args.context.now.chain c.args.context.now.list c.edits-edits.result.now c.loop-k.k c.index-edits-k.result c.loop-k.heaps c.edits-edits.ensures.edits c.loop-k-test.true c.index-edits-k.is c.loop-k.invariant
    ∙ rw c.in-Err-TooLarge.field-0-is at c.in-Err-TooLarge.ensures.filled in
    absurd (false≢true (sym room ∙ full))

pub loop-k-preserved : goal.loop-k-preserved
loop-k-preserved g c =
    c.in-Ok.ensures.filled ∙ ap (λ (b : Built). heaps_after_edit (listed_rows c.args.context.now) b c.index-edits-k.result) c.loop-k.invariant
    ∙ sym (edits_more (listed_rows c.args.context.now) (none_from (joined_lengths c.args.context.now.chain.heaps)) c.edits-edits.result.now c.loop-k.k c.index-edits-k.result c.loop-k-test.true c.index-edits-k.is)
