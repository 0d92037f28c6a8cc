use Rattle.std.proofs.Common.{◌≡◌, sym, ap, ◌∙◌}
use Rattle.std.proofs.lemmas.Bool.{false≢true}
use Rattle.enc_meta.specs.Built.{Built, with_guid, guid_passes}
use Rattle.enc_rules.specs.Listed.{AfterList}
use Rattle.enc_rules.specs.Rules.{heaps_with}
use Rattle.enc_list_delta.specs.Holds.{heaps_written}
use Rattle.enc_writer.proofs.GuidRoom.{id_fits}
use Rattle.enc_writer.proofs.heaps.heaps_of_delta.Goals as goal

pub unreachable-requires : goal.unreachable-requires
unreachable-requires g c =
    let room = id_fits c.args.context.now.chain c.args.context.now.list c.requires.may in
    let same : guid_passes c.in_ok-heaps.heaps c.context.inside.list.now.enc_id ≡ guid_passes (heaps_with c.args.context.now.chain c.args.context.now.list.edits c.args.context.now.list.edits) c.args.context.now.list.enc_id =
    ap (λ (h : Built). guid_passes h c.context.inside.list.now.enc_id) c.in_ok-heaps.ensures
    ∙ ap (λ (j : AfterList). guid_passes (heaps_with c.args.context.now.chain c.args.context.now.list.edits c.args.context.now.list.edits) j.list.enc_id) c.context.view_is in
    let refused = rw c.in-Err-TooLarge.field-0-is at c.in-Err-TooLarge.ensures.refused in
    absurd (false≢true (sym (same ∙ room) ∙ refused.1))

pub returns-in-Ok : goal.returns-in-Ok
unfolding heaps_written
returns-in-Ok g c =
    c.in-Ok.ensures.added
    ∙ ap (λ (h : Built). with_guid h c.context.inside.list.now.enc_id) c.in_ok-heaps.ensures
    ∙ ap (λ (j : AfterList). with_guid (heaps_with c.args.context.now.chain c.args.context.now.list.edits c.args.context.now.list.edits) j.list.enc_id) c.context.view_is
