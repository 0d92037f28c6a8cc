use Rattle.enc_rules.specs.Known.{listed_rows}
use Rattle.enc_rules.specs.Rules.{heaps_after_edit, with_texts, with_users, with_blobs, texts_of_edit, users_of_edit, blobs_of_edit}
use Rattle.enc_rules.proofs.Filling.{fills_later, passes_edit_texts, passes_edit_users, passes_edit_blobs, edit_filled}
use Rattle.enc_rules.proofs.heaps.add_edit.Goals as goal

pub returns-in-Err-clause-filled : goal.returns-in-Err-clause-filled
returns-in-Err-clause-filled g c =
    let rows = listed_rows c.args.context.now in
    fills_later c.in-Err.fault c.add_texts.new.heaps c.add_texts.new.heaps (with_texts c.args.heaps.now (texts_of_edit rows c.args.edit.now)) (heaps_after_edit rows c.args.heaps.now c.args.edit.now)
    (passes_edit_texts rows c.args.heaps.now c.args.edit.now) c.in-Err.ensures

pub returns-in-Err-add_users-clause-filled : goal.returns-in-Err-add_users-clause-filled
returns-in-Err-add_users-clause-filled g c =
    let rows = listed_rows c.args.context.now in
    fills_later c.in-Err-add_users.fault c.add_users.new.heaps c.add_users.new.heaps (with_users c.add_texts.new.heaps (users_of_edit c.args.edit.now)) (heaps_after_edit rows c.args.heaps.now c.args.edit.now)
    (passes_edit_users rows c.args.heaps.now c.add_texts.new.heaps c.args.edit.now c.in-Ok.ensures) c.in-Err-add_users.ensures

pub returns-in-Err-add_blobs-clause-filled : goal.returns-in-Err-add_blobs-clause-filled
returns-in-Err-add_blobs-clause-filled g c =
    let rows = listed_rows c.args.context.now in
    fills_later c.in-Err-add_blobs.fault c.add_blobs.new.heaps c.add_blobs.new.heaps (with_blobs c.add_users.new.heaps (blobs_of_edit rows c.args.edit.now)) (heaps_after_edit rows c.args.heaps.now c.args.edit.now)
    (passes_edit_blobs rows c.args.heaps.now c.add_texts.new.heaps c.add_users.new.heaps c.args.edit.now c.in-Ok.ensures c.in-Ok-add_users.ensures) c.in-Err-add_blobs.ensures

pub returns-clause-filled : goal.returns-clause-filled
returns-clause-filled g c =
    edit_filled (listed_rows c.args.context.now) c.args.heaps.now c.add_texts.new.heaps c.add_users.new.heaps c.add_blobs.new.heaps c.args.edit.now c.in-Ok.ensures c.in-Ok-add_users.ensures c.in-Ok-add_blobs.ensures
