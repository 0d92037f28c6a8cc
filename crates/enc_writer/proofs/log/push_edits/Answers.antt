use Rattle.std.proofs.Common.{◌<◌, length, refl, ◌∙◌, rules}
use Rattle.enc_rows.specs.Written.{rows_at}
use Rattle.enc_base.specs.Tables.{enc_log}
use Rattle.enc_writer.proofs.LogSays.{none_logged, edit_logged, edit_has_room}
use Rattle.enc_writer.proofs.log.push_edits.Goals as goal

pub loop-k-init : goal.loop-k-init
loop-k-init g c =
    let j = c.args.context.now in
    record { says = none_logged c.args.references j.chain j.list (rows_at c.args.tables.now enc_log); others = λ k other. refl }

pub push_edit-requires-clause-few : goal.push_edit-requires-clause-few
push_edit-requires-clause-few g c =
    let j = c.args.context.now in
    let low : c.loop-k.k < length j.list.edits = search rules in
    edit_has_room c.args.references j.chain j.list c.loop-k.k (rows_at c.args.tables.now enc_log) (rows_at c.loop-k.tables enc_log) low c.loop-k.invariant.says c.requires.few

pub loop-k-preserved : goal.loop-k-preserved
loop-k-preserved g c =
    let j = c.args.context.now in
    let low : c.loop-k.k < length j.list.edits = search rules in
    record {
      says = edit_logged c.args.references j.chain j.list c.loop-k.k (rows_at c.args.tables.now enc_log) (rows_at c.loop-k.tables enc_log) (rows_at c.push_edit.new.tables enc_log)
          low c.loop-k.invariant.says c.in_ok-push_edit.ensures.pushed;
      others = λ k other. c.in_ok-push_edit.ensures.others k other ∙ c.loop-k.invariant.others k other;
    }
