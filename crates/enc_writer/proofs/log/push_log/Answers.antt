use Rattle.enc_rows.specs.Written.{rows_at}
use Rattle.enc_base.specs.Tables.{enc_log}
use Rattle.enc_writer.proofs.LogSays.{references_have_room, others_have_room, all_logged}
use Rattle.enc_writer.proofs.log.push_log.Goals as goal

pub push_edits-requires-clause-few : goal.push_edits-requires-clause-few
push_edits-requires-clause-few g c =
    let j = c.args.context.now in
    references_have_room j.chain j.list (rows_at c.args.tables.now enc_log) c.requires.may c.requires.none

pub push_edits-requires-2-clause-few : goal.push_edits-requires-2-clause-few
push_edits-requires-2-clause-few g c =
    let j = c.args.context.now in
    others_have_room j.chain j.list (rows_at c.args.tables.now enc_log) (rows_at c.push_edits.new.tables enc_log) c.requires.may c.requires.none c.in_ok-push_edits.ensures.pushed

pub returns-clause-log : goal.returns-clause-log
returns-clause-log g c =
    let j = c.args.context.now in
    all_logged j.chain j.list (rows_at c.args.tables.now enc_log) (rows_at c.push_edits.new.tables enc_log) (rows_at c.push_edits-2.new.tables enc_log)
    c.requires.none c.in_ok-push_edits.ensures.pushed c.in_ok-push_edits-2.ensures.pushed
