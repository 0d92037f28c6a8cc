use Rattle.std.proofs.Common.{◌<◌, ◌+◌, refl, ◌∙◌, length, rules}
use Rattle.std.specs.Prelude.{◌^◌}
use Rattle.enc_rows.specs.Written.{count_at, rows_at}
use Rattle.enc_base.specs.Tables.{enc_log}
use Rattle.enc_delta.specs.Rules.{counted}
use Rattle.enc_merge.proofs.ListRows.{no_entry_logged, entry_logged, log_has_room}
use Rattle.enc_merge.proofs.lists.push_entries.Goals as goal

pub loop-k-init : goal.loop-k-init
loop-k-init c = record { says = no_entry_logged (rows_at c.args.tables.now enc_log); others = λ k other. refl }

pub push_if_counted-requires-clause-few : goal.push_if_counted-requires-clause-few
push_if_counted-requires-clause-few c =
    let low : c.loop-k.k < length c.in_ok-log.log.items = search rules in
    let few : count_at c.args.tables.now enc_log + length (counted c.in_ok-log.log.items) < 2 ^ 24 = rw c.in_ok-log.ensures.entries c.requires.few in
    log_has_room c.in_ok-log.log.items c.loop-k.k c.index.result.now (rows_at c.args.tables.now enc_log) (rows_at c.loop-k.tables enc_log) low c.index.ensures c.loop-k.invariant.says few

pub loop-k-preserved : goal.loop-k-preserved
loop-k-preserved c =
    let low : c.loop-k.k < length c.in_ok-log.log.items = search rules in
    record {
      says = entry_logged c.in_ok-log.log.items c.loop-k.k c.index.result.now (rows_at c.args.tables.now enc_log) (rows_at c.loop-k.tables enc_log) (rows_at c.push_if_counted.new.tables enc_log)
          low c.index.ensures c.loop-k.invariant.says c.in_ok-push_if_counted.ensures.pushed;
      others = λ k other. c.in_ok-push_if_counted.ensures.others k other ∙ c.loop-k.invariant.others k other;
    }
