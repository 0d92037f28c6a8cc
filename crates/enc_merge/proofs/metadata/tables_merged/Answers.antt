use Rattle.std.proofs.Common.{◌≡◌, length, ap, ◌∙◌, refl, arith}
use Rattle.enc_delta.specs.Delta.{log_in}
use Rattle.enc_delta.specs.Rules.{counted}
use Rattle.enc_rows.specs.Written.{count_at, rows_at}
use Rattle.enc_base.specs.Tables.{enc_log, enc_map}
use Rattle.enc_merge.specs.Writing.{Both}
use Rattle.enc_merge.proofs.ShortLists.{logs_few, tokens_few}
use Rattle.enc_merge.proofs.metadata.tables_merged.Goals as goal

pub push_rows-requires-clause-few : goal.push_rows-requires-clause-few
push_rows-requires-clause-few c = tokens_few c.aggregate.result.now c.args.last.now c.args.numbers.now c.aggregate.ensures c.requires.tokens

pub push_log-requires : goal.push_log-requires
push_log-requires c =
    let few = logs_few c.aggregate.result.now c.args.last.now c.aggregate.ensures in
    let one = ap (λ (x : Both). length (counted (log_in x.first))) c.last.view_is in
    let two = ap (λ (x : Both). length (counted (log_in x.second))) c.last.view_is in
    let none : count_at c.push_module.new.tables enc_log ≡ 0 =
    ap (λ rows. length rows) (c.in_ok-push_module.ensures.others enc_log refl ∙ c.in_ok-push_rows.ensures.others enc_log refl) ∙ ap (λ tables. length (rows_at tables enc_log)) c.begin-tables.ensures in
    record { few = omega (arith, few, one, two, none) }

pub push_map-requires : goal.push_map-requires
push_map-requires c =
    let few = tokens_few c.aggregate.result.now c.args.last.now c.args.numbers.now c.aggregate.ensures c.requires.tokens in
    let none : count_at c.push_log.new.tables enc_map ≡ 0 =
    ap (λ rows. length rows) (c.in_ok-push_log.ensures.others enc_map refl ∙ c.in_ok-push_module.ensures.others enc_map refl ∙ c.in_ok-push_rows.ensures.others enc_map refl)
    ∙ ap (λ tables. length (rows_at tables enc_map)) c.begin-tables.ensures in
    record { few = omega (arith, few, none) }
