use Rattle.std.proofs.Common.{◌<◌, length, take, sym, subst, rules}
use Rattle.enc_merged_delta.specs.Held.{RowHeld}
use Rattle.enc_merge.specs.Writing.{tokens_of}
use Rattle.enc_merge.proofs.TokenRows.{either_lists, token_table, some_columns, token_held, no_tokens_held, tokens_more, table_has_room}
use Rattle.enc_merge.proofs.rows.push_rows.Goals as goal

pub loop-k-init : goal.loop-k-init
loop-k-init c = no_tokens_held c.args.last.now c.args.tables.now c.requires.none

pub numbers_of-requires-clause-token : goal.numbers_of-requires-clause-token
numbers_of-requires-clause-token c =
    let low : c.loop-k.k < length c.args.numbers.now = search rules in
    either_lists c.aggregate.result.now c.args.last.now c.args.numbers.now c.loop-k.k c.of-token.result c.aggregate.ensures c.requires.tokens low c.of-token.ensures.token

pub push-requires-clause-table : goal.push-requires-clause-table
push-requires-clause-table c =
    let x = c.args.last.now in
    let low : c.loop-k.k < length c.args.numbers.now = search rules in
    let either = either_lists c.aggregate.result.now x c.args.numbers.now c.loop-k.k c.of-token.result c.aggregate.ensures c.requires.tokens low c.of-token.ensures.token in
    some_columns c.of-token.result.table (token_table c.aggregate.result.now x c.of-token.result c.aggregate.ensures either).low

pub push-requires-clause-few : goal.push-requires-clause-few
push-requires-clause-few c =
    let x = c.args.last.now in
    let low : c.loop-k.k < length c.args.numbers.now = search rules in
    let either = either_lists c.aggregate.result.now x c.args.numbers.now c.loop-k.k c.of-token.result c.aggregate.ensures c.requires.tokens low c.of-token.ensures.token in
    let table = token_table c.aggregate.result.now x c.of-token.result c.aggregate.ensures either in
    table_has_room x c.args.numbers.now c.loop-k.k c.of-token.result.table c.args.tables.now c.loop-k.tables table.has c.loop-k.invariant low c.requires.few

pub loop-k-preserved : goal.loop-k-preserved
loop-k-preserved c =
    let x = c.args.last.now in
    let u = c.of-token.result in
    let low : c.loop-k.k < length c.args.numbers.now = search rules in
    let either = either_lists c.aggregate.result.now x c.args.numbers.now c.loop-k.k u c.aggregate.ensures c.requires.tokens low c.of-token.ensures.token in
    let table = token_table c.aggregate.result.now x u c.aggregate.ensures either in
    let row = subst (RowHeld x.chain x.first x.second u) (sym c.deref.ensures.value) c.in_ok-row.ensures in
    let held = token_held x (tokens_of (take c.loop-k.k c.args.numbers.now)) u c.deref.result.now c.args.tables.now c.loop-k.tables c.push.new.self table.has c.loop-k.invariant row c.in_ok-push.ensures.pushed in
    rw (tokens_more c.args.numbers.now c.loop-k.k u low c.of-token.ensures.token) held
