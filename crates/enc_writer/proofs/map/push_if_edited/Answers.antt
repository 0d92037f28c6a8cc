use Rattle.std.proofs.Common.{sym, arith}
use Rattle.enc_base.specs.Tables.{enc_map}
use Rattle.enc_rows.specs.Written.{rows_at}
use Rattle.enc_list_delta.proofs.TokensUnbroken.{counts_fit}
use Rattle.enc_writer.proofs.MapSays.{none_mapped, one_mapped, few_mapped}
use Rattle.enc_writer.proofs.map.push_if_edited.Goals as goal

pub overflow_add-row : goal.overflow_add-row
overflow_add-row g c =
    let j = c.args.context.now in
    let few = counts_fit j.chain j.list c.requires.may c.args.table in
    omega (arith, few, c.requires.there)

pub returns-then-not-is_edited_row-clause-says : goal.returns-then-not-is_edited_row-clause-says
returns-then-not-is_edited_row-clause-says g c =
    let j = c.args.context.now in
    none_mapped j.chain j.list c.args.table c.args.n (rows_at c.args.tables.now enc_map) c.requires.so_far (sym c.if-not-is_edited_row.ensures)

pub push_token-requires-clause-row : goal.push_token-requires-clause-row
push_token-requires-clause-row g c =
    let j = c.args.context.now in
    let few = counts_fit j.chain j.list c.requires.may c.args.table in
    omega (arith, few, c.requires.there)

pub push_token-requires-clause-few : goal.push_token-requires-clause-few
push_token-requires-clause-few g c =
    let j = c.args.context.now in
    few_mapped j.chain j.list c.args.table c.args.n (rows_at c.args.tables.now enc_map) c.requires.may c.requires.there c.requires.so_far (sym c.if-not-is_edited_row.ensures)

pub returns-clause-says : goal.returns-clause-says
returns-clause-says g c =
    let j = c.args.context.now in
    one_mapped j.chain j.list c.args.table c.args.n (rows_at c.args.tables.now enc_map) (rows_at c.push_token.new.tables enc_map)
    c.requires.so_far (sym c.if-not-is_edited_row.ensures) c.in_ok-push_token.ensures.pushed
