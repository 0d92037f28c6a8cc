use Rattle.std.proofs.Common.{◌<◌, rules}
use Rattle.std.specs.Prelude.{◌^◌}
use Rattle.enc_rewriter.proofs.RefersTo.{index_kind}
use Rattle.enc_writer.proofs.NumbersSay.{index_number_says}
use Rattle.enc_writer.proofs.numbers.index_number.Goals as goal

pub token-requires : goal.token-requires
token-requires g c = index_kind c.args.row.table c.args.i c.args.table c.requires.column

pub returns : goal.returns
returns g c =
    let j = c.args.context.now in
    let low : c.token.result.row < 2 ^ 32 = search rules in
    index_number_says j.chain j.list c.args.row c.args.i c.args.table c.token.result c.requires.may c.requires.row c.requires.column low c.token.ensures
