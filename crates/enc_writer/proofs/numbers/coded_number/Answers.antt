use Rattle.std.proofs.Common.{◌<◌, rules}
use Rattle.std.specs.Prelude.{◌^◌}
use Rattle.enc_rewriter.proofs.RefersTo.{coded_there}
use Rattle.enc_writer.proofs.NumbersSay.{coded_number_says}
use Rattle.enc_writer.proofs.RowsStated.{after}
use Rattle.enc_writer.proofs.numbers.coded_number.Goals as goal

pub unreachable-requires : goal.unreachable-requires
unreachable-requires g c = let j = c.args.context.now in coded_there (after j.chain j.list) c.args.kind c.coded_token.result c.coded_token.ensures.sound c.in-None.ensures.none

pub returns : goal.returns
returns g c =
    let j = c.args.context.now in
    let low : c.in-Some.number < 2 ^ 32 = search rules in
    coded_number_says j.chain j.list c.args.row c.args.i c.args.kind c.coded_token.result c.in-Some.number c.requires.may c.requires.row c.requires.column low
    c.coded_token.ensures.cell c.coded_token.ensures.sound c.in-Some.ensures.some
