use Rattle.std.proofs.Common.{◌∙◌}
use Rattle.enc_rewriter.proofs.RefersTo.{coded_kind, coded_low}
use Rattle.enc_writer.proofs.NumbersSay.{coded_stated}
use Rattle.enc_writer.proofs.RowsStated.{after, is_stated}
use Rattle.enc_writer.proofs.numbers.coded_token.Goals as goal

pub token-requires : goal.token-requires
token-requires g c = coded_kind c.args.row.table c.args.i c.args.kind c.requires.column

pub returns-clause-cell : goal.returns-clause-cell
returns-clause-cell g c = let j = c.args.context.now in (coded_stated j.chain j.list c.args.row c.args.i c.args.kind c.token.result c.requires.may c.requires.row c.requires.column c.token.ensures).0

pub returns-clause-sound : goal.returns-clause-sound
returns-clause-sound g c = let j = c.args.context.now in (coded_stated j.chain j.list c.args.row c.args.i c.args.kind c.token.result c.requires.may c.requires.row c.requires.column c.token.ensures).1

pub returns-clause-low : goal.returns-clause-low
returns-clause-low g c =
    let j = c.args.context.now in
    let s = is_stated j.chain j.list c.args.row c.requires.may c.requires.row in
    let cell = (coded_stated j.chain j.list c.args.row c.args.i c.args.kind c.token.result c.requires.may c.requires.row c.requires.column c.token.ensures).0 in
    coded_low (after j.chain j.list) c.args.row c.args.i c.args.kind c.token.result s.sound s.row c.requires.column (s.cell c.args.i ∙ cell)
