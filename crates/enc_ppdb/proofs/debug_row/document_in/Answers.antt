use Rattle.std.proofs.Common.{◌≤◌, ◌∙◌, arith}
use Rattle.enc_rows.specs.Layout.{rows_of}
use Rattle.enc_base.specs.Tables as tables
use Rattle.enc_ppdb.proofs.Documents.{document_numbered}
use Rattle.enc_ppdb.proofs.debug_row.document_in.Goals as goal

pub returns : goal.returns
returns c =
    let high : c.args.number ≤ rows_of c.args.file.now.layout tables.document = omega (arith, c.count.ensures.count, c.if-count-number.false) in
    c.good_document.ensures ∙ document_numbered c.args.file.now c.args.number c.requires c.if-number-lt1.false high
