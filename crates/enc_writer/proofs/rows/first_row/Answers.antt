use Rattle.std.proofs.Common.{◌≡◌, arith}
use Rattle.enc_base.specs.Token.{nth_row}
use Rattle.enc_plain.specs.Sound.{row_count}
use Rattle.enc_writer.proofs.RowsSay.{old_row, before_low}
use Rattle.enc_writer.proofs.rows.first_row.Goals as goal

pub returns-clause-none : goal.returns-clause-none
returns-clause-none g c k low =
    let j = c.args.context.now in
    let is : c.count_before.result ≡ row_count j.chain.plain c.args.table = c.count_before.ensures in
    old_row j.chain j.list (nth_row c.args.table k) c.requires.may c.if-table-eq-METHOD_DEF.false (omega (arith, low, is))

pub returns-clause-low : goal.returns-clause-low
returns-clause-low g c =
    let j = c.args.context.now in
    let is : c.count_before.result ≡ row_count j.chain.plain c.args.table = c.count_before.ensures in
    let low = before_low j.chain j.list c.args.table in
    omega (arith, low, is)
