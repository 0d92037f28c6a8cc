use Rattle.std.proofs.Common.{ap, ◌∙◌}
use Rattle.std.specs.Prelude.{nat_lt}
use Rattle.enc_writer.proofs.RowsSay.{edited_is}
use Rattle.enc_writer.proofs.rows.is_edited_row.Goals as goal

pub returns : goal.returns
returns g c =
    let j = c.args.context.now in
    ap (λ n. nat_lt n c.args.row.row) c.count_before.ensures ∙ edited_is j.chain j.list c.args.row c.requires.may c.if-row-eq-METHOD_DEF.false c.requires.there
