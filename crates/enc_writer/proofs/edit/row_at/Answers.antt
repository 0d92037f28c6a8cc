use Rattle.std.proofs.Common.{List, length, sym, ap, ◌∙◌, arith}
use Rattle.std.specs.Prelude.{slice_get}
use Rattle.std.proofs.lemmas.Option.{slice_get-get_or}
use Rattle.enc_base.specs.declared.token.Token.{Token}
use Rattle.enc_rules.proofs.RowsEdited.{rows_all}
use Rattle.enc_writer.proofs.edit.row_at.Goals as goal

pub returns : goal.returns
returns g c =
    let rows = c.rows-rows.result.now in
    let many = rows_all c.args.context.now.chain.plain c.args.context.now.list.edits in
    ap (λ (ts : List Token). slice_get ts c.args.k) (sym c.rows-rows.ensures)
    ∙ slice_get-get_or rows c.args.k (record { table = 0; row = 0 }) (omega (arith, many, ap (λ (ts : List Token). length ts) c.rows-rows.ensures, c.requires))
