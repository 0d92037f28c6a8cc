use Rattle.std.proofs.Common.{sym, ◌∙◌}
use Rattle.enc_rows.proofs.Named.{direct_all}
use Rattle.enc_rows.proofs.tables.Tables.push_children.Goals as goal

pub returns : goal.returns
returns c =
    let all = direct_all _ _ _ c.args.child c.args.n _ _ (sym c.goes_by_ptr.ensures ∙ c.if-goes_by_ptr.false) c.run_of-run.ensures.first c.run_of-run.ensures.end in
    rw all c.push_places.ensures
