use Rattle.std.proofs.Common.{◌≡◌, ◌-◌, sym, ◌∙◌, arith}
use Rattle.enc_rows.specs.Runs.{children_of}
use Rattle.enc_rows.proofs.Named.{direct_many}
use Rattle.enc_rows.proofs.tables.Tables.children.Goals as goal

pub returns : goal.returns
unfolding children_of
returns c =
    let many : c.saturating_sub.result ≡ c.run_of-run.result.end - c.run_of-run.result.first = omega arith in
    rw (← c.run_of-run.ensures.first, ← c.run_of-run.ensures.end) (many ∙ direct_many _ c.args.child _ _ (sym c.goes_by_ptr.ensures ∙ c.if-goes_by_ptr.false))
