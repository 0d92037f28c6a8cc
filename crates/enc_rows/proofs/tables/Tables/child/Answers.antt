use Rattle.std.proofs.Common.{sym, ◌∙◌, arith}
use Rattle.enc_rows.specs.Runs.{children_of}
use Rattle.enc_rows.proofs.Named.{direct_at, direct_past}
use Rattle.enc_rows.proofs.tables.Tables.child.Goals as goal

pub returns-then-i-saturating_sub : goal.returns-then-i-saturating_sub
unfolding children_of
returns-then-i-saturating_sub c = rw (← c.run_of-run.ensures.first, ← c.run_of-run.ensures.end) (direct_at _ c.args.child _ _ c.args.i (sym c.goes_by_ptr.ensures ∙ c.if-goes_by_ptr.false) (omega arith))

pub returns-else-i-saturating_sub : goal.returns-else-i-saturating_sub
unfolding children_of
returns-else-i-saturating_sub c = rw (← c.run_of-run.ensures.first, ← c.run_of-run.ensures.end) (direct_past _ c.args.child _ _ c.args.i (sym c.goes_by_ptr.ensures ∙ c.if-goes_by_ptr.false) (omega arith))
