use Rattle.std.proofs.Common.{◌≡◌, true, false, sym, ap, ◌∙◌, arith}
use Rattle.std.specs.Prelude.{◌&&◌, nat_le, nat_lt}
use Rattle.std.proofs.lemmas.Bool.Decides.{nat_tests}
use Rattle.enc_rows.specs.Runs.{children_of}
use Rattle.enc_rows.proofs.Named.{direct_any}
use Rattle.enc_rows.proofs.tables.Tables.owns.Goals as goal

pub returns-then-run-row : goal.returns-then-run-row
unfolding children_of
returns-then-run-row c =
    let test : nat_le c.run_of-run.result.first c.args.row ≡ true = grind (arith, nat_tests) in
    rw (← c.run_of-run.ensures.first, ← c.run_of-run.ensures.end) (sym (ap (λ b. b && nat_lt c.args.row c.run_of-run.result.end) test) ∙ direct_any _ c.args.child _ _ c.args.row (sym c.goes_by_ptr.ensures ∙ c.if-goes_by_ptr.false))

pub returns-else-run-row : goal.returns-else-run-row
unfolding children_of
returns-else-run-row c =
    let test : nat_le c.run_of-run.result.first c.args.row ≡ false = grind (arith, nat_tests) in
    rw (← c.run_of-run.ensures.first, ← c.run_of-run.ensures.end) (test ∙ sym (ap (λ b. b && nat_lt c.args.row c.run_of-run.result.end) test) ∙ direct_any _ c.args.child _ _ c.args.row (sym c.goes_by_ptr.ensures ∙ c.if-goes_by_ptr.false))
