use Rattle.std.proofs.Common.{◌≡◌, Bool, ◌+◌, true, sym, ap, ◌∙◌, arith, lt-ltb}
use Rattle.std.specs.Prelude.{◌&&◌, nat_lt, nat_le}
use Rattle.std.specs.List.{list_any}
use Rattle.enc_plain.specs.Sound.{row_count}
use Rattle.enc_rows.specs.Sums.{below}
use Rattle.enc_schema.specs.Children.{owner_table}
use Rattle.enc_rewriter.specs.Numbers.{run_first, has_wide_run}
use Rattle.enc_rewriter.proofs.RunStarts.{wide_runs}
use Rattle.enc_rewriter.proofs.runs.has_wide_run.Goals as goal

pub returns-then-count-lt65536 : goal.returns-then-count-lt65536
unfolding has_wide_run
returns-then-count-lt65536 g c =
    let m = g.V.ModuleView.meaning c.args.view.now in
    let child = c.args.child in
    let small : nat_lt (row_count m child) 0x10000 ≡ true = lt-ltb _ _ (omega (arith, c.count.ensures.count, c.if-count-lt65536.true)) in
    c.any_wide.ensures ∙ ap (list_any (λ n. nat_le 0x10000 n)) c.of.ensures ∙ wide_runs m c.args.runs.now child c.requires.runs c.requires.child
    ∙ sym (ap (λ (b : Bool). b && list_any (λ n. nat_le 0x10000 (run_first m child (n + 1))) (below (row_count m (owner_table child)))) small)
