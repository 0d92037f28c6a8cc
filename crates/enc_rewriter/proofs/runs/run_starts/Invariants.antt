use Rattle.std.proofs.Common.{◌≡◌, ◌+◌}
use Rattle.enc_rewriter.specs.Numbers.{run_first, runs_begin}
use Rattle.enc_rewriter.proofs.runs.run_starts.Given as goal

abbrev pub invariant-loop-n : goal.invariant-loop-n
invariant-loop-n g l = record {
  told : l.starts.items ≡ runs_begin (g.V.ModuleView.meaning l.view) l.child l.n;
  next : l.first ≡ run_first (g.V.ModuleView.meaning l.view) l.child (l.n + 1);
}
