use Rattle.std.proofs.Common.{◌≡◌}
use Rattle.enc_rewriter.specs.Numbers.{kids_before}
use Rattle.enc_rewriter.proofs.ptrs.child_list.Given as goal

abbrev pub invariant-loop-n : goal.invariant-loop-n
invariant-loop-n g l = l.kids.items ≡ kids_before (g.V.ModuleView.meaning l.view) l.child l.n
