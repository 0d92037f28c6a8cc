use Rattle.enc_rewriter.specs.Numbers.{PtrsPushed}
use Rattle.enc_rewriter.proofs.ptrs.push_all_ptrs.Given as goal

abbrev pub invariant-loop-n : goal.invariant-loop-n
invariant-loop-n g l = PtrsPushed (g.V.ModuleView.meaning l.view) l.n l.fn.tables l.tables
