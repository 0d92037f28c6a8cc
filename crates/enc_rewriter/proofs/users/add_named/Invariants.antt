use Rattle.std.proofs.Common.{◌≡◌, ◌-◌, length}
use Rattle.enc_rewriter.specs.Values.{with_all}
use Rattle.enc_rewriter.specs.declared.pass.Pass.TheVariants.{Users}
use Rattle.enc_rewriter.proofs.UserTexts.{left}
use Rattle.enc_rewriter.proofs.users.add_named.Given as goal

abbrev pub invariant-loop-instr : goal.invariant-loop-instr
invariant-loop-instr g l = with_all Users l.heaps (left (g.V.ModuleView.users l.view) l.code.code.now l.at) ≡ with_all Users l.fn.heaps (left (g.V.ModuleView.users l.view) l.code.code.now 0)

abbrev pub decreases-loop-instr : goal.decreases-loop-instr
decreases-loop-instr g l = length l.code.code.now - l.at
