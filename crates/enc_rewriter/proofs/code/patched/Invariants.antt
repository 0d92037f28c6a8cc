use Rattle.std.proofs.Common.{◌≡◌, ◌-◌, true, length}
use Rattle.std.specs.List.{list_all}
use Rattle.enc_meta.specs.Built.{is_kept, heaps_built}
use Rattle.enc_meta.specs.Heaps.{user_at}
use Rattle.enc_rewriter.specs.Copied.{IsCopied}
use Rattle.enc_rewriter.proofs.UserTexts.{left}
use Rattle.enc_rewriter.proofs.code.patched.Given as goal

abbrev pub invariant-loop-instr : goal.invariant-loop-instr
invariant-loop-instr g l = (l.heaps ≡ l.fn.heaps)
    × (list_all (is_kept l.fn.heaps.users) (left (g.V.ModuleView.users l.view) l.code.code.now l.at) ≡ true)
    × IsCopied (g.V.ModuleView.users l.view) (user_at (heaps_built l.fn.heaps).users) l.code.code.now l.out.items l.at

abbrev pub decreases-loop-instr : goal.decreases-loop-instr
decreases-loop-instr g l = length l.code.code.now - l.at
