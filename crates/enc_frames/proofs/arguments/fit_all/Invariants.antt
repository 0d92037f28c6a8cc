use Rattle.std.proofs.Common.{◌≡◌, length}
use Rattle.enc_frames.proofs.Fitted.{with_fitted}
use Rattle.enc_frames.specs.Values.{fit_all}
use Rattle.enc_frames.proofs.arguments.fit_all.Given as goal

-- what was fitted and what comes of those behind are all
abbrev pub invariant-loop-left : goal.invariant-loop-left
invariant-loop-left l = with_fitted l.fitted.items (fit_all l.left l.rest) ≡ fit_all l.fn.kinds l.fn.values

abbrev pub decreases-loop-left : goal.decreases-loop-left
decreases-loop-left l = length l.left
