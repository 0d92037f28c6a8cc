use Rattle.std.proofs.Common.{◌≡◌, ℕ, ◌<◌, ◌≤◌, false}
use Rattle.enc_delta.specs.Members.{keyed_at, is_twin_of}
use Rattle.enc_delta.proofs.twins.has_twin_before.Given as goal

abbrev pub invariant-loop-left : goal.invariant-loop-left
invariant-loop-left g l = record {
  few : l.left ≤ l.fn.k;
  kept : l.members ≡ l.fn.members;
  none : (m : ℕ) → l.left ≤ m → m < l.fn.k → is_twin_of (g.M.Members.asked l.fn.members) (keyed_at l.entries l.fn.k) (keyed_at l.entries m) ≡ false;
}

abbrev pub decreases-loop-left : goal.decreases-loop-left
decreases-loop-left g l = l.left
