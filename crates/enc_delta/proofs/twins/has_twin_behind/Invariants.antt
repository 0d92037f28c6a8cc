use Rattle.std.proofs.Common.{◌≡◌, ℕ, ◌<◌, false}
use Rattle.enc_delta.specs.Members.{keyed_at, is_twin_of}
use Rattle.enc_delta.proofs.twins.has_twin_behind.Given as goal

abbrev pub invariant-loop-j : goal.invariant-loop-j
invariant-loop-j g l = record {
  kept : l.members ≡ l.fn.members;
  none : (m : ℕ) → l.fn.k < m → m < l.j → is_twin_of (g.M.Members.asked l.fn.members) (keyed_at l.entries l.fn.k) (keyed_at l.entries m) ≡ false;
}
