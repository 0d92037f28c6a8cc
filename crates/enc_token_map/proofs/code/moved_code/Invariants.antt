use Rattle.std.proofs.Common.{◌-◌, ◌≤◌, length}
use Rattle.enc_token_map.specs.Copied.{IsMovedUpTo}
use Rattle.enc_token_map.proofs.code.moved_code.Given as goal

abbrev pub invariant-loop-read : goal.invariant-loop-read
invariant-loop-read g l = IsMovedUpTo (g.M.Moves.to l.moves) l.code.code.now l.out.items l.at × (l.at ≤ length l.code.code.now)

abbrev pub decreases-loop-read : goal.decreases-loop-read
decreases-loop-read g l = length l.code.code.now - l.at
