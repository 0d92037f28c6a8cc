use Rattle.std.proofs.Common.{rules}
use Rattle.enc_frames.proofs.Reversed.{front_seen}
use Rattle.enc_frames.proofs.stack.Stack.remove.Goals as goal

-- src/stack.rt:101:5
pub returns-else-n-len : goal.returns-else-n-len
returns-else-n-len c = search (rules, front_seen)
