use Rattle.std.proofs.Common.{◌≡◌, take}
use Rattle.enc_unwind.specs.Search.{handlers_of}
use Rattle.enc_frames.specs.Handlers.{pruned}
use Rattle.enc_frames.proofs.handlers.kept.Given as goal

-- what was kept of the handlers so far
abbrev pub invariant-loop-k : goal.invariant-loop-k
invariant-loop-k l = l.kept.items ≡ pruned (handlers_of l.code.sections.now) l.offset (take l.k l.running)
