use Rattle.std.proofs.Common.{◌≡◌, take, map}
use Rattle.std.proofs.Common.{ℕ, []}
use Rattle.enc_memory_module.proofs.change.no_kids.Given as goal

abbrev pub invariant-loop-child : goal.invariant-loop-child
invariant-loop-child l = l.out.items ≡ map (λ (child : ℕ). []) (take l.child-index l.child-items)
