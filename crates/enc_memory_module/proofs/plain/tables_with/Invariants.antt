use Rattle.std.proofs.Common.{◌≡◌, ◌∷◌, [], replicate}
use Rattle.enc_memory_module.proofs.plain.tables_with.Given as goal

abbrev pub invariant-loop-more : goal.invariant-loop-more
invariant-loop-more l = l.tables.items ≡ (l.fn.row ∷ []) ∷ replicate l.more []
