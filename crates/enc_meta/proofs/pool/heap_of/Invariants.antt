use Rattle.std.proofs.Common.{◌≡◌, map, take}
use Rattle.enc_meta.specs.Built.{heap_bytes}
use Rattle.enc_meta.specs.Pools.{encoded}
use Rattle.enc_meta.proofs.pool.heap_of.Given as goal

abbrev pub invariant-loop-value : goal.invariant-loop-value
invariant-loop-value l = l.out.items ≡ heap_bytes (encoded l.form) (map (λ v. v.items) (take l.value-index l.values))
