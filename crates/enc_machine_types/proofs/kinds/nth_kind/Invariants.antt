use Rattle.std.proofs.Common.{◌≡◌, ◌-◌}
use Rattle.std.specs.Prelude.{slice_get}
use Rattle.enc_machine_types.specs.Fronts.{kinds_at}
use Rattle.enc_machine_types.proofs.kinds.nth_kind.Given as goal

abbrev pub invariant-loop-k : goal.invariant-loop-k
invariant-loop-k l = slice_get (kinds_at l.fn.count l.fn.bytes) l.fn.i ≡ slice_get (kinds_at (l.fn.count - l.k) l.rest) (l.fn.i - l.k)
