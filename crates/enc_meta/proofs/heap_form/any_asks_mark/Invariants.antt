use Rattle.std.proofs.Common.{◌≡◌, length}
use Rattle.enc_meta.specs.Built.{any_asks_mark}
use Rattle.enc_meta.proofs.heap_form.any_asks_mark.Given as goal

abbrev pub invariant-loop-rest : goal.invariant-loop-rest
invariant-loop-rest l = any_asks_mark l.rest ≡ any_asks_mark l.units

abbrev pub decreases-loop-rest : goal.decreases-loop-rest
decreases-loop-rest l = length l.rest
