use Rattle.std.proofs.Common.{◌≡◌, map, take}
use Rattle.enc_c.specs.SessionNumbers.{value_numbers}
use Rattle.enc_c.proofs.session_looks.list_values.Given as goal

abbrev pub invariant-loop-value : goal.invariant-loop-value
invariant-loop-value l = l.numbers.items ≡ map value_numbers (take l.value-index l.fn.values)
