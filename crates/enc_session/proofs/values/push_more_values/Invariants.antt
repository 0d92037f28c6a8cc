use Rattle.std.proofs.Common.{◌≡◌, ◌++◌, take}
use Rattle.enc_session.specs.States.{more_values}
use Rattle.enc_session.proofs.values.push_more_values.Given as goal

-- the values so far are appended
abbrev pub invariant-loop-value : goal.invariant-loop-value
invariant-loop-value l = l.out.items ≡ l.fn.out.items ++ more_values (take l.value-index l.values)
