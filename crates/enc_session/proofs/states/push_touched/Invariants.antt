use Rattle.std.proofs.Common.{◌≡◌, ◌++◌, take}
use Rattle.std.specs.Prelude.{flat_map}
use Rattle.enc_session.specs.States.{touched_line}
use Rattle.enc_session.proofs.states.push_touched.Given as goal

-- the types so far are appended
abbrev pub invariant-loop-token : goal.invariant-loop-token
invariant-loop-token l = l.out.items ≡ l.fn.out.items ++ flat_map touched_line (take l.token-index l.types)
