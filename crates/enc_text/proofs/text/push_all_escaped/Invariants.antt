use Rattle.std.proofs.Common.{◌≡◌, ◌++◌, take}
use Rattle.std.specs.Prelude.{flat_map}
use Rattle.enc_text.specs.Text.{escaped}
use Rattle.enc_text.proofs.text.push_all_escaped.Given as goal

-- the bytes so far are appended
abbrev pub invariant-loop-b : goal.invariant-loop-b
invariant-loop-b l = l.out.items ≡ l.fn.out.items ++ flat_map escaped (take l.b-index l.bytes)
