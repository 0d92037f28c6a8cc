use Rattle.std.proofs.Common.{◌≡◌, ◌-◌}
use Rattle.enc_sigs.specs.Grammar.{many}
use Rattle.enc_sigs.specs.Reads.{left_after}
use Rattle.enc_machine_types.specs.Fronts.{kind_front}
use Rattle.enc_machine_types.proofs.front.past_kinds.Given as goal

abbrev pub invariant-loop-i : goal.invariant-loop-i
invariant-loop-i l = left_after (many kind_front l.fn.count l.fn.bytes) ≡ left_after (many kind_front (l.fn.count - l.i) l.rest)
