use Rattle.std.proofs.Common.{◌≡◌, drop}
use Rattle.enc_remap.specs.Remap.{led_from}
use Rattle.enc_remap.proofs.goal.led_from.Given as goal

-- the pairs that are left decide
abbrev pub invariant-loop-pair : goal.invariant-loop-pair
invariant-loop-pair l = led_from l.offset (drop l.pair-index l.pairs) ≡ led_from l.offset l.pairs
