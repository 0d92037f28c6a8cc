use Rattle.std.proofs.Common.{◌≡◌, None, drop}
use Rattle.enc_base.specs.Order.{first_below}
use Rattle.enc_delta.specs.Delta.{of_table, listed}
use Rattle.enc_delta.specs.Known.{AreDeltaBodies}
use Rattle.enc_delta.specs.Rules.{broken_body_at}
use Rattle.enc_delta.proofs.bodies.broken_body.Given as goal

abbrev pub invariant-loop-r : goal.invariant-loop-r
invariant-loop-r g l = record { none : first_below (broken_body_at l.context.chain l.context.delta) l.r ≡ None; rest : of_table 0x06 l.rest ≡ drop l.r (of_table 0x06 (listed l.context.delta)); known : AreDeltaBodies l.context l.known }
