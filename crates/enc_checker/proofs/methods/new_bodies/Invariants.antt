use Rattle.std.proofs.Common.{◌≡◌, ◌++◌, drop}
use Rattle.std.specs.Prelude.{flat_map}
use Rattle.enc_delta.specs.Delta.{listed}
use Rattle.enc_checker.specs.Check.{new_bodies}
use Rattle.enc_checker.proofs.OwnMethods.{body_of_one}
use Rattle.enc_checker.proofs.methods.new_bodies.Given as goal

abbrev pub invariant-loop-token : goal.invariant-loop-token
invariant-loop-token l = (l.token-items ≡ listed l.delta) × (l.methods ++ flat_map (body_of_one l.delta) (drop l.token-index (listed l.delta)) ≡ new_bodies l.delta)
