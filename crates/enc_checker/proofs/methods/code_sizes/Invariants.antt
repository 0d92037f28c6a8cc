use Rattle.std.proofs.Common.{◌≡◌, ◌++◌, drop}
use Rattle.std.specs.Prelude.{flat_map}
use Rattle.enc_delta.specs.Delta.{listed}
use Rattle.enc_checker.specs.Check.{code_sizes}
use Rattle.enc_checker.proofs.OwnMethods.{size_of_one}
use Rattle.enc_checker.proofs.methods.code_sizes.Given as goal

abbrev pub invariant-loop-token : goal.invariant-loop-token
invariant-loop-token l = (l.token-items ≡ listed l.delta) × (l.sizes ++ flat_map (size_of_one l.delta) (drop l.token-index (listed l.delta)) ≡ code_sizes l.delta)
