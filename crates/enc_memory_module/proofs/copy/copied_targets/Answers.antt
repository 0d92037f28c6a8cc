use Rattle.std.proofs.Common.{arith}
use Rattle.enc_memory_module.proofs.StatedCells.{all_offsets}
use Rattle.enc_memory_module.proofs.copy.copied_targets.Goals as goal

pub returns-clause-held : goal.returns-clause-held
returns-clause-held c = all_offsets c.args.targets.now (λ i. omega (arith, c.type_inv.targets i))
