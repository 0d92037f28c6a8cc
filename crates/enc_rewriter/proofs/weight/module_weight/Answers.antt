use Rattle.std.proofs.Common.{ap, length, arith}
use Rattle.enc_rewriter.specs.Weight.{heaps_weight, module_weight}
use Rattle.enc_rewriter.proofs.weight.module_weight.Goals as goal

pub returns : goal.returns
unfolding module_weight heaps_weight
returns g c =
    omega (
      arith,
      c.in_ok-bodies.ensures,
      c.fields_weight-fields.ensures,
      c.rows_weight-rows.ensures,
      ap length c.resources.ensures,
      c.capped-resources.ensures.capped,
      c.size.ensures,
      c.capped-heaps.ensures.capped,
      c.capped.ensures.capped,
    )
