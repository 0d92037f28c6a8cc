use Rattle.std.proofs.Common.{refl}
use Rattle.enc_schema.specs.Schema.{columns_in}
use Rattle.enc_image.proofs.bodies.body_fault_at.Goals as goal

pub cell-rva-requires-clause-column : goal.cell-rva-requires-clause-column
unfolding columns_in
cell-rva-requires-clause-column c = refl

pub cell-flags-requires-clause-column : goal.cell-flags-requires-clause-column
unfolding columns_in
cell-flags-requires-clause-column c = refl
