use Rattle.std.proofs.Common.{◌≡◌, ℕ, false, refl, arith}
use Rattle.std.specs.Prelude.{◌==◌}
use Rattle.std.proofs.lemmas.Bool.Decides.{nat_tests}
use Rattle.enc_schema.specs.Schema.{columns_in}
use Rattle.enc_image.proofs.Locals.{locals_row}
use Rattle.enc_image.proofs.bodies.has_locals.Goals as goal

some : (row : ℕ) → (row ≡ 0 → ⊥) → (row == 0) ≡ false
some row h = grind (arith, nat_tests, h)

pub cell-offset-requires-clause-row : goal.cell-offset-requires-clause-row
cell-offset-requires-clause-row c = (locals_row c.args.cells.now.tables.now _ c.requires.row (some _ c.if-code-eq0.false)).1

pub cell-offset-requires-clause-column : goal.cell-offset-requires-clause-column
unfolding columns_in
cell-offset-requires-clause-column c = rw ((locals_row c.args.cells.now.tables.now _ c.requires.row (some _ c.if-code-eq0.false)).0) refl
