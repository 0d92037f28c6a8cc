use Rattle.std.proofs.Common.{refl, sym, ◌∙◌, arith}
use Rattle.enc_base.proofs.First.{first_found}
use Rattle.enc_delta.specs.Rules.{too_many, too_many_in}
use Rattle.enc_delta.proofs.Runs.{within_limit}
use Rattle.enc_delta.proofs.cells.too_many.Goals as goal

pub returns-in-Some : goal.returns-in-Some
unfolding too_many
returns-in-Some g c =
    within_limit c.args.context.now.chain _ _ _ (omega (arith, c.generations.ensures, c.if-generations-gt65535.false)) (first_found (too_many_in c.args.context.now.chain c.args.context.now.delta) _ c.loop-table.table _ (omega arith) c.loop-table.invariant (sym c.in-Some.is ∙ c.too_many_in.ensures) refl)
