use Rattle.std.proofs.Common.{refl, sym, ◌∙◌, arith}
use Rattle.enc_base.proofs.First.{first_found}
use Rattle.enc_delta.specs.Rules.{uneven_table}
use Rattle.enc_delta.proofs.tables.first_uneven.Goals as goal

pub returns-in-Some : goal.returns-in-Some
unfolding uneven_table
returns-in-Some c = first_found _ _ c.loop-table.table _ (omega arith) c.loop-table.invariant (sym c.in-Some.is ∙ c.uneven_at.ensures) refl
