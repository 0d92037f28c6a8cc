use Rattle.std.proofs.Common.{refl, sym, ◌∙◌, arith}
use Rattle.enc_base.proofs.First.{first_found}
use Rattle.enc_delta.specs.Rules.{closed_table}
use Rattle.enc_delta.proofs.tables.first_closed.Goals as goal

pub returns-in-Some : goal.returns-in-Some
unfolding closed_table
returns-in-Some c = first_found _ _ c.loop-table.table _ (omega arith) c.loop-table.invariant (sym c.in-Some.is ∙ c.closed_at.ensures) refl
