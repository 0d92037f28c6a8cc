use Rattle.std.proofs.Common.{refl}
use Rattle.enc_delta.specs.Delta.{entry_at}
use Rattle.enc_delta.proofs.Listed.{log_get}
use Rattle.enc_delta.proofs.delta.Delta.log.Goals as goal

pub returns-clause-entry : goal.returns-clause-entry
unfolding entry_at
returns-clause-entry c = rw (c.of.ensures.token, c.cell.ensures, c.cell-2.ensures, c.nth_row-row.ensures) (log_get _ c.args.i c.requires.there)

pub returns-clause-at : goal.returns-clause-at
unfolding entry_at
returns-clause-at c = rw (c.of.ensures.token, c.cell.ensures, c.cell-2.ensures, c.nth_row-row.ensures) refl
