use Rattle.std.proofs.Common.{refl}
use Rattle.enc_delta.specs.Delta.{map_token}
use Rattle.enc_delta.proofs.Listed.{map_get}
use Rattle.enc_delta.proofs.delta.Delta.token.Goals as goal

pub returns-clause-token : goal.returns-clause-token
unfolding map_token
returns-clause-token c = rw (c.of.ensures.token, c.cell.ensures, c.nth_row.ensures) (map_get _ c.args.i c.requires.there)

pub returns-clause-at : goal.returns-clause-at
unfolding map_token
returns-clause-at c = rw (c.of.ensures.token, c.cell.ensures, c.nth_row.ensures) refl
