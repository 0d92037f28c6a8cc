use Rattle.enc_plain.specs.Alike.{signatures_alike}
use Rattle.enc_plain.proofs.known.KnownAlike.turn_to.Goals as goal

pub returns-then-table-clause-known : goal.returns-then-table-clause-known
returns-then-table-clause-known c = λ rows stored known. (known.0, known.1, c.new.ensures.none rows, c.new-then-table.ensures (signatures_alike rows c.new.result.table) stored, known.4)
