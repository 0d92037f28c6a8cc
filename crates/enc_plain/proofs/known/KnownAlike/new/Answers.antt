use Rattle.std.proofs.Common.{bytes_eq}
use Rattle.enc_plain.specs.Alike.{signatures_alike}
use Rattle.enc_plain.proofs.known.KnownAlike.new.Goals as goal

pub returns : goal.returns
returns c = λ rows stored. (c.new.ensures rows, c.new-2.ensures (signatures_alike rows 0x1B) stored, c.new-3.ensures.none rows, c.new-4.ensures (signatures_alike rows c.new-3.result.table) stored, c.new-5.ensures bytes_eq stored)
