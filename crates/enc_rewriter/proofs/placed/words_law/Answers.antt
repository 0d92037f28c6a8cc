use Rattle.std.proofs.Common.{arith}
use Rattle.enc_rewriter.proofs.placed.words_law.Goals as goal

pub returns : goal.returns
returns c = λ n. omega (arith, c.type_inv.words n)
