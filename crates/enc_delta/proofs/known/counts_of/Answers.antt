use Rattle.std.proofs.Common.{arith}
use Rattle.enc_delta.proofs.Methods.{inserts_few}
use Rattle.enc_delta.proofs.known.counts_of.Goals as goal

pub overflow_cast-more-in-loop-table : goal.overflow_cast-more-in-loop-table
overflow_cast-more-in-loop-table g c = omega (arith, c.requires.few, inserts_few (g.C.ChainView.chain c.args.chain.now) c.args.tokens.now c.loop-table.table _ (c.requires.added c.loop-table.table (omega arith)))

pub overflow_add-counts : goal.overflow_add-counts
overflow_add-counts g c = omega (arith, c.count.ensures.few, c.requires.few, inserts_few (g.C.ChainView.chain c.args.chain.now) c.args.tokens.now c.loop-table.table _ (c.requires.added c.loop-table.table (omega arith)))
