use Rattle.enc_delta.proofs.ListsChanged.{token_fits}
use Rattle.enc_delta.proofs.lists.numbers_of.Goals as goal

pub number-requires : goal.number-requires
number-requires c = token_fits c.args.tokens.now c.loop-k.k c.requires c.loop-k-test.true
