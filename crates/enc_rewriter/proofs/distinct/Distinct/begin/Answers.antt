use Rattle.std.proofs.Common.{ap}
use Rattle.enc_rewriter.specs.Distinct.{borrowed}
use Rattle.enc_rewriter.proofs.Listing.{listed_none}
use Rattle.enc_rewriter.proofs.distinct.Distinct.begin.Goals as goal

pub invariant_of-result : goal.invariant_of-result
invariant_of-result c = listed_none c.args.pass _ (ap borrowed c.new.ensures.empty)
