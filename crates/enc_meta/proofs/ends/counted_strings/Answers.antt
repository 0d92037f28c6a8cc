use Rattle.std.proofs.Common.{sym}
use Rattle.std.proofs.lemmas.List.{length-take-le}
use Rattle.enc_meta.proofs.Texts.{counted_few, counted_front, counted_last}
use Rattle.enc_meta.proofs.ends.counted_strings.Goals as goal

pub slice_bounds-result-end : goal.slice_bounds-result-end
slice_bounds-result-end c = rw c.requires (sym (length-take-le _ _ (counted_few c.args.heap.now)))

pub returns-clause-last : goal.returns-clause-last
returns-clause-last c = rw (c.requires, counted_front c.args.heap.now) (counted_last c.args.heap.now)
