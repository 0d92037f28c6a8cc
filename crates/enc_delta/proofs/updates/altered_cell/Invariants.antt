use Rattle.std.proofs.Common.{◌≡◌, None}
use Rattle.enc_base.specs.Order.{first_below}
use Rattle.enc_delta.specs.Changes.{of_nth, altered_in}
use Rattle.enc_delta.specs.Context.{joined_rows, joined_blobs}
use Rattle.enc_plain.specs.Known.{AreKnownAlike}
use Rattle.enc_delta.proofs.updates.altered_cell.Given as goal

abbrev pub invariant-loop-k : goal.invariant-loop-k
invariant-loop-k g l = (first_below (of_nth (altered_in l.context.chain l.context.delta) l.context.delta) l.k ≡ None) × AreKnownAlike (joined_rows l.context) (joined_blobs l.context) l.known
