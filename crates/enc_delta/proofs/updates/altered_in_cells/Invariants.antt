use Rattle.std.proofs.Common.{◌≡◌, None}
use Rattle.enc_base.specs.Order.{first_below}
use Rattle.enc_delta.specs.Changes.{altered_at}
use Rattle.enc_delta.specs.Context.{joined_rows, joined_blobs}
use Rattle.enc_plain.specs.Known.{AreKnownAlike}
use Rattle.enc_delta.proofs.updates.altered_in_cells.Given as goal

abbrev pub invariant-loop-i : goal.invariant-loop-i
invariant-loop-i g l = (first_below (altered_at l.context.chain l.context.delta l.token) l.i ≡ None) × AreKnownAlike (joined_rows l.context) (joined_blobs l.context) l.known
