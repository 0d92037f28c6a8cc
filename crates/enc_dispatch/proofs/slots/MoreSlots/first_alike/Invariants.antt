use Rattle.std.proofs.Common.{◌≡◌, ◌++◌, length, unwrap_or}
use Rattle.enc_dispatch.specs.Buckets.{alike_first, alike_from}
use Rattle.enc_dispatch.proofs.Found.{IsMet}
use Rattle.enc_dispatch.proofs.slots.MoreSlots.first_alike.Given as goal

abbrev pub invariant-loop-at : goal.invariant-loop-at
invariant-loop-at g l =
    (alike_from (g.R.CellView.rows l.fn.names) l.key l.method l.at ≡ alike_first (g.R.CellView.rows l.fn.names) l.key l.method (length (l.below.next.items ++ l.self.next.items)))
    × IsMet (g.R.CellView.rows l.fn.names) l.key (length (l.below.next.items ++ l.self.next.items)) l.at
    × (l.names ≡ l.fn.names)

abbrev pub decreases-loop-at : goal.decreases-loop-at
decreases-loop-at g l = unwrap_or l.at 0
