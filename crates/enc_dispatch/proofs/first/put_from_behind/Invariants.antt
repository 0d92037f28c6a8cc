use Rattle.std.proofs.Common.{◌≡◌, length}
use Rattle.enc_dispatch.specs.Entries.{earliest}
use Rattle.enc_key_map.specs.declared.key.Key.{Key}
use Rattle.enc_key_map.specs.Index.{value_at, either}
use Rattle.enc_dispatch.proofs.first.put_from_behind.Given as goal

abbrev pub invariant-loop-entry : goal.invariant-loop-entry
invariant-loop-entry g l = (q : Key) → either (earliest l.rest.items q) (value_at l.index q) ≡ either (earliest l.fn.entries.items q) (value_at l.fn.index q)

abbrev pub decreases-loop-entry : goal.decreases-loop-entry
decreases-loop-entry g l = length l.rest.items
