use Rattle.std.proofs.Common.{◌≡◌, ◌++◌, length}
use Rattle.enc_key_map.specs.declared.key.Key.{Key}
use Rattle.enc_key_map.specs.Index.{value_at, latest}
use Rattle.enc_dispatch.specs.Buckets.{IsSlotOf, head_over, AreBuckets}
use Rattle.enc_dispatch.specs.Growth.{EachLater}
use Rattle.enc_dispatch.proofs.methods.slots_of.Given as goal

abbrev pub invariant-loop-k : goal.invariant-loop-k
invariant-loop-k g l = record {
  parts : EachLater (IsSlotOf (g.R.CellView.rows l.rows)) l.read l.all.items;
  count : length l.all.items ≡ l.k;
  names : l.names ≡ l.rows;
  buckets : AreBuckets (g.R.CellView.rows l.rows) (head_over l.below.heads l.slots.heads) (l.below.next.items ++ l.slots.next.items);
  entries : (q : Key) → latest l.slots.entries.items q ≡ value_at l.slots.heads q;
  size : length l.slots.next.items ≡ l.k;
}
