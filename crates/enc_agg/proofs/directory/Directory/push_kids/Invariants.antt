use Rattle.std.proofs.Common.{◌≡◌, ◌≤◌, ◌-◌, ◌++◌, length}
use Rattle.enc_key_map.specs.Index.{value_at}
use Rattle.enc_agg.specs.Directory.{kids_key, kids_kept}
use Rattle.enc_agg.proofs.directory.Directory.push_kids.Given as goal

-- the children so far
abbrev pub invariant-loop-i : goal.invariant-loop-i
invariant-loop-i l = record {
  rows : l.rows.items ≡ l.fn.rows.items ++ kids_kept (λ i. value_at l.self.kids (kids_key l.table l.owner i)) (length l.fn.rows.items)
      (l.i - length l.fn.rows.items);
  low : length l.fn.rows.items ≤ l.i;
  high : l.i - length l.fn.rows.items ≤ l.count - length l.fn.rows.items;
}
