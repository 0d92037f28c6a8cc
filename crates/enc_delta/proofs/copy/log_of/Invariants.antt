use Rattle.std.proofs.Common.{◌≡◌, length, map}
use Rattle.std.specs.Prelude.{IsTrue, nat_lt}
use Rattle.std.specs.List.{list_all}
use Rattle.enc_rows.specs.Sums.{below}
use Rattle.enc_delta.specs.declared.log_entry.LogEntry.{LogEntry}
use Rattle.enc_delta.specs.Delta.{entry_at}
use Rattle.enc_delta.proofs.copy.log_of.Given as goal

abbrev pub invariant-loop-i : goal.invariant-loop-i
invariant-loop-i l = record {
  items : l.log.items ≡ map (entry_at l.delta) (below l.i);
  rows : IsTrue (list_all (λ (e : LogEntry). nat_lt e.token.row 0x1000000) l.log.items);
  few : length l.log.items ≡ l.i;
}
