use Rattle.std.proofs.Common.{arith}
use Rattle.std.specs.Prelude.{nat_lt}
use Rattle.std.proofs.lemmas.Bool.Decides.{nat_tests}
use Rattle.enc_delta.specs.declared.log_entry.LogEntry.{LogEntry}
use Rattle.enc_delta.specs.Delta.{entry_at}
use Rattle.enc_delta.proofs.Listed.{more_items, more_rows, more_few}
use Rattle.enc_delta.proofs.copy.log_of.Goals as goal

pub loop-i-preserved : goal.loop-i-preserved
loop-i-preserved c = record {
  items = more_items (entry_at c.args.delta.now) c.loop-i.i c.loop-i.log.items c.push.new.self.items c.log.result c.loop-i.invariant.items c.log.ensures.at c.in_ok-push.ensures.items;
  rows = more_rows (λ (e : LogEntry). nat_lt e.token.row 0x1000000) c.loop-i.log.items c.push.new.self.items c.log.result c.loop-i.invariant.rows (grind (arith, nat_tests, c.log.ensures.row)) c.in_ok-push.ensures.items;
  few = more_few c.loop-i.i c.loop-i.log.items c.push.new.self.items c.log.result c.loop-i.invariant.few c.in_ok-push.ensures.items;
}
