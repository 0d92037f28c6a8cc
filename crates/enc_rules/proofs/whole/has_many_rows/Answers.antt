use Rattle.std.proofs.Common.{sym, ◌∙◌}
use Rattle.std.specs.Prelude.{nat_lt}
use Rattle.enc_rows.proofs.Below.{any_true}
use Rattle.enc_rules.specs.Listed.{count_after}
use Rattle.enc_rules.proofs.whole.has_many_rows.Goals as goal

pub returns-then-is_long : goal.returns-then-is_long
returns-then-is_long g c = sym (any_true (λ table. nat_lt 0xFFFFFF (count_after (g.C.ChainView.chain c.args.chain.now) c.args.added.now table)) c.loop-table.table 64 c.loop-table-test.true (sym c.is_long.ensures ∙ c.if-is_long.true))
