use Rattle.std.proofs.Common.{sym, arith}
use Rattle.enc_rows.proofs.Below.{all_false}
use Rattle.enc_rows.proofs.header.has_pdb_tables_alone.Goals as goal

pub returns-then-not-is_expected : goal.returns-then-not-is_expected
returns-then-not-is_expected c = sym (all_false _ c.loop-table.table 64 (omega arith) (sym c.if-not-is_expected.ensures))
