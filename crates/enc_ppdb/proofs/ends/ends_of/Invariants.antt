use Rattle.std.proofs.Common.{◌≡◌, ◌≤◌, None}
use Rattle.std.specs.Prelude.{vec_len, vec_capacity}
use Rattle.enc_base.specs.Order.{first_below}
use Rattle.enc_ppdb.specs.Fault.{method_fault}
use Rattle.enc_ppdb.specs.Seen.{row_ends}
use Rattle.enc_ppdb.proofs.ends.ends_of.Given as goal

abbrev pub invariant-loop-n : goal.invariant-loop-n
invariant-loop-n l = record {
  good : first_below (method_fault l.file) l.n ≡ None;
  ended : l.ends.items ≡ row_ends l.file l.n;
  len : vec_len l.ends ≡ l.n;
  room : l.rows ≤ vec_capacity l.ends;
}
