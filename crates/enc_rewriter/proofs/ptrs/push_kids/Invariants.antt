use Rattle.std.proofs.Common.{◌≡◌, take}
use Rattle.enc_rows.specs.Written.{rows_at}
use Rattle.enc_schema.specs.Children.{ptr_of}
use Rattle.enc_rewriter.specs.Numbers.{rows_of_one, KeepOthers}
use Rattle.enc_rewriter.proofs.ptrs.push_kids.Given as goal

abbrev pub invariant-loop-i : goal.invariant-loop-i
invariant-loop-i l = record {
  rows : rows_at l.tables (ptr_of l.child) ≡ rows_of_one (take l.i l.kids);
  others : KeepOthers (ptr_of l.child) l.fn.tables l.tables;
}
