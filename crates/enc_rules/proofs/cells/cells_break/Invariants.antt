use Rattle.std.proofs.Common.{◌≡◌, ◌≤◌}
use Rattle.std.specs.Prelude.{filter}
use Rattle.enc_edit_list.specs.Form.{is_stated}
use Rattle.enc_rules.specs.Known.{listed_counts}
use Rattle.enc_rules.specs.Rules.{cells_break}
use Rattle.enc_rules.proofs.TokensNamed.{left}
use Rattle.enc_rules.proofs.cells.cells_break.Given as goal

abbrev pub invariant-loop-i : goal.invariant-loop-i
invariant-loop-i g l = record {
  same : left (listed_counts l.context) l.columns l.cells l.i l.stated ≡ cells_break (listed_counts l.context) (filter is_stated l.columns) l.cells;
  few : l.stated ≤ l.i;
}
