use Rattle.std.proofs.Common.{◌≡◌, ◌+◌, ◌≤◌, length, map}
use Rattle.std.specs.Prelude.{filter, not, nat_lt, IsTrue}
use Rattle.std.specs.List.{list_all}
use Rattle.enc_base.specs.declared.token.Token.{Token}
use Rattle.enc_rows.specs.Sums.{below}
use Rattle.enc_delta.specs.Delta.{map_token, is_module}
use Rattle.enc_delta.proofs.delta.Delta.tokens_counted.Given as goal

abbrev pub invariant-loop-i : goal.invariant-loop-i
invariant-loop-i g l = record {
  items : l.tokens.items ≡ filter (λ t. not (is_module t)) (map (map_token l.self) (below l.i));
  rows : IsTrue (list_all (λ (t : Token). nat_lt t.row 0x1000000) l.tokens.items);
  tables : IsTrue (list_all (λ (t : Token). nat_lt t.table 0x100) l.tokens.items);
  few : length l.tokens.items ≤ l.i;
  steps : l.steps ≤ l.fn.steps + l.i;
}
