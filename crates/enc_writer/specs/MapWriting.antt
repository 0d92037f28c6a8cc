-- For the contracts of private functions: EncMap, as far as it is written.
use Rattle.std.specs.Prelude.{◌≡◌, ℕ, List, ◌++◌, map, flat_map}
use Rattle.enc_base.specs.declared.token.Token.{Token}
use Rattle.enc_plain.specs.Chain.{Chain}
use Rattle.enc_rows.specs.Sums.{below}
use Rattle.enc_edit_list.specs.declared.edit.EditList.{EditList}
use Rattle.enc_list_delta.specs.Delta.{tokens_written}
use Rattle.enc_list_delta.specs.Holds.{token_numbers}
use Rattle.enc_writer.specs.RowsWriting.{edited_below}

-- the edited rows of all tables below one, table by table
abbrev pub tokens_below : Chain → EditList → ℕ → List Token
tokens_below c l table = flat_map (tokens_written c l.edits) (below table)

-- they are the entries of EncMap
abbrev pub TablesMapped : Chain → EditList → ℕ → List (List ℕ) → Type 0
TablesMapped c l table rows = rows ≡ map token_numbers (tokens_below c l table)

-- and behind them those among the first so many rows of the table
abbrev pub RowsMapped : Chain → EditList → ℕ → ℕ → List (List ℕ) → Type 0
RowsMapped c l table n rows = rows ≡ map token_numbers (tokens_below c l table ++ edited_below c l table n)
