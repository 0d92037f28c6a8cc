-- For the contracts of private functions: what the rules on whole lists are told of the tokens and entries that they
-- are given.
use Rattle.std.specs.Prelude.{ℕ, ◌+◌, Bool, false, ◌&&◌, ◌==◌, List, [], ◌∷◌, Option, Some, None, IsTrue, nat_lt, nat_le, slice_index, find}
use Rattle.std.specs.List.{list_all}
use Rattle.enc_base.specs.declared.token.Token.{Token}
use Rattle.enc_plain.specs.Chain.{Chain, rows_before}
use Rattle.enc_delta.specs.declared.log_entry.LogEntry.{LogEntry}
use Rattle.enc_delta.specs.Rules.{counts, rows_with, parent_table, child_table}
use Rattle.enc_base.specs.Tables as tables

-- each is a token by its number: its row fits three bytes
abbrev pub AreTokens : List Token → Type 0
AreTokens tokens = IsTrue (list_all (λ (t : Token). nat_lt t.row 0x1000000) tokens)

-- the same of the tokens of entries
abbrev pub AreEntries : List LogEntry → Type 0
AreEntries log = IsTrue (list_all (λ (e : LogEntry). nat_lt e.token.row 0x1000000) log)

-- by code, how many rows the parent's table of an Add entry has after the delta
abbrev pub parents : Chain → List Token → List ℕ
parents c tokens =
    0 ∷ rows_with c tokens tables.type_def ∷ rows_with c tokens tables.type_def ∷ rows_with c tokens tables.method_def
    ∷ rows_with c tokens tables.property_map ∷ rows_with c tokens tables.event_map ∷ []

-- the same as `has_parent`, by these counts
abbrev pub parent_in : List ℕ → LogEntry → Bool
parent_in rows e = e.token.table == parent_table e.operation && nat_le 1 e.token.row
    && nat_le e.token.row (slice_index rows e.operation)

-- an entry is there, has code 0 and this row
abbrev pub next_is : ℕ → ℕ → Option LogEntry → Bool
next_is table row None = false
next_is table row (Some e) = e.operation == 0 && e.token.table == table && e.token.row == row

-- an Add entry has its parent and its child, where n Add entries of its code stand before it
abbrev pub is_pair : Chain → List ℕ → ℕ → List LogEntry → LogEntry → Bool
is_pair c rows n behind e = parent_in rows e
    && next_is (child_table e.operation) (rows_before c (child_table e.operation) + n + 1) (find counts behind)
