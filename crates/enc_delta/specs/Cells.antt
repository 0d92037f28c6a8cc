-- For the contracts of private functions: how the cells of a delta's rows are gone over: which columns a rule speaks
-- of, and where a table's tokens begin.
use Rattle.std.specs.Prelude.{ℕ, Bool, true, ◌==◌, List, [], ◌∷◌}
use Rattle.enc_base.specs.declared.token.Token.{Token}
use Rattle.enc_schema.specs.declared.column.Column.{Column}
use Rattle.enc_delta.specs.declared.cells.CellRule.{CellRule}
use Rattle.enc_delta.specs.declared.cells.CellRule.TheVariants as rule
use Rattle.enc_schema.specs.Schema.{is_offset}
use Rattle.enc_delta.specs.Rules.{is_index}

-- the columns of which a rule speaks
abbrev pub speaks : CellRule → Column → Bool
speaks rule.Index = is_index
speaks rule.Offset = is_offset

-- the first token is of the table, where there is one
abbrev pub begins_with : ℕ → List Token → Bool
begins_with table [] = true
begins_with table (t ∷ ts) = t.table == table
