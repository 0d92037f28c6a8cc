-- A module that comes of another by a delta: rows are put in their places or at the end, and children attached
-- behind those that are there.
use Rattle.std.specs.Prelude.{◌≡◌, ◌≤◌, ◌<◌, ℕ, Bool, false, IsTrue, List, ◌++◌, Some, slice_get}
use Rattle.std.specs.List.{list_any}
use Rattle.enc_base.specs.Token.{is_token}
use Rattle.enc_base.specs.declared.token.Token.{Token}
use Rattle.enc_plain.specs.Module.{Module, has_row, cells_of, kids_of}
use Rattle.enc_plain.specs.Sound.{row_count}

-- the token is one of those that are listed
abbrev pub is_listed : List Token → Token → Bool
is_listed listed u = list_any (λ (t : Token). is_token t u) listed

-- rows behind the last of a table, each of them listed
abbrev pub AreNew : Module → List Token → ℕ → List ℕ → Type 0
AreNew m listed table rows =
    (i row : ℕ) → slice_get rows i ≡ Some row
    → (row_count m table < row) × IsTrue (is_listed listed (record { table = table; row = row }))

-- no table gets fewer rows; a row that isn't listed says what it said, and a new one is listed; each row keeps its
-- children in order,
-- and new ones stand behind them
pub record IsChangedBy (m n : Module) (listed : List Token) : Type 0 where
  pub counts : (table : ℕ) → row_count m table ≤ row_count n table
  pub same : (u : Token) → IsTrue (has_row m u) → is_listed listed u ≡ false → cells_of n u ≡ cells_of m u
  pub new : (u : Token) → IsTrue (has_row n u) → has_row m u ≡ false → IsTrue (is_listed listed u)
  pub kids : (u : Token) (table : ℕ) → (more : List ℕ) × (kids_of n u table ≡ kids_of m u table ++ more)
      × AreNew m listed table more
