-- What a file says by its parts.
use Rattle.std.specs.Prelude.{ℕ, Bool, List, unwrap_or}
use Rattle.enc_base.specs.declared.token.Token.{Token}
use Rattle.enc_meta.specs.Heaps.{Counted}
use Rattle.enc_meta.specs.Regions.{Region}
use Rattle.enc_rows.specs.Layout.{Layout, raw_cell}

-- the table stream, its layout, the heaps, what is loaded at which addresses, and of an image its managed resources
-- and its entry point
pub record Source : Type 0 where
  pub stream : List ℕ
  pub layout : Layout
  pub heaps : Counted
  pub loaded : List Region
  pub resources : List ℕ
  pub entry : ℕ
  pub bare : Bool

-- the number in a cell
abbrev pub raw_in : Source → Token → ℕ → ℕ
raw_in s token i = unwrap_or (raw_cell s.stream s.layout token i) 0
