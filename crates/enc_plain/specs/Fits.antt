-- When changes fit a module: each row is one of its table or the next, and no token is changed twice. When children
-- can be attached to it, each to a row of
-- their owners' table.
use Rattle.std.specs.Prelude.{◌≡◌, ℕ, ◌+◌, ◌<◌, ◌≤◌, Bool, true, false, List, [], ◌∷◌, length, Option, Some, None, if◌then◌else◌, slice_get}
use Rattle.std.specs.List.{list_any}
use Rattle.enc_base.specs.Token.{is_token}
use Rattle.enc_base.specs.declared.token.Token.{Token}
use Rattle.enc_plain.specs.Cell.{Cell}
use Rattle.enc_schema.specs.Children.{is_child_table, owner_table, runs_in}
use Rattle.enc_plain.specs.Module.{Module, Row, rows_in, has_row}
use Rattle.enc_plain.specs.Apply.{Change, put, Attached, attach}

-- the cells that the changes give a token's row
unfoldable pub cells_for : List Change → Token → Option (List Cell)
cells_for [] u = None
cells_for (c ∷ cs) u = if is_token c.token u then Some c.cells else cells_for cs u

-- the changes have a row for the token
abbrev pub changes : List Change → Token → Bool
changes cs u = list_any (λ (c : Change). is_token c.token u) cs

pub record FitsOne (m : Module) (c : Change) (cs : List Change) : Type 0 where
  pub table : c.token.table < length m.tables
  pub low : 0 < c.token.row
  pub high : c.token.row ≤ length (rows_in m c.token.table) + 1
  pub fresh : changes cs c.token ≡ false

unfoldable pub Fits : Module → List Change → Type 0
Fits m [] = Unit {0}
Fits m (c ∷ cs) = FitsOne m c cs × Fits (put m c) cs

-- the owner is a row of the child's owners' table
pub record Attaches (m : Module) (a : Attached) : Type 0 where
  pub table : a.owner.table ≡ owner_table a.child.table
  pub child : is_child_table a.child.table ≡ true
  pub row : has_row m a.owner ≡ true
  pub tables : a.owner.table < length m.tables

-- and so it is of all, in order
unfoldable pub AllAttach : Module → List Attached → Type 0
AllAttach m [] = Unit {0}
AllAttach m (a ∷ pairs) = Attaches m a × AllAttach (attach m a) pairs

-- every row has a list of children for each of its table's runs
pub record HasRuns (m : Module) : Type 0 where
  pub each : (t n : ℕ) (r : Row) → slice_get (rows_in m t) n ≡ Some r → length r.kids ≡ length (runs_in t)
