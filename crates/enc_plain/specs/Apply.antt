-- Editing a plain module: the cells of rows put in place or at the end, and children attached to their owners.
use Rattle.std.specs.Prelude.{ℕ, zero, suc, ◌&&◌, ◌==◌, List, [], ◌∷◌, ◌++◌, map, filter}
use Rattle.enc_base.specs.Token.{is_token}
use Rattle.enc_base.specs.declared.token.Token.{Token}
use Rattle.enc_schema.specs.Children.{runs_in, run_index}
use Rattle.enc_plain.specs.Cell.{Cell}
use Rattle.enc_plain.specs.Module.{Module, Row}

-- the cells of a row for a token
pub record Change : Type 0 where
  pub token : Token
  pub cells : List Cell

-- a row that begins with no children
abbrev pub childless : ℕ → List Cell → Row
childless table cells = record { cells = cells; kids = map (λ (child : ℕ). []) (runs_in table) }

-- the rows with these cells in the n-th, n from 0, which keeps its children, or in a new row where that is the next;
-- further on nothing changes
abbrev pub put_row : ℕ → List Row → ℕ → List Cell → List Row
put_row table [] zero cells = childless table cells ∷ []
put_row table [] (suc n) cells = []
put_row table (r ∷ rows) zero cells = record { cells = cells; kids = r.kids } ∷ rows
put_row table (r ∷ rows) (suc n) cells = r ∷ put_row table rows n cells

-- the rows of the n-th table changed, n from 0
abbrev pub change_at : {A : Type 0} → List A → ℕ → (A → A) → List A
change_at [] n f = []
change_at (x ∷ xs) zero f = f x ∷ xs
change_at (x ∷ xs) (suc n) f = x ∷ change_at xs n f

-- the same by the row's number, from 1; row 0 is none, and nothing changes
unfoldable pub put_at : ℕ → List Row → ℕ → List Cell → List Row
put_at table rows zero cells = rows
put_at table rows (suc n) cells = put_row table rows n cells

-- the row of a number, from 1, changed
unfoldable pub change_row : List Row → ℕ → (Row → Row) → List Row
change_row rows zero f = rows
change_row rows (suc n) f = change_at rows n f

-- the module with one change made
unfoldable pub put : Module → Change → Module
put m c = record {
  tables = change_at m.tables c.token.table (λ rows. put_at c.token.table rows c.token.row c.cells);
  resources = m.resources;
  entry = m.entry;
}

-- the module with all changes made, in order
unfoldable pub apply : Module → List Change → Module
apply m [] = m
apply m (c ∷ cs) = apply (put m c) cs

-- a child for an owner
pub record Attached : Type 0 where
  pub owner : Token
  pub child : Token

-- the row with one child more, the last of its kind
abbrev pub with_child : Token → Row → Row
with_child child r = record {
  cells = r.cells;
  kids = change_at r.kids (run_index child.table) (λ ks. ks ++ child.row ∷ []);
}

-- the module with a child attached to its owner
unfoldable pub attach : Module → Attached → Module
attach m a = record {
  tables = change_at m.tables a.owner.table (λ rows. change_row rows a.owner.row (with_child a.child));
  resources = m.resources;
  entry = m.entry;
}

-- the module with all children attached, in order
unfoldable pub attach_all : Module → List Attached → Module
attach_all m [] = m
attach_all m (a ∷ pairs) = attach_all (attach m a) pairs

-- the children that a token's row gains in a child table, in order
abbrev pub gained : List Attached → Token → ℕ → List ℕ
gained pairs u child = map (λ (a : Attached). a.child.row)
    (filter (λ (a : Attached). is_token a.owner u && a.child.table == child) pairs)
