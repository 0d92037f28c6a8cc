-- The newest body of each method, with its sequence points.
use Rattle.std.specs.Prelude.{ℕ, zero, suc, List, Option, None, get_or, ◌==◌, if◌then◌else◌}
use Rattle.enc_base.specs.declared.token.Token.{Token}
use Rattle.enc_opcodes.specs.Body.{Code}
use Rattle.enc_base.specs.Tables.{method_def}
use Rattle.enc_seqpoints.specs.Grammar.{MethodPoints}

-- the body of one method in one generation, by its parts, and its points
pub record Version : Type 0 where
  pub code : Code
  pub points : MethodPoints

-- the newest bodies by the row of MethodDef, None where a method has none, and how many rows there is memory for
pub record VersionTable : Type 0 where
  pub methods : List (Option Version)
  pub capacity : ℕ

-- the n-th row from 1; row 0 and rows past the last have none
abbrev pub version_at : List (Option Version) → ℕ → Option Version
version_at methods zero = None
version_at methods (suc i) = get_or methods i None

-- the newest body of a method; a token of another table has none
unfoldable pub newest_of : List (Option Version) → Token → Option Version
newest_of methods method = if method.table == method_def then version_at methods method.row else None
