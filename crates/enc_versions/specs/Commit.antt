-- Bodies that become the newest of their methods.
use Rattle.std.specs.Prelude.{◌≡◌, ℕ, ◌^◌, max, Bool, ◌&&◌, List, [], ◌∷◌, length, Option, Some, None, nat_lt, ◌==◌, if◌then◌else◌}
use Rattle.enc_base.specs.Order.{or_else}
use Rattle.enc_base.specs.Token.{is_token}
use Rattle.enc_base.specs.declared.token.Token.{Token}
use Rattle.enc_base.specs.Tables.{method_def}
use Rattle.enc_versions.specs.Version.{Version, newest_of}
use Rattle.enc_versions.specs.declared.list.CodeEntry.{CodeEntry}

-- a method and its new body
pub record NewVersion : Type 0 where
  pub method : Token
  pub version : Version

-- what an entry brings
abbrev pub version_in : CodeEntry → NewVersion
version_in e = record {
  method = e.method;
  version = record {
    code = record { max = e.max; init = e.init; locals = e.locals; code = e.code; sections = e.sections };
    points = e.points;
  };
}

-- a token of MethodDef that isn't nil
abbrev pub is_method_token : Token → Bool
is_method_token t = t.table == method_def && nat_lt 0 t.row

-- an entry is of a method, and its code is shorter than 2^32 bytes
abbrev pub is_entry : CodeEntry → Bool
is_entry e = is_method_token e.method && nat_lt (length e.code) (2 ^ 32)

-- what one of them brings a method
abbrev pub brought_by : NewVersion → Token → Option Version
brought_by n method = if is_token n.method method then Some n.version else None

-- what they bring a method: the last of them that is of it decides
unfoldable pub brought : List NewVersion → Token → Option Version
brought [] method = None
brought (n ∷ rest) method = or_else (brought rest method) (brought_by n method)

-- the greatest of their rows, 0 where there are none
unfoldable pub last_row : List NewVersion → ℕ
last_row [] = 0
last_row (n ∷ rest) = max n.method.row (last_row rest)

-- new bodies were committed: the newest of each method is what they bring it, and else what was before; rows go on
-- to their last
pub record AreCommitted (new : List NewVersion) (before after : List (Option Version)) : Type 0 where
  pub newest : (method : Token) → newest_of after method ≡ or_else (brought new method) (newest_of before method)
  pub count : length after ≡ max (length before) (last_row new)
