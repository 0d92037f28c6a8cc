-- The path of a class: the classes that it extends, one after the other (ECMA-335 II.22.37).
use Rattle.std.specs.Prelude.{ℕ, zero, suc, Bool, ◌&&◌, List, [], ◌∷◌, Option, Some, None, option_map, ◌==◌, if◌then◌else◌}
use Rattle.std.specs.List.{list_any}
use Rattle.enc_base.specs.Token.{is_token}
use Rattle.enc_base.specs.declared.token.Token.{Token}
use Rattle.enc_base.specs.Tables as tables
use Rattle.enc_schema.specs.Columns as columns
use Rattle.enc_plain.specs.Module.{Module, has_row, cells_of}
use Rattle.enc_plain.specs.Rows.{token_at}
use Rattle.enc_plain.specs.Sound.{row_count}

-- the token names a row of TypeDef
abbrev pub is_class : Module → Token → Bool
is_class m t = t.table == tables.type_def && has_row m t

-- what a class extends
unfoldable pub class_base : Module → Token → Token
class_base m class = token_at (cells_of m) class columns.type_def_extends

-- the classes that a climb meets in so many steps, while what is extended is a class
unfoldable pub climb : Module → ℕ → Token → List Token
climb m zero class = []
climb m (suc n) class = if is_class m class then class ∷ climb m n (class_base m class) else []

-- the path of a class, which it begins itself: a climb of as many steps as there are rows of TypeDef
abbrev pub path_of : Module → Token → List Token
path_of m class = climb m (row_count m tables.type_def) class

-- the class stands on a path
abbrev pub is_on_path : Token → List Token → Bool
is_on_path class path = list_any (λ (c : Token). is_token c class) path

-- the classes of a path before one of them; None where it isn't on the path
unfoldable pub before_class : Token → List Token → Option (List Token)
before_class base [] = None
before_class base (c ∷ rest) =
    if is_token c base then Some [] else option_map (λ (before : List Token). c ∷ before) (before_class base rest)

-- the class is the base or extends it, in one step or more
abbrev pub extends : Module → Token → Token → Bool
extends m class base = is_on_path base (path_of m class)
