-- Which method a virtual call reaches, by the class of the object (ECMA-335 I.8.10.4, II.12.2; the order of the
-- walks is the product's own).
use Rattle.std.specs.Prelude.{Bool, List, [], ◌∷◌, reverse, Option, Some, None, option_map, option_and_then, ◌==◌, if◌then◌else◌}
use Rattle.enc_base.specs.Numbers.{has_flag}
use Rattle.enc_base.specs.Order.{or_else}
use Rattle.enc_base.specs.declared.token.Token.{Token}
use Rattle.enc_plain.specs.Module.{Module, cells_of, owner_of}
use Rattle.enc_plain.specs.Rows.{number_at}
use Rattle.enc_schema.specs.Columns as columns
use Rattle.enc_base.specs.Tables as tables
use Rattle.enc_plain.specs.ClassPath.{path_of, before_class}
use Rattle.enc_dispatch.specs.Interfaces.{has_interface}
use Rattle.enc_dispatch.specs.Walks.{impl_of, is_new_slot, takes_slot, meets, first_method}

-- what a class's own virtual method does to the walk: one in a slot of its own ends it
abbrev pub own_turn : Module → Token → Option Token → Option Token
own_turn m current None = Some current
own_turn m current (Some method) = if is_new_slot m method then None else Some method

-- the current method behind a class, None where the class ends the walk; a row of MethodImpl comes before the
-- class's own methods
unfoldable pub turn : Module → Token → Token → Token → Option Token
turn m declared current class =
    or_else (impl_of m class declared current) (own_turn m current (first_method m (takes_slot m declared) class))

abbrev pub go_on : Token → (Token → Token) → Option Token → Token
go_on current rest None = current
go_on current rest (Some next) = rest next

-- the current method at the end of a walk down over classes
unfoldable pub walk_down : Module → Token → List Token → Token → Token
walk_down m declared [] current = current
walk_down m declared (class ∷ rest) current = go_on current (walk_down m declared rest) (turn m declared current class)

-- the class walk: over the classes of the path below the declaring class, from the nearest to it down to the
-- object's class; none where it isn't on the path
unfoldable pub class_target : Module → Token → Token → Token → Option Token
class_target m class declaring declared =
    option_map (λ (below : List Token). walk_down m declared (reverse below) declared)
    (before_class declaring (path_of m class))

-- a path from its first class on that has the interface
unfoldable pub from_interface : Module → Token → List Token → List Token
from_interface m interface [] = []
from_interface m interface (class ∷ rest) =
    if has_interface m class interface then class ∷ rest else from_interface m interface rest

-- what a class gives for a method of an interface: by its first row of MethodImpl, else its first public virtual method
unfoldable pub given_by : Module → Token → Token → Option Token
given_by m declared class = or_else (impl_of m class declared declared) (first_method m (meets m declared) class)

-- the first of some classes that gives one, with what it gives
unfoldable pub first_given : Module → Token → List Token → Option (Token × Token)
first_given m declared [] = None
first_given m declared (class ∷ rest) =
    or_else (option_map (λ (method : Token). (class, method)) (given_by m declared class)) (first_given m declared rest)

-- the interface walk: upward from the first class that has the interface, and then the class walk of what is given
-- there
unfoldable pub interface_target : Module → Token → Token → Token → Option Token
interface_target m class interface declared =
    option_and_then (λ (g : Token × Token). class_target m class g.0 g.1)
    (first_given m declared (from_interface m interface (path_of m class)))

-- the type is an interface (II.23.1.15)
abbrev pub is_interface : Module → Token → Bool
is_interface m type = has_flag 0x20 (number_at (cells_of m) type columns.type_def_flags)

-- by the type that declares the method
unfoldable pub declared_target : Module → Token → Token → Token → Option Token
declared_target m class declared declaring =
    if is_interface m declaring then interface_target m class declaring declared
    else class_target m class declaring declared

-- the method that a virtual call of a declared one reaches on an object of a class; a token of another table than
-- MethodDef declares none
unfoldable pub target_of : Module → Token → Token → Option Token
target_of m class declared = if declared.table == tables.method_def
    then option_and_then (declared_target m class declared) (owner_of m declared) else None
