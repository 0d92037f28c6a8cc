-- For the contracts of private functions: the walks over the parts of the index.
use Rattle.std.specs.Prelude.{ℕ, zero, suc, Bool, false, List, [], ◌∷◌, length, reverse, take, Option, Some, None, option_map, option_and_then, is_some, nat_le, ◌==◌, if◌then◌else◌}
use Rattle.std.specs.List.{list_any}
use Rattle.enc_base.specs.Order.{or_else}
use Rattle.enc_base.specs.Token.{is_token}
use Rattle.enc_base.specs.declared.token.Token.{Token}
use Rattle.enc_key_map.specs.Index.{value_at}
use Rattle.enc_base.specs.Tables as tables
use Rattle.enc_dispatch.specs.declared.class_part.ClassPart.{ClassPart}
use Rattle.enc_dispatch.specs.declared.method_part.MethodPart.{MethodPart}
use Rattle.enc_dispatch.specs.declared.own_method.OwnMethod.{OwnMethod}
use Rattle.enc_dispatch.specs.declared.impl_part.ImplPart.{ImplPart}
use Rattle.enc_dispatch.specs.declared.climb.Climb.{Climb}
use Rattle.enc_dispatch.specs.Stored.{DispatchParts, own_key, impl_key, interface_key}
use Rattle.enc_dispatch.specs.Parts.{nth_part}
use Rattle.enc_plain.specs.ClassPath.{is_on_path}
use Rattle.enc_dispatch.specs.Walks.{method_at}

-- the part of a class; other tokens have none
unfoldable pub class_part : DispatchParts → Token → Option ClassPart
class_part d t = if t.table == tables.type_def then nth_part d.classes t.row else None

-- a class and those behind it, where it is one
abbrev pub with_class : Token → (Token → List Token) → Option ClassPart → List Token
with_class class rest None = []
with_class class rest (Some p) = class ∷ rest p.base

-- a climb of so many steps
unfoldable pub climb_in : DispatchParts → ℕ → Token → List Token
climb_in d zero class = []
climb_in d (suc n) class = with_class class (climb_in d n) (class_part d class)

-- a class and those behind it, where there is one
abbrev pub path_with : Token → Option (List Token) → List Token
path_with class None = []
path_with class (Some rest) = class ∷ rest

abbrev pub left_in : DispatchParts → Climb → List Token
left_in d c = climb_in d c.left c.class

abbrev pub path_in : DispatchParts → Token → List Token
path_in d class = climb_in d (length d.classes) class

abbrev pub is_interface_part : Option ClassPart → Bool
is_interface_part None = false
is_interface_part (Some p) = p.is_interface

abbrev pub extends_in : DispatchParts → Token → Token → Bool
extends_in d class base = is_on_path base (path_in d class)

unfoldable pub has_interface_in : DispatchParts → Token → Token → Bool
has_interface_in d class interface = is_some (value_at d.interfaces (interface_key class.row interface))

abbrev pub implements_in : DispatchParts → Token → Token → Bool
implements_in d class interface = list_any (λ (c : Token). has_interface_in d c interface) (path_in d class)

-- the one of two rows of MethodImpl that comes first
abbrev pub earlier_impl : Option ImplPart → Option ImplPart → Option ImplPart
earlier_impl None b = b
earlier_impl (Some a) None = Some a
earlier_impl (Some a) (Some b) = if nat_le a.number b.number then Some a else Some b

abbrev pub body_row : ImplPart → ℕ
body_row p = p.body

abbrev pub row_of_own : OwnMethod → ℕ
row_of_own p = p.row

-- what a class's rows of MethodImpl give for either of two methods
unfoldable pub impl_in : DispatchParts → Token → ℕ → ℕ → Option ℕ
impl_in d class declared current =
    option_map body_row (earlier_impl (value_at d.impls (impl_key class.row declared))
    (value_at d.impls (impl_key class.row current)))

abbrev pub own_turn_in : ℕ → Option OwnMethod → Option ℕ
own_turn_in current None = Some current
own_turn_in current (Some own) = if own.is_new_slot then None else Some own.row

unfoldable pub turn_in : DispatchParts → ℕ → ℕ → ℕ → Token → Option ℕ
turn_in d slot declared current class =
    or_else (impl_in d class declared current) (own_turn_in current (value_at d.own (own_key class.row slot)))

abbrev pub go_on_in : ℕ → (ℕ → ℕ) → Option ℕ → ℕ
go_on_in current rest None = current
go_on_in current rest (Some next) = rest next

unfoldable pub walk_down_in : DispatchParts → ℕ → ℕ → List Token → ℕ → ℕ
walk_down_in d slot declared [] current = current
walk_down_in d slot declared (class ∷ rest) current =
    go_on_in current (walk_down_in d slot declared rest) (turn_in d slot declared current class)

-- the slot of a method's row
abbrev pub slot_at : List MethodPart → ℕ → Option ℕ
slot_at methods row = option_map (λ (p : MethodPart). p.slot) (nth_part methods row)

-- the first place of a class on a path, from 0
unfoldable pub place_on : Token → List Token → Option ℕ
place_on base [] = None
place_on base (c ∷ rest) = if is_token c base then Some 0 else option_map suc (place_on base rest)

-- the walk down over the first classes of a path
unfoldable pub class_walk_in : DispatchParts → List Token → Token → ℕ → ℕ → Option ℕ
class_walk_in d path declaring declared slot =
    option_map (λ (n : ℕ). walk_down_in d slot declared (reverse (take n path)) declared) (place_on declaring path)

unfoldable pub class_target_in : DispatchParts → Token → Token → ℕ → Option ℕ
class_target_in d class declaring declared =
    option_and_then (class_walk_in d (path_in d class) declaring declared) (slot_at d.methods declared)

unfoldable pub from_interface_in : DispatchParts → Token → List Token → List Token
from_interface_in d interface [] = []
from_interface_in d interface (class ∷ rest) =
    if has_interface_in d class interface then class ∷ rest else from_interface_in d interface rest

unfoldable pub given_by_in : DispatchParts → ℕ → ℕ → Token → Option ℕ
given_by_in d slot declared class =
    or_else (impl_in d class declared declared) (option_map row_of_own (value_at d.met (own_key class.row slot)))

abbrev pub with_class_row : Token → Option ℕ → Option (Token × ℕ)
with_class_row class given = option_map (λ (row : ℕ). (class, row)) given

unfoldable pub first_given_in : DispatchParts → ℕ → ℕ → List Token → Option (Token × ℕ)
first_given_in d slot declared [] = None
first_given_in d slot declared (class ∷ rest) =
    or_else (with_class_row class (given_by_in d slot declared class)) (first_given_in d slot declared rest)

unfoldable pub interface_target_in : DispatchParts → Token → Token → ℕ → ℕ → Option ℕ
interface_target_in d class interface declared slot =
    option_and_then (λ (g : Token × ℕ). class_target_in d class g.0 g.1)
    (first_given_in d slot declared (from_interface_in d interface (path_in d class)))

-- by the part of the method
unfoldable pub declared_target_in : DispatchParts → Token → ℕ → MethodPart → Option ℕ
declared_target_in d class declared p =
    if is_interface_part (class_part d p.owner) then interface_target_in d class p.owner declared p.slot
    else class_target_in d class p.owner declared

unfoldable pub target_in : DispatchParts → Token → Token → Option Token
target_in d class method =
    if method.table == tables.method_def
    then option_map method_at (option_and_then (declared_target_in d class method.row) (nth_part d.methods method.row))
    else None
