-- For the contracts of what finds all depths at once: walks through the types around a type, by steps that double.
use Rattle.std.specs.Prelude.{◌≡◌, ℕ, zero, suc, ◌+◌, ◌-◌, ◌<◌, ◌^◌, Bool, false, List, length, map, Option, Some, None}
use Rattle.std.specs.Prelude.{option_and_then, is_none, nat_lt, slice_get, slice_set, unwrap_or, if◌then◌else◌}
use Rattle.enc_base.specs.Order.{first_below}
use Rattle.enc_plain.specs.Module.{Module}
use Rattle.enc_plain.specs.Sound.{row_count}
use Rattle.enc_row_order.specs.Orders.{standing_rows}
use Rattle.enc_row_order.specs.Depth.{depth, enclosing, enclosing_at, depth_by}
use Rattle.enc_row_order.specs.declared.depth.Walk.{Walk}
use Rattle.enc_base.specs.Tables as tables

-- the type that is type_walked from one by so many steps, None where the walk has ended before
unfoldable pub type_walked : Module → ℕ → ℕ → Option ℕ
type_walked m zero type = Some type
type_walked m (suc n) type = option_and_then (type_walked m n) (enclosing m type)

-- for each type is listed where it comes to by so many steps, and how many types stand around it, counted by them
pub record AreWalks (m : Module) (steps : ℕ) (walks : List Walk) : Type 0 where
  pub count : length walks ≡ row_count m tables.type_def
  pub each : (i : ℕ) → i < row_count m tables.type_def
      → slice_get walks i ≡ Some (record { around = type_walked m steps (i + 1); depth = depth_by m steps (i + 1) })

-- the depths of all types, in the order of their rows
abbrev pub all_depths : Module → List ℕ
all_depths m = map (depth m) (standing_rows m tables.type_def)

-- a walk that has ended where it began, and one of a single step
abbrev pub ended : Walk
ended = record { around = None; depth = 0 }

abbrev pub one_step : Option ℕ → Walk
one_step None = ended
one_step (Some type) = record { around = Some type; depth = 1 }

-- for each type is listed the step to the type around it that the first rows of NestedClass tell
pub record AreFirst (m : Module) (rows : ℕ) (walks : List Walk) : Type 0 where
  pub count : length walks ≡ row_count m tables.type_def
  pub each : (i : ℕ) → i < row_count m tables.type_def
      → slice_get walks i ≡ Some (one_step (first_below (enclosing_at m (i + 1)) rows))

-- no step is noted for a type that is there
abbrev pub has_ended : Option Walk → Bool
has_ended None = false
has_ended (Some walk) = is_none walk.around

unfoldable pub is_free : List Walk → ℕ → Bool
is_free walks zero = false
is_free walks (suc i) = has_ended (slice_get walks i)

-- the step from one type to another noted where none is
unfoldable pub noted : ℕ → ℕ → List Walk → List Walk
noted nested enclosing walks =
    if is_free walks nested then slice_set walks (nested - 1) (record { around = Some enclosing; depth = 1 }) else walks

-- the walk from a type; from what is no type's row it has ended
unfoldable pub walk_from : List Walk → ℕ → Walk
walk_from walks zero = ended
walk_from walks (suc i) = unwrap_or (slice_get walks i) ended

-- a walk, and behind it the one from where it has come to
abbrev pub going_on : List Walk → Walk → Option ℕ → Walk
going_on walks walk None = walk
going_on walks walk (Some type) =
    record { around = (walk_from walks type).around; depth = walk.depth + (walk_from walks type).depth }

unfoldable pub doubled : List Walk → Walk → Walk
doubled walks walk = going_on walks walk walk.around

-- a depth that can be added to another
abbrev pub is_short : Walk → Bool
is_short walk = nat_lt walk.depth (2 ^ 31)
