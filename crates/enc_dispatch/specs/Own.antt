-- For the contracts of private functions: a class's own virtual methods, by slot.
use Rattle.std.specs.Prelude.{◌≡◌, ℕ, Option, Some, None, List, option_map, filter, slice_get, ◌==◌, if◌then◌else◌}
use Rattle.enc_key_map.specs.declared.index.Index.{Index}
use Rattle.enc_key_map.specs.Index.{value_at}
use Rattle.enc_plain.specs.Module.{Module, kids_of}
use Rattle.enc_base.specs.Tables as tables
use Rattle.enc_dispatch.specs.declared.method_part.MethodPart.{MethodPart}
use Rattle.enc_dispatch.specs.declared.own_method.OwnMethod.{OwnMethod}
use Rattle.enc_dispatch.specs.declared.wanted.Wanted.{Wanted}
use Rattle.enc_dispatch.specs.declared.wanted.Wanted.TheVariants.{Virtual, Public}
use Rattle.enc_dispatch.specs.Buckets.{is_slot}
use Rattle.enc_dispatch.specs.Stored.{class_at, own_key, own_part}
use Rattle.enc_dispatch.specs.Walked.{slot_at}
use Rattle.enc_dispatch.specs.Walks.{method_at, is_virtual, is_public}

-- the slot of a virtual method
unfoldable pub virtual_slot : Module → List MethodPart → ℕ → Option ℕ
virtual_slot m methods row = if is_virtual m (method_at row) then slot_at methods row else None

-- the slot of a method, where it is wanted
unfoldable pub wanted_slot : Module → List MethodPart → Wanted → ℕ → Option ℕ
wanted_slot m methods Virtual row = virtual_slot m methods row
wanted_slot m methods Public row = if is_public m (method_at row) then virtual_slot m methods row else None

abbrev pub row_part : Module → ℕ → OwnMethod
row_part m row = own_part m (method_at row)

-- a row, where it is of a slot
unfoldable pub own_one : Module → List MethodPart → Wanted → ℕ → ℕ → Option OwnMethod
own_one m methods wanted slot row =
    if is_slot slot (wanted_slot m methods wanted row) then Some (row_part m row) else None

-- the first of some rows that is of a slot
unfoldable pub own_among : Module → List MethodPart → Wanted → ℕ → List ℕ → Option OwnMethod
own_among m methods wanted slot rows =
    option_map (row_part m) (slice_get (filter (λ (row : ℕ). is_slot slot (wanted_slot m methods wanted row)) rows) 0)

-- what is of one class
abbrev pub in_class : ℕ → ℕ → Option OwnMethod → Option OwnMethod
in_class class c o = if class == c then o else None

-- the first method of a slot that a class has
abbrev pub own_in_class : Module → List MethodPart → Wanted → ℕ → ℕ → Option OwnMethod
own_in_class m methods wanted slot class =
    own_among m methods wanted slot (kids_of m (class_at class) tables.method_def)

-- an index has the first wanted method of each class and slot, and no other
abbrev pub AreAllOwn : Module → List MethodPart → Wanted → Index OwnMethod → Type 0
AreAllOwn m methods wanted own = (c s : ℕ) → value_at own (own_key c s) ≡ own_in_class m methods wanted s c
