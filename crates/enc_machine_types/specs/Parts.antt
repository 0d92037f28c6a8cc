-- For the contracts of private functions: the parts of a signature of which the kinds are asked, one behind the
-- other (ECMA-335 II.23.2.1 to II.23.2.6).
use Rattle.std.specs.Prelude.{ℕ, Bool, false, ◌&&◌, ◌%◌, ◌==◌, not, List, drop, Option, Some, None, option_map, option_and_then, if◌then◌else◌}
use Rattle.std.specs.Option.{option_map_or}
use Rattle.enc_base.specs.Numbers.{has_flag, is_empty}
use Rattle.enc_base.specs.Readers.{Reader, number_in}
use Rattle.enc_objects.specs.declared.kind.Kind.{Kind}
use Rattle.enc_sigs.specs.Grammar.{all_of, begins, calling_in, is_coded, many, type_in}
use Rattle.enc_sigs.specs.Reads.{element_front}
use Rattle.enc_machine_types.specs.Elements.{CallShape, kind_of_element}
use Rattle.enc_machine_types.specs.Fronts.{kind_front, parameter_kinds}

-- what a method gives, by the first byte of its return type
unfoldable pub given_of_element : ℕ → Option (Option Kind)
given_of_element e = if e == 0x01 then Some None else option_map Some (kind_of_element e)

-- what a method gives, by the type at the front
unfoldable pub given_front : Reader (Option Kind)
given_front bytes =
    option_and_then (λ (p : ℕ × List ℕ). option_map (λ (g : Option Kind). (g, p.1)) (given_of_element p.0))
    (element_front (type_in is_coded bytes))

-- the count of parameters, what the method gives, the parameters, and nothing behind them
unfoldable pub shape_behind : Bool → List ℕ → Option CallShape
shape_behind this bytes =
    option_and_then
    (λ (n : ℕ × List ℕ). option_and_then
    (λ (g : Option Kind × List ℕ). option_map (λ (ks : List Kind). record { this = this; gives = g.0; takes = ks })
    (all_of (parameter_kinds n.0 g.1)))
    (given_front n.1))
    (number_in bytes)

-- a method's first byte, and the rest
unfoldable pub shape_front : List ℕ → Option CallShape
shape_front blob =
    option_and_then (λ (c : (ℕ × ℕ) × List ℕ). if c.0.0 % 0x10 == 0
    && c.0.1 == 0 then shape_behind (has_flag 0x20 c.0.0) c.1 else None) (calling_in blob)

-- a type was read, and nothing is behind it
abbrev pub ends_there : Option (ℕ × List ℕ) → Bool
ends_there None = false
ends_there (Some p) = is_empty p.1

-- a method's first byte, no parameters, the return type, and nothing behind it
unfoldable pub nothing_front : List ℕ → Bool
nothing_front blob =
    option_map_or
    (λ (c : (ℕ × ℕ) × List ℕ). option_map_or
    (λ (n : ℕ × List ℕ). not (has_flag 0x20 c.0.0) && (n.0 == 0 && ends_there (element_front (type_in is_coded n.1))))
    (number_in c.1) false)
    (calling_in blob) false

-- what is behind the byte, where it stands at the front
unfoldable pub behind_byte : ℕ → List ℕ → Option (List ℕ)
behind_byte b bytes = if begins b bytes then Some (drop 1 bytes) else None

-- a field's first byte, its type, and nothing behind it
unfoldable pub field_front : List ℕ → Option Kind
field_front blob = option_and_then (λ (rest : List ℕ). all_of (kind_front rest)) (behind_byte 0x06 blob)

-- the first byte of local variables, their count, their types, and nothing behind them
unfoldable pub locals_front : List ℕ → Option (List Kind)
locals_front blob =
    option_and_then (λ (rest : List ℕ). option_and_then (λ (n : ℕ × List ℕ). all_of (many kind_front n.0 n.1))
    (number_in rest)) (behind_byte 0x07 blob)
