-- Kinds at the front of bytes, read one behind the other (ECMA-335 II.23.2).
use Rattle.std.specs.Prelude.{ℕ, zero, suc, List, [], ◌∷◌, drop, Option, Some, None, option_map, option_and_then, slice_get, if◌then◌else◌}
use Rattle.enc_base.specs.Readers.{Reader, giving, both}
use Rattle.enc_objects.specs.declared.kind.Kind.{Kind}
use Rattle.enc_sigs.specs.Grammar.{begins, is_coded, many, type_in}
use Rattle.enc_sigs.specs.Reads.{element_front}
use Rattle.enc_machine_types.specs.Elements.{kind_of_element}

-- the kind of the type at the front
unfoldable pub kind_front : Reader Kind
kind_front bytes =
    option_and_then (λ (p : ℕ × List ℕ). option_map (λ (k : Kind). (k, p.1)) (kind_of_element p.0))
    (element_front (type_in is_coded bytes))

-- what is behind the sentinel that may stand at the front (II.23.2.2)
abbrev pub past_sentinel : List ℕ → List ℕ
past_sentinel bytes = if begins 0x41 bytes then drop 1 bytes else bytes

-- the kind of a type that may stand behind a sentinel
unfoldable pub parameter_front : Reader Kind
parameter_front bytes = kind_front (past_sentinel bytes)

-- the kinds of so many parameters, of which one may stand behind a sentinel
unfoldable pub parameter_kinds : ℕ → Reader (List Kind)
parameter_kinds zero bytes = Some ([], bytes)
parameter_kinds (suc n) bytes =
    if begins 0x41 bytes then many kind_front (suc n) (drop 1 bytes)
    else giving (λ (p : Kind × List Kind). p.0 ∷ p.1) (both kind_front (parameter_kinds n)) bytes

-- a kind and those behind it, none where there is no first
abbrev pub with_kinds : (List ℕ → List Kind) → Option (Kind × List ℕ) → List Kind
with_kinds more None = []
with_kinds more (Some p) = p.0 ∷ more p.1

-- the kinds of the first n types, each of which may stand behind a sentinel, as far as they have kinds
unfoldable pub kinds_at : ℕ → List ℕ → List Kind
kinds_at zero bytes = []
kinds_at (suc n) bytes = with_kinds (kinds_at n) (parameter_front bytes)

-- what a first kind and those behind it stand for: no kinds where there is no first
abbrev pub all_kinds : Option (Kind × List Kind) → List Kind
all_kinds None = []
all_kinds (Some p) = p.0 ∷ p.1

-- of what is read, the thing at a place, and what is behind all of it: None where there is no such place
abbrev pub nth_of : {A : Type 0} → ℕ → Option (List A × List ℕ) → Option (A × List ℕ)
nth_of {A} i o = option_and_then (λ (p : List A × List ℕ). option_map (λ (x : A). (x, p.1)) (slice_get p.0 i)) o
