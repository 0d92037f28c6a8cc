-- The kinds of the interpreter in signatures (ECMA-335 II.23.1.16, II.23.2).
use Rattle.std.specs.Prelude.{ℕ, Bool, true, false, ◌&&◌, ◌%◌, List, [], ◌∷◌, Option, Some, None, option_map, option_and_then, ◌==◌, if◌then◌else◌, not}
use Rattle.std.specs.Option.{option_map_or}
use Rattle.enc_base.specs.Numbers.{has_flag}
use Rattle.enc_objects.specs.declared.kind.Kind.{Kind}
use Rattle.enc_objects.specs.declared.kind.Kind.TheVariants as kind
use Rattle.enc_sigs.specs.Grammar.{is_coded, sig_in}
use Rattle.enc_sigs.specs.Tree.{Tree, Forest, none, more, SigTree}
use Rattle.enc_sigs.specs.declared.kind.SigKind.TheVariants as sigs

-- the kind of a type by its first byte: truth values, characters, integers, text, class, object, array of one
-- dimension; all others have none
unfoldable pub kind_of_element : ℕ → Option Kind
kind_of_element e =
    if e == 0x02 then Some kind.U1
    else if e == 0x03 then Some kind.U2
    else if e == 0x04 then Some kind.I1
    else if e == 0x05 then Some kind.U1
    else if e == 0x06 then Some kind.I2
    else if e == 0x07 then Some kind.U2
    else if e == 0x08 then Some kind.I4
    else if e == 0x09 then Some kind.U4
    else if e == 0x0A then Some kind.I8
    else if e == 0x0B then Some kind.U8
    else if e == 0x0E then Some kind.Ref
    else if e == 0x12 then Some kind.Ref
    else if e == 0x1C then Some kind.Ref
    else if e == 0x1D then Some kind.Ref
    else None

abbrev pub kind_of_tree : Tree → Option Kind
kind_of_tree t = kind_of_element t.element

-- the element of the first type of a forest, 0 where there is none
abbrev pub first_element : Forest → ℕ
first_element none = 0
first_element (more e t n k r) = e

-- the kind of a parameter, which may stand behind a sentinel (II.23.2.2)
abbrev pub kind_of_parameter : Tree → Option Kind
kind_of_parameter t = kind_of_element (if t.element == 0x41 then first_element t.kids else t.element)

-- the answers of a function for all elements of a list, where each has one
unfoldable pub answers_of : {A B : Type 0} → (A → Option B) → List A → Option (List B)
answers_of f [] = Some []
answers_of f (x ∷ rest) = option_and_then (λ y. option_map (λ ys. y ∷ ys) (answers_of f rest)) (f x)

-- how a method is called: whether on an object, what it gives, None for void, and what it takes
pub record CallShape : Type 0 where
  pub this : Bool
  pub gives : Option Kind
  pub takes : List Kind

-- what a method gives: nothing, or a value of a kind
unfoldable pub gives_of : Tree → Option (Option Kind)
gives_of t = if t.element == 0x01 then Some None else option_map Some (kind_of_tree t)

abbrev pub shape_of_parts : Bool → List Tree → Option CallShape
shape_of_parts this [] = None
shape_of_parts this (t ∷ params) =
    option_and_then (λ gives. option_map (λ takes. record { this = this; gives = gives; takes = takes })
    (answers_of kind_of_parameter params)) (gives_of t)

-- a method of the plain calling convention, without generic parameters, all of whose types have kinds
unfoldable pub shape_of_tree : SigTree → Option CallShape
shape_of_tree s = if s.kind % 0x10 == 0 && s.generics == 0 then shape_of_parts (has_flag 0x20 s.kind) s.parts else None

-- by the blob (II.23.2.1)
unfoldable pub call_shape_in : List ℕ → Option CallShape
call_shape_in blob = option_and_then shape_of_tree (sig_in is_coded sigs.Method blob)

-- one type alone
abbrev pub is_single : List Tree → Bool
is_single (t ∷ []) = true
is_single _ = false

-- a method without an object and without parameters, whatever it gives
unfoldable pub takes_nothing : List ℕ → Bool
takes_nothing blob = option_map_or (λ (s : SigTree). not (has_flag 0x20 s.kind) && is_single s.parts)
    (sig_in is_coded sigs.Method blob) false

-- the kind of a field (II.23.2.4)
abbrev pub kind_of_first : List Tree → Option Kind
kind_of_first [] = None
kind_of_first (t ∷ rest) = kind_of_tree t

unfoldable pub field_kind_in : List ℕ → Option Kind
field_kind_in blob = option_and_then (λ (s : SigTree). kind_of_first s.parts) (sig_in is_coded sigs.Field blob)

-- the kinds of local variables (II.23.2.6)
unfoldable pub local_kinds_in : List ℕ → Option (List Kind)
local_kinds_in blob = option_and_then (λ (s : SigTree). answers_of kind_of_tree s.parts)
    (sig_in is_coded sigs.Locals blob)
