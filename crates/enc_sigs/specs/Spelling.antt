-- The shortest spelling of a signature (ECMA-335 II.23.2).
use Rattle.std.specs.Prelude.{◌≡◌, ℕ, ◌+◌, ◌-◌, ◌*◌, ◌%◌, List, [], ◌∷◌, ◌++◌, length, slice_get, Option, Some, None, nat_lt, ◌==◌, if◌then◌else◌}
use Rattle.enc_base.specs.Numbers.{spelled, spelled_signed, has_flag}
use Rattle.enc_base.specs.declared.token.Token.{Token}
use Rattle.enc_base.specs.Tables.{type_def, type_ref}
use Rattle.enc_sigs.specs.declared.kind.SigKind.{SigKind}
use Rattle.enc_sigs.specs.declared.kind.SigKind.TheVariants.{Method, Field, Locals, Property, TypeSpec, MethodSpec}
use Rattle.enc_sigs.specs.declared.type_form.TypeForm.{TypeForm}
use Rattle.enc_sigs.specs.declared.type_form.TypeForm.TheVariants as form
use Rattle.enc_sigs.specs.declared.type_form.Numeral.{Numeral}
use Rattle.enc_sigs.specs.declared.type_form.Numeral.TheVariants.{Size, Bound}
use Rattle.enc_sigs.specs.Tree.{Forest, none, more, Tree, SigTree, trees, forest_of}
use Rattle.enc_sigs.specs.Grammar.{form_of, is_coded, sig_in}
use Rattle.enc_base.specs.Readers.{is_small}

-- a number, where it can be spelled
unfoldable pub number_bytes : ℕ → List ℕ
number_bytes n = if nat_lt n 0x20000000 then spelled n else []

-- a signed number by its 32 bits, where it can be spelled
unfoldable pub signed_bytes : ℕ → List ℕ
signed_bytes bits = if is_small bits then spelled_signed bits else []

-- the number of a token: its row, and in the two low bits its table (II.23.2.8)
abbrev pub token_number : Token → ℕ
token_number t = t.row * 4 + (if t.table == type_def then 0 else if t.table == type_ref then 1 else 2)

-- a token (II.23.2.8)
unfoldable pub token_bytes : Token → List ℕ
token_bytes t = number_bytes (token_number t)

-- lists one behind the other
abbrev pub joined : List (List ℕ) → List ℕ
joined [] = []
joined (x ∷ xs) = x ++ joined xs

-- a size or a lower bound
abbrev pub numeral_bytes : Numeral → ℕ → List ℕ
numeral_bytes Size n = number_bytes n
numeral_bytes Bound n = signed_bytes n

-- the numbers of these, one behind the other
abbrev pub each_numeral : Numeral → List Tree → List ℕ
each_numeral kind [] = []
each_numeral kind (t ∷ ts) = numeral_bytes kind t.number ++ each_numeral kind ts

-- a count and so many sizes or lower bounds (II.23.2.13)
unfoldable pub numerals_bytes : Numeral → Tree → List ℕ
numerals_bytes kind t = number_bytes (length (trees t.kids)) ++ each_numeral kind (trees t.kids)

-- a count and so many parts
unfoldable pub counted_bytes : List (List ℕ) → List ℕ
counted_bytes parts = number_bytes (length parts) ++ joined parts

-- the count of generic parameters, where the first byte says that there are any (II.23.2.1)
unfoldable pub generics_bytes : ℕ → ℕ → List ℕ
generics_bytes calling generics = if has_flag 0x10 calling then number_bytes generics else []

-- the count of parameters, the return type or the type, the parameters
unfoldable pub parts_bytes : List (List ℕ) → List ℕ
parts_bytes parts = number_bytes (length parts - 1) ++ joined parts

-- the first of these
abbrev pub front_of : List (List ℕ) → List ℕ
front_of [] = []
front_of (x ∷ xs) = x

-- the sizes or the lower bounds that stand there
abbrev pub numerals_of : Numeral → Option Tree → List ℕ
numerals_of kind None = []
numerals_of kind (Some t) = numerals_bytes kind t

-- an array: its type, its rank, its sizes and its lower bounds (II.23.2.13)
unfoldable pub array_bytes : ℕ → List Tree → List (List ℕ) → List ℕ
array_bytes rank kids parts = front_of parts
    ++ (number_bytes rank ++ (numerals_of Size (slice_get kids 1) ++ numerals_of Bound (slice_get kids 2)))

-- a pointer to a function
unfoldable pub pointer_bytes : ℕ → List Tree → List (List ℕ) → List ℕ
pointer_bytes calling (generics ∷ ts) (x ∷ parts) =
    (calling % 0x100) ∷ (generics_bytes calling generics.number ++ parts_bytes parts)
pointer_bytes calling _ _ = []

-- what follows the first byte: the token, the number, the parts and what these spell
unfoldable pub formed_bytes : Option TypeForm → Token → ℕ → List Tree → List (List ℕ) → List ℕ
formed_bytes None t n kids parts = joined parts
formed_bytes (Some form.Bare) t n kids parts = []
formed_bytes (Some form.Wrapped) t n kids parts = joined parts
formed_bytes (Some form.Named) t n kids parts = token_bytes t
formed_bytes (Some form.Modified) t n kids parts = token_bytes t ++ joined parts
formed_bytes (Some form.Numbered) t n kids parts = number_bytes n
formed_bytes (Some form.Array) t n kids parts = array_bytes n kids parts
formed_bytes (Some form.Instance) t n kids parts = (n % 0x100) ∷ (token_bytes t ++ counted_bytes parts)
formed_bytes (Some form.Pointer) t n kids parts = pointer_bytes n kids parts

-- what each type of these spells (II.23.2.12)
unfoldable pub spellings : Forest → List (List ℕ)
spellings none = []
spellings (more e t n k r) = (e ∷ formed_bytes (form_of e) t n (trees k) (spellings k)) ∷ spellings r

-- the bytes of a type (II.23.2.12)
unfoldable pub tree_bytes : Tree → List ℕ
tree_bytes t = t.element ∷ formed_bytes (form_of t.element) t.token t.number (trees t.kids) (spellings t.kids)

-- the bytes of a signature (II.23.2.1 to II.23.2.6, II.23.2.14, II.23.2.15)
unfoldable pub front_bytes : SigKind → ℕ → ℕ → List (List ℕ) → List ℕ
front_bytes Method kind generics parts = kind ∷ (generics_bytes kind generics ++ parts_bytes parts)
front_bytes Field kind generics parts = kind ∷ joined parts
front_bytes Locals kind generics parts = kind ∷ counted_bytes parts
front_bytes Property kind generics parts = kind ∷ parts_bytes parts
front_bytes TypeSpec kind generics parts = joined parts
front_bytes MethodSpec kind generics parts = kind ∷ counted_bytes parts

-- by its tree
unfoldable pub sig_bytes : SigTree → List ℕ
sig_bytes s = front_bytes s.form s.kind s.generics (spellings (forest_of s.parts))

-- the shortest spelling of a tree is read as the tree, by the grammar of its kind, the range of its tokens aside
abbrev pub IsSpelled : SigTree → Type 0
IsSpelled s = sig_in is_coded s.form (sig_bytes s) ≡ Some s
