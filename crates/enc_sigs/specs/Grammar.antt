-- The grammar of signatures (ECMA-335 II.23.2).
use Rattle.std.specs.Prelude.{◌≡◌, ℕ, zero, suc, ◌/◌, ◌%◌, Bool, true, false, not, ◌&&◌, ◌||◌, List, [], ◌∷◌, drop, slice_index, Option, Some, None, option_map, option_and_then, nat_lt, nat_le, ◌==◌, if◌then◌else◌}
use Rattle.enc_base.specs.Numbers.{has_flag}
use Rattle.enc_base.specs.Readers.{Reader, giving, both, number_in, signed_in}
use Rattle.enc_base.specs.Token.{nil}
use Rattle.enc_base.specs.declared.token.Token.{Token}
use Rattle.enc_base.specs.declared.counts.Counts.{Counts}
use Rattle.enc_base.specs.Tables.{type_def, type_ref, type_spec}
use Rattle.enc_sigs.specs.declared.kind.SigKind.{SigKind}
use Rattle.enc_sigs.specs.declared.kind.SigKind.TheVariants.{Method, Field, Locals, Property, TypeSpec, MethodSpec}
use Rattle.enc_sigs.specs.declared.type_form.TypeForm.{TypeForm}
use Rattle.enc_sigs.specs.declared.type_form.TypeForm.TheVariants as form
use Rattle.enc_sigs.specs.declared.row_test.RowTest.{RowTest}
use Rattle.enc_sigs.specs.declared.row_test.RowTest.TheVariants.{Any, Within}
use Rattle.enc_sigs.specs.declared.type_form.Numeral.{Numeral}
use Rattle.enc_sigs.specs.declared.type_form.Numeral.TheVariants.{Size, Bound}
use Rattle.enc_sigs.specs.Tree.{Tree, SigTree, forest_of}

-- a number, and behind it what depends on it
abbrev pub upon : {B : Type 0} → Reader ℕ → (ℕ → Reader B) → Reader (ℕ × B)
upon {B} r s bytes = option_and_then
    (λ (p : ℕ × List ℕ). option_map (λ (q : B × List ℕ). ((p.0, q.0), q.1)) (s p.0 p.1)) (r bytes)

-- nothing: the number is given
abbrev pub given : ℕ → Reader ℕ
given n bytes = Some (n, bytes)

-- a byte that passes a test
unfoldable pub byte_in : (ℕ → Bool) → Reader ℕ
byte_in test [] = None
byte_in test (b ∷ rest) = if test b then Some (b, rest) else None

-- the table that the two low bits of a token's number name: TypeDef, TypeRef, TypeSpec (II.23.2.8)
abbrev pub table_of : ℕ → ℕ
table_of tag = if tag == 0 then type_def else if tag == 1 then type_ref else type_spec

-- the token with such a number
abbrev pub token_named : ℕ → Token
token_named n = record { table = table_of (n % 4); row = n / 4 }

-- the number names a table (II.23.2.8)
unfoldable pub is_coded : ℕ → Bool
is_coded n = not (n % 4 == 3)

-- the number names a table and one of its rows
unfoldable pub is_counted : (ℕ → ℕ) → ℕ → Bool
is_counted count n = is_coded n && nat_le 1 (n / 4) && nat_le (n / 4) (count (table_of (n % 4)))

-- a token whose number passes the test (II.23.2.8)
unfoldable pub token_in : (ℕ → Bool) → Reader Token
token_in good bytes = option_and_then (λ (p : ℕ × List ℕ). if good p.0 then Some (token_named p.0, p.1) else None)
    (number_in bytes)

-- so many things one behind the other
unfoldable pub many : {A : Type 0} → Reader A → ℕ → Reader (List A)
many one zero bytes = Some ([], bytes)
many {A} one (suc n) bytes = giving (λ (p : A × List A). p.0 ∷ p.1) (both one (many one n)) bytes

-- a count and so many things
unfoldable pub list_in : {A : Type 0} → Reader A → Reader (List A)
list_in {A} one = giving (λ (p : ℕ × List A). p.1) (upon number_in (many one))

-- a type with these parts
abbrev pub tree : ℕ → Token → ℕ → List Tree → Tree
tree element token number kids = record { element = element; token = token; number = number; kids = forest_of kids }

-- what follows a type's first byte (II.23.2.12, II.23.1.16)
unfoldable pub form_of : ℕ → Option TypeForm
form_of b =
    if nat_le 0x01 b && nat_le b 0x0E || b == 0x16 || b == 0x18 || b == 0x19 || b == 0x1C then Some form.Bare
    else if b == 0x0F || b == 0x10 || b == 0x1D || b == 0x45 then Some form.Wrapped
    else if b == 0x11 || b == 0x12 then Some form.Named
    else if b == 0x1F || b == 0x20 then Some form.Modified
    else if b == 0x13 || b == 0x1E then Some form.Numbered
    else if b == 0x14 then Some form.Array
    else if b == 0x15 then Some form.Instance
    else if b == 0x1B then Some form.Pointer
    else None

-- a type and a type within it, as a pointer (II.23.2.12)
unfoldable pub wrapped_in : Reader Tree → ℕ → Reader Tree
wrapped_in one b = giving (λ x. tree b nil 0 (x ∷ [])) one

-- a token alone (II.23.2.12)
unfoldable pub named_in : (ℕ → Bool) → ℕ → Reader Tree
named_in good b = giving (λ t. tree b t 0 []) (token_in good)

-- a modifier's token, and the modified type (II.23.2.7)
unfoldable pub modified_in : (ℕ → Bool) → Reader Tree → ℕ → Reader Tree
modified_in good one b = giving (λ (p : Token × Tree). tree b p.0 0 (p.1 ∷ [])) (both (token_in good) one)

-- a number alone (II.23.2.12)
unfoldable pub numbered_in : ℕ → Reader ℕ → Reader Tree
numbered_in b r = giving (λ n. tree b nil n []) r

-- the size or the lower bound of a dimension (II.23.2.13)
abbrev pub numeral_in : Numeral → Reader ℕ
numeral_in Size = number_in
numeral_in Bound = signed_in

-- a count and so many sizes or lower bounds (II.23.2.13)
unfoldable pub numerals_in : Numeral → Reader Tree
numerals_in kind = giving (λ ts. tree 0 nil 0 ts) (list_in (numbered_in 0 (numeral_in kind)))

-- an array: the type, the rank, sizes and lower bounds (II.23.2.13)
unfoldable pub array_in : Reader Tree → ℕ → Reader Tree
array_in one b =
    giving (λ (p : Tree × (ℕ × (Tree × Tree))). tree b nil p.1.0 (p.0 ∷ p.1.1.0 ∷ p.1.1.1 ∷ []))
    (both one (both number_in (both (numerals_in Size) (numerals_in Bound))))

-- a generic instance: a class or a value type, and the arguments (II.23.2.12)
unfoldable pub instance_in : (ℕ → Bool) → Reader Tree → ℕ → Reader Tree
instance_in good one b =
    giving (λ (p : ℕ × (Token × List Tree)). tree b p.1.0 p.0 p.1.1)
    (both (byte_in (λ c. c == 0x11 || c == 0x12)) (both (token_in good) (list_in one)))

-- a method's first byte: how it is called in the low four bits, and three flags (II.23.2.1, II.23.2.3)
unfoldable pub is_calling : ℕ → Bool
is_calling b = nat_lt b 0x80 && (nat_le (b % 0x10) 5 || b % 0x10 == 9)

-- the count of generic parameters, where the flag says that there are any (II.23.2.1)
unfoldable pub generics_in : ℕ → Reader ℕ
generics_in b = if has_flag 0x10 b then number_in else given 0

-- a method's first byte and its count of generic parameters
unfoldable pub calling_in : Reader (ℕ × ℕ)
calling_in = upon (byte_in is_calling) generics_in

-- the byte stands at the front
abbrev pub begins : ℕ → List ℕ → Bool
begins b [] = false
begins b (c ∷ rest) = c == b

-- a first thing and more
abbrev pub more_in : Reader Tree → Reader (List Tree) → Reader (List Tree)
more_in first others = giving (λ (p : Tree × List Tree). p.0 ∷ p.1) (both first others)

-- the parameter behind a sentinel, and so many more (II.23.2.2)
unfoldable pub marked_in : Reader Tree → ℕ → Reader (List Tree)
marked_in one n = more_in (wrapped_in one 0x41) (many one n)

-- so many parameters, one of which may stand behind a sentinel (II.23.2.2)
unfoldable pub params : Reader Tree → ℕ → Reader (List Tree)
params one zero bytes = Some ([], bytes)
params one (suc n) bytes = if begins 0x41 bytes then marked_in one n (drop 1 bytes)
    else more_in one (params one n) bytes

-- the count of parameters, the return type, the parameters (II.23.2.1 to II.23.2.3)
unfoldable pub parts_in : Reader Tree → Reader (List Tree)
parts_in one = giving (λ (p : ℕ × (Tree × List Tree)). p.1.0 ∷ p.1.1) (upon number_in (λ n. both one (params one n)))

-- the signature of a method
unfoldable pub method_in : Reader Tree → Reader ((ℕ × ℕ) × List Tree)
method_in one = both calling_in (parts_in one)

-- a pointer to a function: the signature of a method (II.23.2.12)
unfoldable pub pointer_in : Reader Tree → ℕ → Reader Tree
pointer_in one b = giving (λ (p : (ℕ × ℕ) × List Tree). tree b nil p.0.0 (tree 0 nil p.0.1 [] ∷ p.1)) (method_in one)

-- what follows a first byte of each form, by how the types within are read
unfoldable pub formed_in : (ℕ → Bool) → Reader Tree → TypeForm → ℕ → Reader Tree
formed_in good one form.Bare b = λ bytes. Some (tree b nil 0 [], bytes)
formed_in good one form.Wrapped b = wrapped_in one b
formed_in good one form.Named b = named_in good b
formed_in good one form.Modified b = modified_in good one b
formed_in good one form.Numbered b = numbered_in b number_in
formed_in good one form.Array b = array_in one b
formed_in good one form.Instance b = instance_in good one b
formed_in good one form.Pointer b = pointer_in one b

-- a type, where types stand in one another at most so deep (II.23.2.12)
unfoldable pub elem_in : (ℕ → Bool) → ℕ → Reader Tree
elem_in good zero bytes = None
elem_in good (suc depth) [] = None
elem_in good (suc depth) (b ∷ rest) = option_and_then (λ f. formed_in good (elem_in good depth) f b rest) (form_of b)

-- a type of the greatest depth that is allowed
unfoldable pub type_in : (ℕ → Bool) → Reader Tree
type_in good = elem_in good 100

-- the count of parameters, the type, the parameters (II.23.2.5)
unfoldable pub accessed_in : Reader Tree → Reader (List Tree)
accessed_in one = giving (λ (p : ℕ × (Tree × List Tree)). p.1.0 ∷ p.1.1) (upon number_in (λ n. both one (many one n)))

-- a signature of each kind (II.23.2.1 to II.23.2.6, II.23.2.14, II.23.2.15)
unfoldable pub front_in : (ℕ → Bool) → SigKind → Reader SigTree
front_in good Method = giving (λ (p : (ℕ × ℕ) × List Tree). record {
  form = Method;
  kind = p.0.0;
  generics = p.0.1;
  parts = p.1;
}) (method_in (type_in good))
front_in good Field =
    giving (λ (p : ℕ × Tree). record { form = Field; kind = p.0; generics = 0; parts = p.1 ∷ [] })
    (both (byte_in (λ b. b == 0x06)) (type_in good))
front_in good Locals =
    giving (λ (p : ℕ × List Tree). record { form = Locals; kind = p.0; generics = 0; parts = p.1 })
    (both (byte_in (λ b. b == 0x07)) (list_in (type_in good)))
front_in good Property =
    giving (λ (p : ℕ × List Tree). record { form = Property; kind = p.0; generics = 0; parts = p.1 })
    (both (byte_in (λ b. b == 0x08 || b == 0x28)) (accessed_in (type_in good)))
front_in good TypeSpec = giving (λ (t : Tree). record { form = TypeSpec; kind = 0; generics = 0; parts = t ∷ [] })
    (type_in good)
front_in good MethodSpec =
    giving (λ (p : ℕ × List Tree). record { form = MethodSpec; kind = p.0; generics = 0; parts = p.1 })
    (both (byte_in (λ b. b == 0x0A)) (list_in (type_in good)))

-- nothing may stand behind it
abbrev pub unless_more : {A : Type 0} → A → List ℕ → Option A
unless_more x [] = Some x
unless_more x (b ∷ rest) = None

-- what is read, where nothing is left
abbrev pub all_of : {A : Type 0} → Option (A × List ℕ) → Option A
all_of {A} o = option_and_then (λ (p : A × List ℕ). unless_more p.0 p.1) o

-- the signature that the bytes spell, and nothing behind it
unfoldable pub sig_in : (ℕ → Bool) → SigKind → List ℕ → Option SigTree
sig_in good kind bytes = all_of (front_in good kind bytes)

-- the test lets through only numbers that name a table
abbrev pub NamesTables : (ℕ → Bool) → Type 0
NamesTables good = (n : ℕ) → good n ≡ true → is_coded n ≡ true

-- by the number of rows of each table
abbrev pub in_counts : Counts → ℕ → Bool
in_counts counts = is_counted (λ t. slice_index counts.rows t)

-- by the rows that a token may name
abbrev pub test_of : RowTest → ℕ → Bool
test_of Any = is_coded
test_of (Within counts) = in_counts counts.now
