-- Which catch clauses take a thrown object (ECMA-335 III.4.31, I.12.4.2).
use Rattle.std.specs.Prelude.{ℕ, Bool, false, ◌&&◌, ◌||◌, List, [], ◌∷◌, ◌++◌, bytes_eq, codes, ◌==◌, if◌then◌else◌}
use Rattle.std.specs.List.{list_any}
use Rattle.enc_base.specs.declared.token.Token.{Token}
use Rattle.enc_plain.specs.Alike.{tokens_alike}
use Rattle.enc_plain.specs.Module.{Module, cells_of}
use Rattle.enc_plain.specs.System.{is_of_system}
use Rattle.enc_schema.specs.Columns as columns
use Rattle.enc_base.specs.Tables as tables
use Rattle.enc_plain.specs.ClassPath.{path_of, class_base}
use Rattle.enc_unwind.specs.declared.thrown.Thrown.{Thrown}
use Rattle.enc_unwind.specs.declared.thrown.Thrown.TheVariants.{Class, Text, Array}

-- what stands behind a path: what its last class extends; the token itself, where it begins none
abbrev pub behind_path : Module → Token → List Token → Token
behind_path m class [] = class
behind_path m class (c ∷ rest) = behind_path m (class_base m c) rest

-- a TypeRef alone
abbrev pub type_refs : Token → List Token
type_refs t = if t.table == tables.type_ref then t ∷ [] else []

-- the types of an object of a class: the path of the class, and behind it a TypeRef, where one stands there
unfoldable pub types_of : Module → Token → List Token
types_of m class = path_of m class ++ type_refs (behind_path m class (path_of m class))

-- the object is of a type by what it is: of a class that is alike one of its own, or a text
abbrev pub is_of_type : Module → Thrown → Token → Bool
is_of_type m (Class class) caught = list_any (λ (t : Token). tokens_alike (cells_of m) t caught) (types_of m class)
is_of_type m Text caught = is_of_system m (codes "String") caught
is_of_type m Array caught = false

-- a catch clause of this class takes the object: System.Object takes each
unfoldable pub is_caught_by : Module → Thrown → Token → Bool
is_caught_by m thrown caught = is_of_system m (codes "Object") caught || is_of_type m thrown caught
