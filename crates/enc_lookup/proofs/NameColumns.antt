-- The kinds of the columns that names and owners are read from.
use Rattle.std.proofs.Common.{◌≡◌, ℕ, Some, refl}
use Rattle.enc_schema.specs.Schema.{columns_in}
use Rattle.enc_plain.specs.Cell.{numbers, texts, references, kind_in}

pub type_flags : (t : ℕ) → t ≡ 0x02 → kind_in t 0 ≡ Some numbers
unfolding columns_in
type_flags t e = rw e refl

pub type_name : (t : ℕ) → t ≡ 0x02 → kind_in t 1 ≡ Some texts
unfolding columns_in
type_name t e = rw e refl

pub type_space : (t : ℕ) → t ≡ 0x02 → kind_in t 2 ≡ Some texts
unfolding columns_in
type_space t e = rw e refl

pub nested_class : (t : ℕ) → t ≡ 0x29 → kind_in t 0 ≡ Some references
unfolding columns_in
nested_class t e = rw e refl

pub enclosing_class : (t : ℕ) → t ≡ 0x29 → kind_in t 1 ≡ Some references
unfolding columns_in
enclosing_class t e = rw e refl

pub field_name : (t : ℕ) → t ≡ 0x04 → kind_in t 1 ≡ Some texts
unfolding columns_in
field_name t e = rw e refl

pub method_name : (t : ℕ) → t ≡ 0x06 → kind_in t 3 ≡ Some texts
unfolding columns_in
method_name t e = rw e refl

pub param_name : (t : ℕ) → t ≡ 0x08 → kind_in t 2 ≡ Some texts
unfolding columns_in
param_name t e = rw e refl

pub event_parent : (t : ℕ) → t ≡ 0x12 → kind_in t 0 ≡ Some references
unfolding columns_in
event_parent t e = rw e refl

pub event_name : (t : ℕ) → t ≡ 0x14 → kind_in t 1 ≡ Some texts
unfolding columns_in
event_name t e = rw e refl

pub property_parent : (t : ℕ) → t ≡ 0x15 → kind_in t 0 ≡ Some references
unfolding columns_in
property_parent t e = rw e refl

pub property_name : (t : ℕ) → t ≡ 0x17 → kind_in t 1 ≡ Some texts
unfolding columns_in
property_name t e = rw e refl

pub ruleset name_cases = (field_name, method_name, param_name, event_name, property_name)

pub ruleset parent_cases = (event_parent, property_parent)

pub ruleset type_steps = (type_name, type_space)

pub ruleset class_cases = (nested_class, enclosing_class)
