-- The kinds of columns of types, members and local signatures.
use Rattle.std.proofs.Common.{◌≡◌, ℕ, Some, refl}
use Rattle.enc_schema.specs.Schema.{columns_in}
use Rattle.enc_plain.specs.Cell.{numbers, texts, blobs, references, kind_in}

pub field_flags : (t : ℕ) → t ≡ 0x04 → kind_in t 0 ≡ Some numbers
unfolding columns_in
field_flags t e = rw e refl

pub method_flags : (t : ℕ) → t ≡ 0x06 → kind_in t 2 ≡ Some numbers
unfolding columns_in
method_flags t e = rw e refl

pub type_flags : (t : ℕ) → t ≡ 0x02 → kind_in t 0 ≡ Some numbers
unfolding columns_in
type_flags t e = rw e refl

pub type_base : (t : ℕ) → t ≡ 0x02 → kind_in t 3 ≡ Some references
unfolding columns_in
type_base t e = rw e refl

pub reference_name : (t : ℕ) → t ≡ 0x01 → kind_in t 1 ≡ Some texts
unfolding columns_in
reference_name t e = rw e refl

pub reference_space : (t : ℕ) → t ≡ 0x01 → kind_in t 2 ≡ Some texts
unfolding columns_in
reference_space t e = rw e refl

pub method_signature : (t : ℕ) → t ≡ 0x06 → kind_in t 4 ≡ Some blobs
unfolding columns_in
method_signature t e = rw e refl

pub alone_kind : (t : ℕ) → t ≡ 0x11 → kind_in t 0 ≡ Some blobs
unfolding columns_in
alone_kind t e = rw e refl

pub member_class : (t : ℕ) → t ≡ 0x0A → kind_in t 0 ≡ Some references
unfolding columns_in
member_class t e = rw e refl

pub member_name : (t : ℕ) → t ≡ 0x0A → kind_in t 1 ≡ Some texts
unfolding columns_in
member_name t e = rw e refl

pub member_signature : (t : ℕ) → t ≡ 0x0A → kind_in t 2 ≡ Some blobs
unfolding columns_in
member_signature t e = rw e refl

pub method_name : (t : ℕ) → t ≡ 0x06 → kind_in t 3 ≡ Some texts
unfolding columns_in
method_name t e = rw e refl

pub field_signature : (t : ℕ) → t ≡ 0x04 → kind_in t 2 ≡ Some blobs
unfolding columns_in
field_signature t e = rw e refl

pub ruleset flags_cases = (method_flags, type_flags)

pub ruleset flags_steps = (field_flags, method_flags)

pub ruleset member_steps = (member_class, member_name, member_signature)

pub ruleset reference_steps = (reference_name, reference_space)

pub ruleset base_steps = (type_base, reference_name, reference_space)
