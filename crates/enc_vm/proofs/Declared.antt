-- The types that declare methods.
use Rattle.std.proofs.Common.{◌≡◌, ℕ, ◌+◌, ◌<◌, ◌≤◌, Bool, true, false, List, length, Option, Some, None, IsTrue, refl, sym, ap, subst, ◌∙◌, arith}
use Rattle.std.specs.Prelude.{◌&&◌, nat_lt, nat_le, option_map, unwrap_or, position, if◌then◌else◌}
use Rattle.std.specs.List.{position_or_len}
use Rattle.std.proofs.lemmas.Bool.Decides.{nat_tests}
use Rattle.enc_base.specs.Token.{nth_row, nil}
use Rattle.enc_base.specs.declared.token.Token.{Token}
use Rattle.enc_plain.specs.Cell.{kind_in, numbers}
use Rattle.enc_plain.specs.Module.{Module, rows_in, has_row, has_kid, owner_of}
use Rattle.enc_schema.specs.Children.{is_child_table, owner_table}
use Rattle.enc_schema.specs.Columns as columns
use Rattle.enc_schema.specs.Schema.{columns_in}
use Rattle.enc_base.specs.Tables.{field, method_def, type_def}
use Rattle.enc_vm.specs.Calls.{declaring}

pub is_child : (table : ℕ) → table ≡ method_def → IsTrue (is_child_table table)
is_child table at = rw at refl

pub type_flags : (table : ℕ) → table ≡ type_def → kind_in table columns.type_def_flags ≡ Some numbers
unfolding columns_in
type_flags table at = rw at refl

pub owner_is : (m : Module) (method owner : Token) → owner_of m method ≡ Some owner → owner ≡ declaring m method
owner_is m method owner e = sym (ap (λ (o : Option Token). unwrap_or o nil) e)

below : (n k i : ℕ) (b : Bool) → nat_lt n k ≡ b → (if b then Some n else None) ≡ Some i → i < k
below n k i true is e = let same : n ≡ i = cc in grind (arith, nat_tests, is, same)
below n k i false is e = absurd cc

-- a row that was searched is there
placed : {X : Type 0} (p : X → Bool) (xs : List X) (i : ℕ) → position p xs ≡ Some i → i < length xs
placed p xs i e = below (position_or_len p xs) (length xs) i (nat_lt (position_or_len p xs) (length xs)) refl e

is_there : (row n : ℕ) → 0 < row → row ≤ n → (nat_lt 0 row && nat_le row n) ≡ true
is_there row n low high = grind (arith, nat_tests, low, high)

by_place : (m : Module) (table : ℕ) (o : Option ℕ) (owner : Token) → ((i : ℕ) → o ≡ Some i → i < length (rows_in m table))
    → option_map (nth_row table) o ≡ Some owner → (owner.table ≡ table) × IsTrue (has_row m owner)
unfolding has_row
by_place m table None owner low e = absurd cc
by_place m table (Some i) owner low e =
    let same : nth_row table i ≡ owner = cc in
    let small : i < length (rows_in m table) = low i refl in
    subst (λ (t : Token). (t.table ≡ table) × IsTrue (has_row m t)) same
    (refl, is_there (i + 1) (length (rows_in m table)) (omega arith) (omega (arith, small)))

owner_both : (m : Module) (child owner : Token) → owner_of m child ≡ Some owner → (owner.table ≡ owner_table child.table) × IsTrue (has_row m owner)
unfolding owner_of
owner_both m child owner e =
    by_place m (owner_table child.table) (position (has_kid child) (rows_in m (owner_table child.table))) owner
    (λ i is. placed (has_kid child) (rows_in m (owner_table child.table)) i is) e

type_of : (table : ℕ) → table ≡ method_def → owner_table table ≡ type_def
type_of table at = rw at refl

pub owner_type : (m : Module) (method owner : Token) → method.table ≡ method_def → owner_of m method ≡ Some owner → owner.table ≡ type_def
owner_type m method owner at e = (owner_both m method owner e).0 ∙ type_of method.table at

pub owner_row : (m : Module) (method owner : Token) → method.table ≡ method_def → owner_of m method ≡ Some owner → IsTrue (has_row m owner)
owner_row m method owner at e = (owner_both m method owner e).1

-- the same of fields
pub is_field_child : (table : ℕ) → table ≡ field → IsTrue (is_child_table table)
is_field_child table at = rw at refl

field_owners : (table : ℕ) → table ≡ field → owner_table table ≡ type_def
field_owners table at = rw at refl

pub field_owner_type : (m : Module) (f owner : Token) → f.table ≡ field → owner_of m f ≡ Some owner → owner.table ≡ type_def
field_owner_type m f owner at e = (owner_both m f owner e).0 ∙ field_owners f.table at

pub field_owner_row : (m : Module) (f owner : Token) → f.table ≡ field → owner_of m f ≡ Some owner → IsTrue (has_row m owner)
field_owner_row m f owner at e = (owner_both m f owner e).1

pub ruleset declared_steps = (is_child, owner_is, owner_type, owner_row)

pub ruleset declaring_lemmas = (is_field_child, owner_is, field_owner_type, field_owner_row)
