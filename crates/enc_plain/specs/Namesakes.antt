-- For the contracts of what remembers equal names: TypeRefs that have the same name and namespace.
use Rattle.std.specs.Prelude.{◌≡◌, ℕ, List, Some}
use Rattle.std.specs.Ordering.{nat_cmp}
use Rattle.std.specs.BTreeMap.{get}
use Rattle.enc_plain.specs.declared.namesakes.Namesakes.{Namesakes}
use Rattle.enc_plain.specs.Rows.{Rows, bytes_at}
use Rattle.enc_base.specs.Tables as tables
use Rattle.enc_schema.specs.Columns as columns

-- the name and the namespace of a row of TypeRef (II.22.38)
abbrev pub names_of : Rows → ℕ → List ℕ × List ℕ
names_of rows row = (
  bytes_at rows (record { table = tables.type_ref; row = row }) columns.type_ref_type_name,
  bytes_at rows (record { table = tables.type_ref; row = row }) columns.type_ref_type_namespace,
)

-- each row leads to one that has its names
abbrev pub AreNamesakes : Rows → Namesakes → Type 0
AreNamesakes rows known = (row next : ℕ) → get nat_cmp known.others row ≡ Some next
    → names_of rows row ≡ names_of rows next
