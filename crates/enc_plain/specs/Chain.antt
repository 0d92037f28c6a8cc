-- A chain: a base and the deltas that were applied to it.
use Rattle.std.specs.Prelude.{ℕ, zero, suc, List, length, Option, Some, unwrap_or, slice_get}
use Rattle.enc_meta.specs.Heaps.{Counted, nil_guid}
use Rattle.enc_plain.specs.Cell.{Cell, guid}
use Rattle.enc_plain.specs.Module.{Module, rows_in, cell_of}

-- the plain module after all deltas, the EncIds of the deltas in order, and the heaps of each generation from the
-- base on
pub record Chain : Type 0 where
  pub plain : Module
  pub ids : List (List ℕ)
  pub heaps : List Counted

-- the EncId of a generation; the base has none
abbrev pub id_of : Chain → ℕ → List ℕ
id_of c zero = nil_guid
id_of c (suc g) = unwrap_or (slice_get c.ids g) nil_guid

-- the number of rows of a table
abbrev pub rows_before : Chain → ℕ → ℕ
rows_before c table = length (rows_in c.plain table)

abbrev pub guid_in : Option Cell → List ℕ
guid_in (Some (guid g)) = g
guid_in _ = nil_guid

-- the Mvid of the module
abbrev pub mvid_of : Chain → List ℕ
mvid_of c = guid_in (cell_of c.plain (record { table = 0; row = 1 }) 2)
