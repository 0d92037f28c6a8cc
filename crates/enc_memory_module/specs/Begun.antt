-- The module that a plain module in memory begins with.
use Rattle.std.specs.Prelude.{◌-◌, ℕ, List, [], ◌∷◌, replicate}
use Rattle.enc_plain.specs.Cell.{number, text, guid}
use Rattle.enc_meta.specs.Heaps.{nil_guid}
use Rattle.enc_plain.specs.Module.{Module, Row}
use Rattle.enc_base.specs.Tables as tables

-- the only row of Module: Generation 0, this name and this Mvid, nil EncId and EncBaseId (ECMA-335 II.22.30)
abbrev pub module_row : List ℕ → List ℕ → Row
module_row name mvid = record {
  cells = number 0 ∷ text name ∷ guid mvid ∷ guid nil_guid ∷ guid nil_guid ∷ [];
  kids = [];
}

-- the module with this row and nothing else: no resources, and no entry point
abbrev pub begun : List ℕ → List ℕ → Module
begun name mvid = record {
  tables = (module_row name mvid ∷ []) ∷ replicate (tables.table_count - 1) [];
  resources = [];
  entry = 0;
}
