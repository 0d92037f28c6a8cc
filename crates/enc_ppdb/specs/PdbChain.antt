-- The PDBs of a base and its deltas, and the plain PDB that they mean (Portable PDB v1.0).
use Rattle.std.specs.Prelude.{ℕ, ◌-◌, length, drop, Bool, false, ◌&&◌, ◌==◌, List, [], ◌∷◌, Option, Some, None, option_map, option_and_then, unwrap_or, is_some, nat_le, if◌then◌else◌}
use Rattle.std.specs.List.{list_any}
use Rattle.enc_base.specs.Token.{is_token}
use Rattle.enc_base.specs.declared.token.Token.{Token}
use Rattle.enc_meta.specs.Heaps.{blob_at, guid_at, nil_guid}
use Rattle.enc_plain.specs.Debug.{Document, MethodDebug, PlainPdb, unknown, debug_of}
use Rattle.enc_rows.specs.Layout.{rows_of}
use Rattle.enc_rows.specs.Source.{Source, raw_in}
use Rattle.enc_schema.specs.Columns as columns
use Rattle.enc_base.specs.Tables as tables
use Rattle.enc_seqpoints.specs.Grammar.{MethodPoints, method_points}
use Rattle.enc_ppdb.specs.Pdb.{name_of_document, points_of}
use Rattle.enc_ppdb.specs.Points.{row_for}

-- a document of a file by its row (Document Table)
abbrev pub document_of : Source → Token → Document
document_of s row = record {
  name = unwrap_or (name_of_document s row) [];
  algorithm = unwrap_or (guid_at s.heaps.guids (raw_in s row columns.document_hash_algorithm)) nil_guid;
  hash = unwrap_or (blob_at s.heaps.blobs (raw_in s row columns.document_hash)) [];
  language = unwrap_or (guid_at s.heaps.guids (raw_in s row columns.document_language)) nil_guid;
}

-- the document with a number, where the file has it
unfoldable pub document_at : Source → ℕ → Option Document
document_at s n =
    if nat_le 1 n && nat_le n (rows_of s.layout tables.document)
    then Some (document_of s (record { table = tables.document; row = n })) else None

-- the row of a method in the PDB of a module: its own
unfoldable pub row_of_method : Source → Token → Option Token
row_of_method s method =
    if method.table == tables.method_def
    && (nat_le 1 method.row && nat_le method.row (rows_of s.layout tables.method_debug_information))
    then Some (record { table = tables.method_debug_information; row = method.row })
    else None

-- what a delta says: its PDB, where it has one, and the methods that have a new body in it
pub record DebugDelta : Type 0 where
  pub pdb : Option Source
  pub changed : List Token

-- a row of a file
abbrev pub row_in_file : Source → Option Token → Option (Source × Token)
row_in_file s row = option_map (λ (r : Token). (s, r)) row

-- where the PDB of a base has a method, and where that of a delta has it
abbrev pub base_row : Option Source → Token → Option (Source × Token)
base_row pdb method = option_and_then (λ (s : Source). row_in_file s (row_of_method s method)) pdb

abbrev pub delta_row : Option Source → Token → Option (Source × Token)
delta_row pdb method = option_and_then (λ (s : Source). row_in_file s (row_for s method)) pdb

-- the PDB of a delta has a row for a method
unfoldable pub is_named_by : Option DebugDelta → Token → Bool
is_named_by None method = false
is_named_by (Some d) method = is_some (delta_row d.pdb method)

-- what is known by a row of a file, by no row nothing
unfoldable pub points_at : Option (Source × Token) → MethodPoints
points_at place = unwrap_or (option_and_then (λ (p : Source × Token). points_of p.0 p.1) place) (method_points 0 [])

unfoldable pub documents_at : Option (Source × Token) → ℕ → Option Document
documents_at place n = option_and_then (λ (p : Source × Token). document_at p.0 n) place

unfoldable pub debug_at : Option (Source × Token) → MethodDebug
debug_at place = debug_of (documents_at place) (points_at place)

-- the plain PDB of a base: without a PDB, or without a row, nothing is known of a method
unfoldable pub pdb_begun : Option Source → PlainPdb
pdb_begun pdb method = debug_at (base_row pdb method)

-- a method with a row in a delta's PDB has the points of that row, and one with a new body and no row has none; all
-- others keep theirs
abbrev pub has_changed : List Token → Token → MethodDebug → MethodDebug
has_changed changed method before = if list_any (is_token method) changed then unknown else before

abbrev pub debug_or : Option (Source × Token) → MethodDebug → MethodDebug
debug_or None before = before
debug_or (Some place) before = debug_at (Some place)

unfoldable pub pdb_changed : PlainPdb → DebugDelta → PlainPdb
pdb_changed before d method = debug_or (delta_row d.pdb method) (has_changed d.changed method (before method))

-- the plain PDB of a base and its deltas, the newest first
unfoldable pub pdb_with : Option Source → List DebugDelta → PlainPdb
pdb_with base [] = pdb_begun base
pdb_with base (d ∷ older) = pdb_changed (pdb_with base older) d

-- the PDB of a base and what its deltas say, the newest first, with room for so many more
pub record PdbHistory : Type 0 where
  pub base : Option Source
  pub deltas : List DebugDelta
  pub room : ℕ

-- the same with so many deltas, the first of all; it has no room for others
abbrev pub earlier_pdb : ℕ → PdbHistory → PdbHistory
earlier_pdb generation h = record { base = h.base; deltas = drop (length h.deltas - generation) h.deltas; room = 0 }
