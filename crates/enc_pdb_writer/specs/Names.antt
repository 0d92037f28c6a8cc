-- For the contracts of private functions: the names of documents in a root of their own (Portable PDB v1.0, Document
-- Name Blob).
use Rattle.std.specs.Prelude.{◌≡◌, ℕ, ◌+◌, ◌≤◌, ◌^◌, Bool, true, List, [], length, map, sum_by, Option, Some, is_some, unwrap_or, option_and_then, Ok, slice_get}
use Rattle.std.specs.List.{list_all}
use Rattle.enc_meta.specs.Built.{Built, is_kept, blob_offset}
use Rattle.enc_meta.specs.Heaps.{blob_at, heaps_of}
use Rattle.enc_meta.specs.Root.{root_of}
use Rattle.enc_meta.specs.declared.root.Root.{Root}
use Rattle.enc_plain.specs.DocumentName.{document_name_in}
use Rattle.enc_edit_list.specs.declared.edit.DocumentValue.{DocumentValue}
use Rattle.enc_rules.specs.Rules.{room_of_document}
use Rattle.enc_ppdb.specs.Holding.{name_blob}

-- the name that the blob at an offset says
unfoldable pub kept_name_at : List ℕ → ℕ → Option (List ℕ)
kept_name_at blobs offset = option_and_then (document_name_in blobs) (blob_at blobs offset)

unfoldable pub has_name : List ℕ → ℕ → Bool
has_name blobs offset = is_some (kept_name_at blobs offset)

unfoldable pub name_kept : List ℕ → ℕ → List ℕ
name_kept blobs offset = unwrap_or (kept_name_at blobs offset) []

-- the names at offsets of a root's blobs
unfoldable pub names_kept : List ℕ → Root → List ℕ → List (List ℕ)
names_kept bytes root offsets = map (name_kept (heaps_of bytes root).blobs) offsets

-- the root stands in the bytes, and at each offset a name
pub record KeepsNames (bytes : List ℕ) (root : Root) (offsets : List ℕ) : Type 0 where
  pub reads : root_of bytes ≡ Ok root
  pub names : list_all (has_name (heaps_of bytes root).blobs) offsets ≡ true

abbrev pub name_stated : DocumentValue → List ℕ
name_stated d = d.name

-- heaps keep a name, and at an offset the blob that says it
pub record SaysName (h : Built) (name : List ℕ) (offset : ℕ) : Type 0 where
  pub kept : is_kept h.blobs name ≡ true
  pub blob : is_kept h.blobs (name_blob (blob_offset h name)) ≡ true
  pub here : offset ≡ blob_offset h (name_blob (blob_offset h name))

-- and so all of these
pub record AreSaid (h : Built) (names : List (List ℕ)) (offsets : List ℕ) : Type 0 where
  pub many : length offsets ≡ length names
  pub each : (k offset : ℕ) (name : List ℕ) → slice_get names k ≡ Some name → slice_get offsets k ≡ Some offset
      → SaysName h name offset

-- a PDB has room for these documents
abbrev pub HaveRoom : List DocumentValue → Type 0
HaveRoom documents = 0x10000 + sum_by room_of_document documents ≤ 2 ^ 29
