-- A Portable PDB that is written: its documents, each once, and for each method its points (Portable PDB v1.0).
use Rattle.std.specs.Prelude.{◌≡◌, ℕ, zero, suc, ◌+◌, ◌*◌, ◌^◌, ◌<◌, ◌≤◌, ◌==◌, Bool, true, false, ◌&&◌, List, [], ◌∷◌, ◌++◌, length, map, replicate, sum_by, position, bytes_eq, Option, Some, None, option_map, unwrap_or, Result, Ok, Err, nat_lt, if◌then◌else◌, slice_get, slice_index}
use Rattle.std.specs.List.{list_any}
use Rattle.std.specs.Int.{w32, to_le_bytes}
use Rattle.enc_base.specs.Token.{nth_row}
use Rattle.enc_base.specs.declared.refusal.StreamName.TheVariants as stream
use Rattle.enc_base.specs.declared.token.Token.{Token}
use Rattle.enc_meta.specs.Built.{Built, heaps_built}
use Rattle.enc_meta.specs.Heaps.{Counted, blob_at, guid_at}
use Rattle.enc_meta.specs.declared.builder.BuildFault.{BuildFault}
use Rattle.enc_meta.specs.declared.builder.BuildFault.TheVariants.{Memory, TooLarge}
use Rattle.enc_meta.specs.declared.heaps.HeapLengths.{HeapLengths}
use Rattle.enc_plain.specs.Debug.{Document, PlainPoint, MethodDebug, PlainPdb}
use Rattle.enc_plain.specs.DocumentName.{document_name_in}
use Rattle.enc_plain.specs.SoundDebug.{numbered}
use Rattle.enc_rows.specs.Source.{Source, raw_in}
use Rattle.enc_rows.specs.Sums.{sum_below}
use Rattle.enc_rows.specs.Written.{rows_at, count_at}
use Rattle.enc_schema.specs.Columns as columns
use Rattle.enc_base.specs.Tables as tables
use Rattle.enc_seqpoints.specs.declared.point.Point.{Point}
use Rattle.enc_seqpoints.specs.Grammar.{method_points, points_in}
use Rattle.enc_ppdb.specs.Fault.{pdb_of}
use Rattle.enc_ppdb.specs.Pdb.{entry_told}
use Rattle.enc_ppdb.specs.PdbChain.{pdb_begun}

-- two documents have one value
unfoldable pub is_same : Document → Document → Bool
is_same a b = bytes_eq a.name b.name
    && (bytes_eq a.algorithm b.algorithm && (bytes_eq a.hash b.hash && bytes_eq a.language b.language))

-- the documents with one more, where it isn't among them
unfoldable pub with_document : List Document → Document → List Document
with_document documents d = if list_any (is_same d) documents then documents else documents ++ d ∷ []

abbrev pub with_some : List Document → Option Document → List Document
with_some documents None = documents
with_some documents (Some d) = with_document documents d

-- the same with those of points, in their order
unfoldable pub with_points : List Document → List PlainPoint → List Document
with_points documents [] = documents
with_points documents (p ∷ points) = with_points (with_some documents p.document) points

-- the n-th method of a plain PDB, n from 0
abbrev pub nth_method : PlainPdb → ℕ → MethodDebug
nth_method p n = p (nth_row tables.method_def n)

-- the documents of the first so many methods, each once, in the order of first use
unfoldable pub documents_of : PlainPdb → ℕ → List Document
documents_of p zero = []
documents_of p (suc n) = with_points (documents_of p n) (nth_method p n).points

-- the row of a document among these, from 1; 0 for none
unfoldable pub row_among : List Document → Option Document → ℕ
row_among documents None = 0
row_among documents (Some d) = unwrap_or (option_map suc (position (is_same d) documents)) 0

-- points, with the rows of their documents
unfoldable pub points_numbered : List Document → List PlainPoint → List Point
points_numbered documents points = map (λ (p : PlainPoint). numbered (row_among documents p.document) p) points

-- the weight of a document: 96, its name and its hash
abbrev pub document_weight : Document → ℕ
document_weight d = 96 + length d.name + length d.hash

-- the weight of a method: 64, and 32 for each point
abbrev pub method_weight : MethodDebug → ℕ
method_weight d = 64 + 32 * length d.points

-- the weight of a plain PDB with so many methods, a sum that what is written of it doesn't pass
unfoldable pub pdb_weight : PlainPdb → ℕ → ℕ
pdb_weight p methods = 65536 + sum_below (λ n. method_weight (nth_method p n)) methods + sum_by document_weight
    (documents_of p methods)

-- the greatest weight that is written
abbrev pub most_pdb_weight : ℕ
most_pdb_weight = 2 ^ 29

-- a PDB isn't written exactly where the weight passes its limit; want of memory tells nothing
abbrev pub IsPdbFault : BuildFault → ℕ → Type 0
IsPdbFault Memory weight = Unit {0}
IsPdbFault (TooLarge stream.Pdb) weight = nat_lt most_pdb_weight weight ≡ true
IsPdbFault (TooLarge _) weight = ⊥

abbrev pub TellsPdb : {A : Type 0} → Result A BuildFault → ℕ → Type 0
TellsPdb (Ok _) weight = nat_lt most_pdb_weight weight ≡ false
TellsPdb (Err fault) weight = IsPdbFault fault weight

-- heaps that stand behind no others
abbrev pub pdb_starts : HeapLengths
pdb_starts = record { strings = 0; users = 0; blobs = 0; guids = 0 }

-- a row of Document says a document: its name, its hash algorithm, its hash and its language (Document Table)
pub record DocumentSays (h : Counted) (d : Document) (cells : List ℕ) : Type 0 where
  pub count : length cells ≡ 4
  pub name : (blob : List ℕ) × (blob_at h.blobs (slice_index cells 0) ≡ Some blob)
      × (document_name_in h.blobs blob ≡ Some d.name)
  pub algorithm : guid_at h.guids (slice_index cells 1) ≡ Some d.algorithm
  pub hash : blob_at h.blobs (slice_index cells 2) ≡ Some d.hash
  pub language : guid_at h.guids (slice_index cells 3) ≡ Some d.language

-- where two of the points have different documents, the row of their method names none (MethodDebugInformation Table)
abbrev pub IsNilOverSeveral : List PlainPoint → ℕ → Type 0
IsNilOverSeveral points document =
    (i j : ℕ) (p q : PlainPoint) → slice_get points i ≡ Some p → slice_get points j ≡ Some q
    → (p.document ≡ q.document → ⊥) → document ≡ 0

-- a row of MethodDebugInformation says a method's local signature row and its points, by documents of these rows
pub record MethodSays (h : Counted) (documents : List Document) (d : MethodDebug) (cells : List ℕ) : Type 0 where
  pub count : length cells ≡ 2
  pub points : (blob : List ℕ) × (blob_at h.blobs (slice_index cells 1) ≡ Some blob)
      × (points_in (slice_index cells 0) blob ≡ Some (method_points d.locals (points_numbered documents d.points)))
  pub several : IsNilOverSeveral d.points (slice_index cells 0)

-- the rows say the documents and the methods, and there are no others
pub record HoldPdb (p : PlainPdb) (count : ℕ) (h : Built) (rows : List (List (List ℕ))) : Type 0 where
  pub starts : h.starts ≡ pdb_starts
  pub documents : count_at rows tables.document ≡ length (documents_of p count)
  pub document : (n : ℕ) (d : Document) (cells : List ℕ) → slice_get (documents_of p count) n ≡ Some d
      → slice_get (rows_at rows tables.document) n ≡ Some cells → DocumentSays (heaps_built h) d cells
  pub methods : count_at rows tables.method_debug_information ≡ count
  pub method : (n : ℕ) (cells : List ℕ) → slice_get (rows_at rows tables.method_debug_information) n ≡ Some cells
      → MethodSays (heaps_built h) (documents_of p count) (nth_method p n) cells
  pub others : (table : ℕ) → (table == tables.document) ≡ false → (table == tables.method_debug_information) ≡ false
      → count_at rows table ≡ 0

-- the stream `#Pdb`: an id of zeros, the entry point, and no table of a module that is referred to (#Pdb Stream)
unfoldable pub pdb_stream : ℕ → List ℕ
pdb_stream entry = replicate 20 0 ++ to_le_bytes w32 entry ++ replicate 8 0

-- the Document of the n-th row of MethodDebugInformation, n from 0
abbrev pub document_told : Source → ℕ → ℕ
document_told s n = raw_in s (nth_row tables.method_debug_information n) columns.method_debug_information_document

-- the bytes are those of a PDB of so many methods that isn't refused, and what is known by it is the plain PDB; a
-- method whose points have several documents
-- has Document nil
pub record MeansPdb (p : PlainPdb) (methods : ℕ) (bytes : List ℕ) : Type 0 where
  pub source : Source
  pub read : pdb_of bytes methods ≡ Ok source
  pub means : (method : Token) → pdb_begun (Some source) method ≡ p method
  pub several : (n : ℕ) → n < methods → IsNilOverSeveral (nth_method p n).points (document_told source n)

-- what is written of a plain PDB: it means it, tells this entry point, and is no longer than its weight
pub record WritesPdb (p : PlainPdb) (methods entry : ℕ) (bytes : List ℕ) : Type 0 where
  pub means : MeansPdb p methods bytes
  pub entry_is : entry_told bytes ≡ Some entry
  pub light : length bytes ≤ pdb_weight p methods
