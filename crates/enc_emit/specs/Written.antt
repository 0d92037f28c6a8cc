-- Metadata roots that are written: the header, the streams' headers, and the streams (ECMA-335 II.24.2.1, II.24.2.2).
use Rattle.std.specs.Prelude.{◌≡◌, ℕ, ◌+◌, ◌-◌, ◌<◌, ◌^◌, Bool, true, false, ◌||◌, nat_lt, if◌then◌else◌}
use Rattle.std.specs.Prelude.{List, [], ◌∷◌, ◌++◌, length, replicate, Some, Ok, codes}
use Rattle.std.specs.List.{list_any}
use Rattle.std.specs.Int.{w16, w32, to_le_bytes}
use Rattle.enc_base.specs.Numbers.{padded}
use Rattle.enc_meta.specs.Root.{root_of}
use Rattle.enc_meta.specs.Heaps.{Counted, counted_strings, heaps_of, part}
use Rattle.enc_meta.specs.Built.{Built, heaps_built}
use Rattle.enc_meta.specs.declared.root.Root.{Root}
use Rattle.enc_meta.specs.declared.span.Span.{Span}
use Rattle.enc_base.specs.Tables.{field_ptr, method_ptr, param_ptr, event_ptr, property_ptr}
use Rattle.enc_rows.specs.Written.{count_at, stream_of, heap_bits}
use Rattle.enc_emit.specs.declared.root_form.RootForm.{RootForm}
use Rattle.enc_emit.specs.declared.root_form.RootForm.TheVariants.{Module, WideModule, Delta}

-- what a root is built from: its heaps, and the rows of its tables
pub record Parts : Type 0 where
  pub heaps : Built
  pub rows : List (List (List ℕ))

-- bytes with zeros up to a multiple of four
abbrev pub in_fours : List ℕ → List ℕ
in_fours bytes = bytes ++ replicate (padded (length bytes) - length bytes) 0

-- a stream's header: where it begins in the root, its size, and its name with zeros up to a multiple of four, at
-- least one (II.24.2.2)
unfoldable pub stream_header_written : List ℕ → ℕ → ℕ → List ℕ
stream_header_written name start size =
    to_le_bytes w32 start ++ to_le_bytes w32 size ++ name ++ replicate (padded (length name + 1) - length name) 0

-- the version's text, in twelve bytes
abbrev pub version : List ℕ
version = codes "v4.0.30319" ++ replicate 2 0

-- the root's header up to the streams' headers: the magic, version 1.1, the version's length and text, and so many
-- streams (II.24.2.1)
unfoldable pub front_written : ℕ → List ℕ
front_written count = codes "BSJB" ++ to_le_bytes w16 1 ++ to_le_bytes w16 1 ++ to_le_bytes w32 0 ++ to_le_bytes w32 12
    ++ version ++ to_le_bytes w16 0
    ++ to_le_bytes w16 count

-- a stream beside the five that every root has: its name and its bytes
pub record Further : Type 0 where
  pub name : List ℕ
  pub bytes : List ℕ

-- `#JTD`, which has no bytes, where it is there
abbrev pub jtd_streams : Bool → List Further
jtd_streams jtd = if jtd then record { name = codes "#JTD"; bytes = [] } ∷ [] else []

-- `#Pdb` with these bytes (Portable PDB v1.0, #Pdb Stream)
abbrev pub pdb_streams : List ℕ → List Further
pdb_streams pdb = record { name = codes "#Pdb"; bytes = pdb } ∷ []

-- where the streams begin: behind the header's 32 bytes, the 76 of the headers of the five, and those of the further
-- ones
abbrev pub streams_begin : List Further → ℕ
streams_begin [] = 108
streams_begin (f ∷ more) = streams_begin more + (8 + padded (length f.name + 1))

-- where each of the five begins, one behind the other in fours, from a place on
abbrev pub strings_begin : ℕ → List ℕ → ℕ
strings_begin start stream = start + padded (length stream)

abbrev pub users_begin : ℕ → List ℕ → Counted → ℕ
users_begin start stream h = strings_begin start stream + padded (length h.strings)

abbrev pub guids_begin : ℕ → List ℕ → Counted → ℕ
guids_begin start stream h = users_begin start stream h + padded (length h.users)

abbrev pub blobs_begin : ℕ → List ℕ → Counted → ℕ
blobs_begin start stream h = guids_begin start stream h + padded (length h.guids)

-- where the last of them ends
abbrev pub five_end : ℕ → List ℕ → Counted → ℕ
five_end start stream h = blobs_begin start stream h + padded (length h.blobs)

-- where the last of the further ones ends
abbrev pub further_end : ℕ → List Further → ℕ
further_end start [] = start
further_end start (f ∷ more) = further_end (start + padded (length f.bytes)) more

-- the name of the table stream: `#-` where the tables aren't in their plain form
abbrev pub table_name : Bool → List ℕ
table_name uncompressed = if uncompressed then codes "#-" else codes "#~"

-- the headers of the five, which stand from a place on
unfoldable pub five_headers_written : ℕ → Bool → List ℕ → Counted → List ℕ
five_headers_written start uncompressed stream h =
    stream_header_written (table_name uncompressed) start (length stream)
    ++ stream_header_written (codes "#Strings") (strings_begin start stream) (length h.strings)
    ++ stream_header_written (codes "#US") (users_begin start stream h) (length h.users)
    ++ stream_header_written (codes "#GUID") (guids_begin start stream h) (length h.guids)
    ++ stream_header_written (codes "#Blob") (blobs_begin start stream h) (length h.blobs)

-- those of the further ones
abbrev pub further_headers_written : ℕ → List Further → List ℕ
further_headers_written start [] = []
further_headers_written start (f ∷ more) =
    stream_header_written f.name start (length f.bytes) ++ further_headers_written
    (start + padded (length f.bytes)) more

-- the bytes of the five, and of the further ones
unfoldable pub five_written : List ℕ → Counted → List ℕ
five_written stream h = in_fours stream ++ in_fours h.strings ++ in_fours h.users ++ in_fours h.guids
    ++ in_fours h.blobs

abbrev pub further_written : List Further → List ℕ
further_written [] = []
further_written (f ∷ more) = in_fours f.bytes ++ further_written more

-- a root with the five and further streams behind them
unfoldable pub root_with_further : List Further → Bool → List ℕ → Counted → List ℕ
root_with_further more uncompressed stream h =
    front_written (5 + length more)
    ++ five_headers_written (streams_begin more) uncompressed stream h
    ++ further_headers_written (five_end (streams_begin more) stream h) more
    ++ five_written stream h
    ++ further_written more

-- how long it is
abbrev pub size_with_further : List Further → List ℕ → Counted → ℕ
size_with_further more stream h = further_end (five_end (streams_begin more) stream h) more

-- a root with `#JTD` or without
unfoldable pub root_written : Bool → Bool → List ℕ → Counted → List ℕ
root_written jtd uncompressed stream h = root_with_further (jtd_streams jtd) uncompressed stream h

abbrev pub root_size : Bool → List ℕ → Counted → ℕ
root_size jtd stream h = size_with_further (jtd_streams jtd) stream h

-- the root of a PDB: the bytes of `#Pdb`, whether the table stream is `#-`, the table stream, and the heaps
unfoldable pub pdb_root_written : List ℕ → Bool → List ℕ → Counted → List ℕ
pdb_root_written pdb uncompressed stream h = root_with_further (pdb_streams pdb) uncompressed stream h

abbrev pub pdb_root_size : List ℕ → List ℕ → Counted → ℕ
pdb_root_size pdb stream h = size_with_further (pdb_streams pdb) stream h

-- a Ptr table has rows
unfoldable pub has_ptr_rows : List (List (List ℕ)) → Bool
has_ptr_rows rows = list_any (λ table. nat_lt 0 (count_at rows table))
    (field_ptr ∷ method_ptr ∷ param_ptr ∷ event_ptr ∷ property_ptr ∷ [])

-- all indices take four bytes, as a stream `#JTD` says
abbrev pub has_jtd : RootForm → Bool
has_jtd Module = false
has_jtd WideModule = true
has_jtd Delta = true

-- the root is that of a delta
abbrev pub is_delta : RootForm → Bool
is_delta Delta = true
is_delta _ = false

-- the root of a form; the tables of a delta, and those with Ptr rows, are in the uncompressed form
unfoldable pub root_built : Parts → RootForm → List ℕ
root_built p form =
    root_written (has_jtd form) (is_delta form || has_ptr_rows p.rows)
    (stream_of p.rows (has_jtd form) (heap_bits p.rows)) (heaps_built p.heaps)

-- how long it is, by whether its indices are wide
abbrev pub built_size : Parts → Bool → ℕ
built_size p wide = root_size wide (stream_of p.rows wide (heap_bits p.rows)) (heaps_built p.heaps)

-- the root with `#Pdb`: narrow indices, and the uncompressed form only where there are Ptr rows, as no PDB has
unfoldable pub pdb_root_built : Parts → List ℕ → List ℕ
pdb_root_built p pdb = pdb_root_written pdb (has_ptr_rows p.rows) (stream_of p.rows false (heap_bits p.rows))
    (heaps_built p.heaps)

abbrev pub pdb_built_size : Parts → List ℕ → ℕ
pdb_built_size p pdb = pdb_root_size pdb (stream_of p.rows false (heap_bits p.rows)) (heaps_built p.heaps)

-- a root with these streams
pub record HoldsStreams (bytes : List ℕ) (jtd uncompressed : Bool) (stream : List ℕ) (h : Counted)
    (root : Root) : Type 0 where
  pub tables : part bytes root.tables ≡ stream
  pub form : root.uncompressed ≡ uncompressed
  pub wide : root.jtd ≡ jtd
  pub heaps : heaps_of bytes root ≡ h

-- a root that was written is read back, where every byte of its texts counts
abbrev pub RootIsRead : Type 0
RootIsRead = (jtd uncompressed : Bool) (stream : List ℕ) (h : Counted) → root_size jtd stream h < 2 ^ 32
    → counted_strings h.strings ≡ h.strings
    → (root : Root) × (root_of (root_written jtd uncompressed stream h) ≡ Ok root)
    × HoldsStreams (root_written jtd uncompressed stream h) jtd uncompressed stream h root

-- the heaps by the bytes that count
abbrev pub that_count : Counted → Counted
that_count h = record { strings = counted_strings h.strings; users = h.users; blobs = h.blobs; guids = h.guids }

-- a root that was written is read back, its texts by the bytes that count
abbrev pub CountedRootIsRead : Type 0
CountedRootIsRead = (jtd uncompressed : Bool) (stream : List ℕ) (h : Counted) → root_size jtd stream h < 2 ^ 32
    → (root : Root) × (root_of (root_written jtd uncompressed stream h) ≡ Ok root)
    × HoldsStreams (root_written jtd uncompressed stream h) jtd uncompressed stream (that_count h) root

-- the bytes of `#Pdb` stand in the root
abbrev pub HoldsPdb : List ℕ → List ℕ → Root → Type 0
HoldsPdb bytes pdb root = (span : Span) × (root.pdb ≡ Some span) × (part bytes span ≡ pdb)

-- a root with `#Pdb` that was written is read back, with these very bytes
abbrev pub PdbRootIsRead : Type 0
PdbRootIsRead = (pdb : List ℕ) (uncompressed : Bool) (stream : List ℕ) (h : Counted)
    → pdb_root_size pdb stream h < 2 ^ 32
    → counted_strings h.strings ≡ h.strings
    → (root : Root) × (root_of (pdb_root_written pdb uncompressed stream h) ≡ Ok root)
    × HoldsStreams (pdb_root_written pdb uncompressed stream h) false uncompressed stream h root
    × HoldsPdb (pdb_root_written pdb uncompressed stream h) pdb root
