-- What the bytes of a Portable PDB say: its counts of another module's rows, its documents, and the points of its
-- methods (Portable PDB v1.0).
use Rattle.std.specs.Prelude.{ℕ, ◌+◌, ◌*◌, true, List, [], map, length, replicate, Option, Some, None, option_map, option_and_then, unwrap_or, nat_le, if◌then◌else◌}
use Rattle.std.specs.Int.{w32, w64}
use Rattle.enc_base.specs.Numbers.{little_endian_at}
use Rattle.enc_base.specs.declared.token.Token.{Token}
use Rattle.enc_meta.specs.declared.root.Root.{Root}
use Rattle.enc_meta.specs.declared.span.Span.{Span}
use Rattle.enc_meta.specs.Root.{root_of}
use Rattle.enc_meta.specs.Heaps.{part, heaps_of, blob_at}
use Rattle.enc_rows.specs.Sums.{below}
use Rattle.enc_rows.specs.Layout.{Layout, has_table, tables_below, stream_tables}
use Rattle.enc_rows.specs.Source.{Source, raw_in}
use Rattle.enc_rows.specs.declared.form.Form.TheVariants as form
use Rattle.enc_schema.specs.Columns as columns
use Rattle.enc_plain.specs.DocumentName.{document_name_in}
use Rattle.enc_seqpoints.specs.Grammar.{MethodPoints, points_in}
use Rattle.std.specs.Result.{result_ok}

-- the number of rows of another module's table: behind an id of 20 bytes, an entry point of four and the bits of the
-- tables of eight stands a number of
-- four bytes for each bit (#Pdb Stream)
unfoldable pub outer_count : List ℕ → ℕ → ℕ → ℕ
outer_count stream bits table =
    if has_table bits table then unwrap_or (little_endian_at w32 stream (32 + 4 * tables_below bits table)) 0 else 0

-- the numbers of rows of the other module's tables, where all stand in the stream
unfoldable pub outer_in : List ℕ → ℕ → Option (List ℕ)
outer_in stream bits = if nat_le (32 + 4 * tables_below bits 64) (length stream)
    then Some (map (outer_count stream bits) (below 64)) else None

-- the same of a stream #Pdb, of which a file without one has none
unfoldable pub outer_of : List ℕ → Option Span → Option (List ℕ)
outer_of bytes None = Some (replicate 64 0)
outer_of bytes (Some span) = option_and_then (outer_in (part bytes span)) (little_endian_at w64 (part bytes span) 24)

-- the entry point that `#Pdb` tells: a number of four bytes behind its id of twenty (#Pdb Stream)
abbrev pub entry_named_in : List ℕ → Option Span → Option ℕ
entry_named_in bytes None = None
entry_named_in bytes (Some span) = little_endian_at w32 (part bytes span) 20

unfoldable pub entry_told : List ℕ → Option ℕ
entry_told bytes = option_and_then (λ (root : Root). entry_named_in bytes root.pdb) (result_ok (root_of bytes))

-- the parts of a PDB with this root and this layout: it loads nothing
abbrev pub pdb_source : List ℕ → Root → Layout → Source
pdb_source bytes root l = record {
  stream = part bytes root.tables;
  layout = l;
  heaps = heaps_of bytes root;
  loaded = [];
  resources = [];
  entry = 0;
  bare = true;
}

-- the layout of a PDB's table stream, whose widths go by the other module's rows too
unfoldable pub pdb_layout : List ℕ → Root → Option Layout
pdb_layout bytes root = option_and_then
    (λ (outer : List ℕ). result_ok (stream_tables bytes root.tables form.Pdb root.jtd outer)) (outer_of bytes root.pdb)

-- the parts of a PDB, where its root, its #Pdb and its table stream are good
unfoldable pub pdb_source_of : List ℕ → Option Source
pdb_source_of bytes = option_and_then (λ (root : Root). option_map (pdb_source bytes root) (pdb_layout bytes root))
    (result_ok (root_of bytes))

-- the name of the document in a row
unfoldable pub name_of_document : Source → Token → Option (List ℕ)
name_of_document s row = option_and_then (document_name_in s.heaps.blobs)
    (blob_at s.heaps.blobs (raw_in s row columns.document_name))

-- the local signature row and the points of the method in a row of MethodDebugInformation
unfoldable pub points_of : Source → Token → Option MethodPoints
points_of s row =
    option_and_then (points_in (raw_in s row columns.method_debug_information_document))
    (blob_at s.heaps.blobs (raw_in s row columns.method_debug_information_sequence_points))
