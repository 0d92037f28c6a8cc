-- Why a Portable PDB is refused, and where (Portable PDB v1.0).
use Rattle.std.specs.Prelude.{ℕ, Bool, true, false, ◌&&◌, ◌||◌, List, length, map, filter, Option, Some, None, is_some, nat_lt, nat_le, ◌==◌, Result, Ok, Err, if◌then◌else◌}
use Rattle.std.specs.List.{list_all}
use Rattle.enc_base.specs.Order.{or_else, first_below}
use Rattle.enc_base.specs.Token.{nth_row, token_of}
use Rattle.enc_base.specs.declared.token.Token.{Token}
use Rattle.enc_base.specs.declared.refusal.Refusal.{Refusal}
use Rattle.enc_base.specs.declared.refusal.Code.TheVariants.{F}
use Rattle.enc_base.specs.declared.refusal.Place.{Place}
use Rattle.enc_base.specs.declared.refusal.Place.TheVariants as place
use Rattle.enc_meta.specs.Heaps.{blob_at, guid_at}
use Rattle.enc_rows.specs.Layout.{rows_of}
use Rattle.enc_rows.specs.Source.{Source, raw_in}
use Rattle.enc_rows.specs.Sums.{below}
use Rattle.enc_base.specs.Tables as tables
use Rattle.enc_schema.specs.Columns as columns
use Rattle.enc_seqpoints.specs.declared.point.Point.{Point}
use Rattle.enc_seqpoints.specs.Grammar.{MethodPoints}
use Rattle.enc_ppdb.specs.Pdb.{pdb_source_of, name_of_document, points_of}

-- a document has a name, and its algorithm, its hash and its language stand in their heaps (Document Table)
unfoldable pub is_document : Source → Token → Bool
is_document s row =
    is_some (name_of_document s row) && (is_some (guid_at s.heaps.guids (raw_in s row columns.document_hash_algorithm))
    && (is_some (blob_at s.heaps.blobs (raw_in s row columns.document_hash))
    && is_some (guid_at s.heaps.guids (raw_in s row columns.document_language))))

-- the document of a point, and that of each, is one of so many rows
abbrev pub is_there : ℕ → Point → Bool
is_there count p = nat_lt 0 p.document && nat_le p.document count

unfoldable pub are_there : ℕ → List Point → Bool
are_there count points = list_all (is_there count) points

abbrev pub all_there : ℕ → Option MethodPoints → Bool
all_there count None = false
all_there count (Some m) = are_there count m.points

-- a method's blob is one of points, whose documents are rows (MethodDebugInformation Table)
unfoldable pub is_method : Source → Token → Bool
is_method s row = all_there (rows_of s.layout tables.document) (points_of s row)

-- the n-th row of a table, n from 0, where it isn't good
abbrev pub unless_good : Bool → Token → Option Place
unless_good true row = None
unless_good false row = Some (place.Row row)

unfoldable pub document_fault : Source → ℕ → Option Place
document_fault s n = unless_good (is_document s (nth_row tables.document n)) (nth_row tables.document n)

unfoldable pub method_fault : Source → ℕ → Option Place
method_fault s n = unless_good (is_method s (nth_row tables.method_debug_information n))
    (nth_row tables.method_debug_information n)

-- the first row of Document that isn't good, and else the first of MethodDebugInformation
unfoldable pub documents_fault : Source → Option Place
documents_fault s = first_below (document_fault s) (rows_of s.layout tables.document)

unfoldable pub methods_fault : Source → Option Place
methods_fault s = first_below (method_fault s) (rows_of s.layout tables.method_debug_information)

abbrev pub first_row_fault : Source → Option Place
first_row_fault s = or_else (documents_fault s) (methods_fault s)

-- a refusal at a place
abbrev pub refused_at : Place → Refusal
refused_at p = record { code = F 12; place = p }

abbrev pub unless_fault : Source → Option Place → Result Source Refusal
unless_fault s None = Ok s
unless_fault s (Some p) = Err (refused_at p)

-- the parts, where as many rows as are wanted and each row are good
abbrev pub judged_pdb : (Source → Bool) → Option Source → Result Source Refusal
judged_pdb fits None = Err (refused_at place.Pdb)
judged_pdb fits (Some s) = if fits s then unless_fault s (first_row_fault s) else Err (refused_at place.Pdb)

-- MethodDebugInformation has no row, or one for each method
unfoldable pub fits_methods : ℕ → Source → Bool
fits_methods methods s = rows_of s.layout tables.method_debug_information == 0
    || rows_of s.layout tables.method_debug_information == methods

-- the PDB of a module with so many methods, or F12: at the file where its root, its #Pdb or its table stream isn't
-- good or MethodDebugInformation has
-- rows of another number, else at the first row that isn't good
unfoldable pub pdb_of : List ℕ → ℕ → Result Source Refusal
pdb_of bytes methods = judged_pdb (fits_methods methods) (pdb_source_of bytes)

-- a token of EncMap, from 0
unfoldable pub map_token_at : Source → ℕ → Token
map_token_at s n = token_of (raw_in s (nth_row tables.enc_map n) columns.enc_map_token)

-- the tokens of MethodDebugInformation in EncMap, in order: the k-th names the method of the k-th row
unfoldable pub named_tokens : Source → List Token
named_tokens s =
    filter (λ (t : Token). t.table == tables.method_debug_information)
    (map (map_token_at s) (below (rows_of s.layout tables.enc_map)))

-- a delta's EncMap names as many of its rows as there are
unfoldable pub fits_map : Source → Bool
fits_map s = length (named_tokens s) == rows_of s.layout tables.method_debug_information

-- the PDB of a delta, or F12 as above
unfoldable pub pdb_delta_of : List ℕ → Result Source Refusal
pdb_delta_of bytes = judged_pdb fits_map (pdb_source_of bytes)
