-- For the contracts of private functions: what is written of a plain PDB so far: its documents and its first
-- methods, and what is known of its documents.
use Rattle.std.specs.Prelude.{◌≡◌, ℕ, suc, ◌+◌, ◌*◌, ◌≤◌, ◌==◌, Bool, true, false, not, ◌&&◌, List, [], ◌∷◌, ◌++◌, length, map, take, sum_by, position, bytes_eq, Option, Some, None, option_map, is_some, Result, Ok, Err, nat_lt, if◌then◌else◌, slice_get}
use Rattle.std.specs.List.{list_all, list_any}
use Rattle.std.specs.BTreeMap.{get, Updates}
use Rattle.std.specs.Cmp.Lexicographic.{slice_cmp}
use Rattle.std.specs.Ordering.{nat_cmp}
use Rattle.enc_base.specs.Numbers.{spelled}
use Rattle.enc_base.specs.declared.refusal.StreamName.TheVariants as stream
use Rattle.enc_meta.specs.Built.{Built, is_kept, is_guid_kept, blob_offset, guid_number, blob_bytes, joined_end}
use Rattle.enc_meta.specs.declared.builder.BuildFault.{BuildFault}
use Rattle.enc_meta.specs.declared.builder.BuildFault.TheVariants.{Memory, TooLarge}
use Rattle.enc_plain.specs.Debug.{Document, PlainPoint, MethodDebug, PlainPdb}
use Rattle.enc_rows.specs.Sums.{sum_below}
use Rattle.enc_rows.specs.Written.{rows_at, count_at}
use Rattle.enc_base.specs.Tables as tables
use Rattle.enc_seqpoints.specs.declared.point.Point.{Point}
use Rattle.enc_seqpoints.specs.Grammar.{method_points, points_in}
use Rattle.enc_ppdb.specs.Method.{one_document}
use Rattle.enc_ppdb.specs.declared.writer.Writer.{Writer}
use Rattle.enc_ppdb.specs.Written.{is_same, with_points, nth_method, documents_of, row_among, points_numbered, document_weight, method_weight, most_pdb_weight, pdb_starts, IsNilOverSeveral}

-- the numbers of a document's values in heaps: its name's bytes, its algorithm, its hash and its language
unfoldable pub document_key : Built → Document → List ℕ
document_key h d = blob_offset h d.name ∷ guid_number h d.algorithm ∷ blob_offset h d.hash ∷ guid_number h d.language
    ∷ []

-- heaps keep these values
unfoldable pub keeps_values : Built → Document → Bool
keeps_values h d = is_kept h.blobs d.name
    && (is_guid_kept h.guids d.algorithm && (is_kept h.blobs d.hash && is_guid_kept h.guids d.language))

-- the blob of a name whose bytes stand at an offset: no separator, and one part (Document Name Blob)
unfoldable pub name_blob : ℕ → List ℕ
name_blob offset = 0 ∷ spelled offset

-- a document's row in heaps that keep its values
unfoldable pub document_cells : Built → Document → List ℕ
document_cells h d =
    blob_offset h (name_blob (blob_offset h d.name)) ∷ guid_number h d.algorithm ∷ blob_offset h d.hash
    ∷ guid_number h d.language ∷ []

-- heaps keep these values and the blob of the name
unfoldable pub keeps_document : Built → Document → Bool
keeps_document h d = keeps_values h d && is_kept h.blobs (name_blob (blob_offset h d.name))

-- the bytes of blobs and GUIDs
unfoldable pub heaps_size : Built → ℕ
heaps_size h = joined_end blob_bytes h.starts.blobs h.blobs + 16 * (h.starts.guids + length h.guids)

-- later heaps: what was kept is kept, with its number, and texts and user texts are the same
pub record Grown (h k : Built) : Type 0 where
  pub starts : k.starts ≡ h.starts
  pub texts : k.texts ≡ h.texts
  pub users : k.users ≡ h.users
  pub blobs : (v : List ℕ) → is_kept h.blobs v ≡ true → (is_kept k.blobs v ≡ true) × (blob_offset k v ≡ blob_offset h v)
  pub guids : (g : List ℕ) → is_guid_kept h.guids g ≡ true
      → (is_guid_kept k.guids g ≡ true) × (guid_number k g ≡ guid_number h g)

-- what is refused passes a limit; want of memory tells nothing
abbrev pub RefusesPdb : {A : Type 0} → Result A BuildFault → Bool → Type 0
RefusesPdb (Ok _) passes = Unit {0}
RefusesPdb (Err (TooLarge stream.Pdb)) passes = passes ≡ true
RefusesPdb (Err Memory) passes = Unit {0}
RefusesPdb (Err _) passes = ⊥

-- a value that isn't kept, and so many bytes more pass the limit
unfoldable pub passes_with : Built → Bool → ℕ → Bool
passes_with h kept more = not kept && nat_lt most_pdb_weight (heaps_size h + more)

-- the row that is known by a document's numbers
unfoldable pub row_known : Writer → List ℕ → Option ℕ
row_known w key = get (slice_cmp nat_cmp) w.by_value key

-- no row is known of the document
unfoldable pub is_unknown : Writer → Document → Bool
is_unknown w d = not (keeps_values w.heaps d && is_some (row_known w (document_key w.heaps d)))

-- the rows of all tables are as before, with one more of Document
abbrev pub OneDocument : List (List (List ℕ)) → List (List (List ℕ)) → List ℕ → Type 0
OneDocument old new cells = (k : ℕ)
    → rows_at new k ≡ (if k == tables.document then rows_at old k ++ cells ∷ [] else rows_at old k)

-- a document gets a row of its own
pub record RowAdded (d : Document) (old new : Writer) (row : ℕ) : Type 0 where
  pub rows : OneDocument old.tables new.tables (document_cells new.heaps d)
  pub kept : keeps_document new.heaps d ≡ true
  pub known : Updates (slice_cmp nat_cmp) old.by_value new.by_value (document_key new.heaps d) (Some row)
  pub number : row ≡ count_at new.tables tables.document
  pub weight : new.weight ≡ old.weight + document_weight d
  pub size : heaps_size new.heaps + 16 ≤ heaps_size old.heaps + document_weight d

-- or has one already
pub record RowFound (d : Document) (old new : Writer) : Type 0 where
  pub rows : new.tables ≡ old.tables
  pub known : new.by_value ≡ old.by_value
  pub weight : new.weight ≡ old.weight
  pub heaps : keeps_values old.heaps d ≡ true → new.heaps ≡ old.heaps

abbrev pub RowBy : Option ℕ → Document → Writer → Writer → ℕ → Type 0
RowBy None d old new row = RowAdded d old new row
RowBy (Some known) d old new row = RowFound d old new × (row ≡ known)

pub record RowGiven (d : Document) (old new : Writer) (row : ℕ) : Type 0 where
  pub grown : Grown old.heaps new.heaps
  pub kept : keeps_values new.heaps d ≡ true
  pub by : RowBy (row_known old (document_key new.heaps d)) d old new row
  pub places : new.places ≡ old.places

-- the documents of the first n methods, and of the first i points of the next
unfoldable pub documents_upto : PlainPdb → ℕ → ℕ → List Document
documents_upto p n i = with_points (documents_of p n) (take i (nth_method p n).points)

-- the weight of so many methods and these documents
unfoldable pub pdb_weight_of : PlainPdb → ℕ → List Document → ℕ
pdb_weight_of p n documents = 65536 + sum_below
    (λ k. method_weight (nth_method p k)) n + sum_by document_weight documents

-- a point's document is one of these
abbrev pub has_among : List Document → Option Document → Bool
has_among documents None = false
has_among documents (Some d) = list_any (is_same d) documents

unfoldable pub have_rows : List Document → List PlainPoint → Bool
have_rows documents points = list_all (λ (p : PlainPoint). has_among documents p.document) points

-- the row of a method: its document, and the blob of its points
pub record MethodHeld (h : Built) (documents : List Document) (d : MethodDebug) (numbers : List ℕ) : Type 0 where
  pub blob : List ℕ
  pub first : ℕ
  pub cells : numbers ≡ first ∷ blob_offset h blob ∷ []
  pub kept : is_kept h.blobs blob ≡ true
  pub reads : points_in first blob ≡ Some (method_points d.locals (points_numbered documents d.points))
  pub low : first ≤ length documents
  pub several : IsNilOverSeveral d.points first
  pub among : have_rows documents d.points ≡ true

-- what is written of the first n methods, whose points have these documents, and what is known of documents: with
-- its rows, a root and room for so many
-- bytes more it is within the weight
pub record IsPdbHeld (p : PlainPdb) (n room : ℕ) (placed : ℕ → Option Document) (documents : List Document)
    (w : Writer) : Type 0 where
  pub starts : w.heaps.starts ≡ pdb_starts
  pub texts : w.heaps.texts ≡ []
  pub users : w.heaps.users ≡ []
  pub size : heaps_size w.heaps + 16 * length documents + 8 * n + room + 65002 ≤ w.weight
  pub rows : rows_at w.tables tables.document ≡ map (document_cells w.heaps) documents
  pub kept : list_all (keeps_document w.heaps) documents ≡ true
  pub by_value : (key : List ℕ) →
      row_known w key ≡ option_map suc (position (bytes_eq key) (map (document_key w.heaps) documents))
  pub places : (place row : ℕ) → get nat_cmp w.places place ≡ Some row
      → (row_among documents (placed place) ≡ row) × (has_among documents (placed place) ≡ true)
  pub count : count_at w.tables tables.method_debug_information ≡ n
  pub method : (k : ℕ) (cells : List ℕ) → slice_get (rows_at w.tables tables.method_debug_information) k ≡ Some cells
      → MethodHeld w.heaps documents (nth_method p k) cells
  pub others : (table : ℕ) → (table == tables.document) ≡ false → (table == tables.method_debug_information) ≡ false
      → count_at w.tables table ≡ 0

-- the rows of all tables are as before, with one more of MethodDebugInformation
abbrev pub OneMethod : List (List (List ℕ)) → List (List (List ℕ)) → List ℕ → Type 0
OneMethod old new cells = (k : ℕ)
    → rows_at new k ≡ (if k == tables.method_debug_information then rows_at old k ++ cells ∷ [] else rows_at old k)

-- a method with these points gets its row
pub record MethodGiven (locals : ℕ) (points : List Point) (old new : Writer) : Type 0 where
  pub blob : List ℕ
  pub first : ℕ
  pub rows : OneMethod old.tables new.tables (first ∷ blob_offset new.heaps blob ∷ [])
  pub kept : is_kept new.heaps.blobs blob ≡ true
  pub reads : points_in first blob ≡ Some (method_points locals points)
  pub document : first ≡ one_document points
  pub grown : Grown old.heaps new.heaps
  pub size : heaps_size new.heaps ≤ heaps_size old.heaps + (12 + 28 * length points)
  pub known : new.by_value ≡ old.by_value
  pub places : new.places ≡ old.places
  pub weight : new.weight ≡ old.weight

-- what is written of the first n methods and weighed of the first m
pub record IsWritten (p : PlainPdb) (n m room : ℕ) (placed : ℕ → Option Document) (documents : List Document)
    (w : Writer) : Type 0 where
  pub held : IsPdbHeld p n room placed documents w
  pub weight : w.weight ≡ pdb_weight_of p m documents
  pub light : w.weight ≤ most_pdb_weight

-- what is written before the i-th point of the n-th method
abbrev pub WrittenUpto : PlainPdb → (ℕ → Option Document) → ℕ → ℕ → Writer → Type 0
WrittenUpto p placed n i w = IsWritten p n (n + 1) (method_weight (nth_method p n)) placed (documents_upto p n i) w

-- the row is that of the i-th point's document
abbrev pub IsRowAt : PlainPdb → ℕ → ℕ → ℕ → Type 0
IsRowAt p n i row = (q : PlainPoint) → slice_get (nth_method p n).points i ≡ Some q
    → (row_among (documents_upto p n (i + 1)) q.document ≡ row)
    × (has_among (documents_upto p n (i + 1)) q.document ≡ true)

-- the first i points, with the rows of their documents
pub record AreNumbered (p : PlainPdb) (n i : ℕ) (rows : List Point) : Type 0 where
  pub points : rows ≡ points_numbered (documents_upto p n i) (take i (nth_method p n).points)
  pub among : have_rows (documents_upto p n i) (take i (nth_method p n).points) ≡ true
