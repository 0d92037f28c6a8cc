-- No row of a PDB that was written is refused, and each says what was written.
use Rattle.std.proofs.Common.{◌≡◌, ℕ, zero, suc, ◌+◌, ◌<◌, ◌≤◌, true, List, [], ◌∷◌, length, get_or, Option, Some, None, refl, ap, ◌∙◌, arith, sym, ◌⊎◌, inl, inr}
use Rattle.std.specs.Prelude.{◌&&◌, is_some, nat_lt, nat_le, slice_get, slice_index}
use Rattle.std.specs.List.{list_all}
use Rattle.std.proofs.lemmas.Bool.{and_from, and_parts}
use Rattle.std.proofs.lemmas.Bool.Decides.{nat_tests}
use Rattle.std.proofs.lemmas.Option.{slice_get-get_or, slice_get_cases}
use Rattle.enc_base.specs.Order.{first_below}
use Rattle.enc_base.specs.Token.{nth_row}
use Rattle.enc_base.specs.declared.refusal.Place.{Place}
use Rattle.enc_base.specs.declared.token.Token.{Token}
use Rattle.enc_base.proofs.First.{first_none, first_suc}
use Rattle.enc_meta.specs.Built.{Built, heaps_built}
use Rattle.enc_meta.specs.Heaps.{blob_at, guid_at}
use Rattle.enc_plain.specs.Debug.{Document, PlainPoint, PlainPdb}
use Rattle.enc_plain.specs.SoundDebug.{have_documents, IsSoundPdb}
use Rattle.enc_rows.specs.Layout.{rows_of}
use Rattle.enc_rows.specs.Source.{Source, raw_in}
use Rattle.enc_rows.specs.Written.{rows_at, count_at}
use Rattle.enc_base.specs.Tables as tables
use Rattle.enc_schema.specs.Columns as columns
use Rattle.enc_seqpoints.specs.Grammar.{method_points}
use Rattle.enc_ppdb.specs.Fault.{is_document, are_there, all_there, is_method, unless_good, document_fault, method_fault, documents_fault, methods_fault}
use Rattle.enc_ppdb.specs.Pdb.{name_of_document, points_of}
use Rattle.enc_ppdb.specs.PdbChain.{document_of, document_at}
use Rattle.enc_ppdb.specs.Written.{documents_of, nth_method, row_among, points_numbered, DocumentSays, HoldPdb, IsNilOverSeveral, document_told}
use Rattle.enc_ppdb.proofs.PdbRead.{IsPdbReadAs}
use Rattle.enc_ppdb.proofs.PdbRows.{has_row, have_rows, documents_there, StandsAs, stands, row_is}

-- a number of a row that is written
cell_here : (cells : List ℕ) (i : ℕ) → i < length cells → slice_get cells i ≡ Some (slice_index cells i)
cell_here cells i lt = slice_get-get_or cells i 0 lt

row_here : (rows : List (List (List ℕ))) (t n : ℕ) → n < count_at rows t → slice_get (rows_at rows t) n ≡ Some (get_or (rows_at rows t) n [])
row_here rows t n lt = slice_get-get_or (rows_at rows t) n [] lt

-- what a row of Document says
pub record IsDocumentOf (s : Source) (row : Token) (d : Document) : Type 0 where
  pub name : name_of_document s row ≡ Some d.name
  pub algorithm : guid_at s.heaps.guids (raw_in s row columns.document_hash_algorithm) ≡ Some d.algorithm
  pub hash : blob_at s.heaps.blobs (raw_in s row columns.document_hash) ≡ Some d.hash
  pub language : guid_at s.heaps.guids (raw_in s row columns.document_language) ≡ Some d.language

name_here : (h : Built) (rows : List (List (List ℕ))) (s : Source) (n : ℕ) (cells : List ℕ) (d : Document) → IsPdbReadAs h rows s → slice_get (rows_at rows tables.document) n ≡ Some cells → DocumentSays (heaps_built h) d cells
    → name_of_document s (nth_row tables.document n) ≡ Some d.name
unfolding name_of_document
name_here h rows s n cells d is row says =
    rw (is.heaps, is.numbers tables.document n 0 cells (slice_index cells 0) row (cell_here cells 0 (omega (arith, says.count))), says.name.1) (says.name.2)

document_says : (h : Built) (rows : List (List (List ℕ))) (s : Source) (n : ℕ) (cells : List ℕ) (d : Document) → IsPdbReadAs h rows s → slice_get (rows_at rows tables.document) n ≡ Some cells → DocumentSays (heaps_built h) d cells
    → IsDocumentOf s (nth_row tables.document n) d
document_says h rows s n cells d is row says =
    let number : (i : ℕ) → i < 4 → raw_in s (nth_row tables.document n) i ≡ slice_index cells i = λ i lt. is.numbers tables.document n i cells (slice_index cells i) row (cell_here cells i (omega (arith, says.count, lt))) in
    record {
      name = name_here h rows s n cells d is row says;
      algorithm = rw (is.heaps, number 1 (omega arith)) (says.algorithm);
      hash = rw (is.heaps, number 2 (omega arith)) (says.hash);
      language = rw (is.heaps, number 3 (omega arith)) (says.language);
    }

is_good : (s : Source) (row : Token) (d : Document) → IsDocumentOf s row d → is_document s row ≡ true
unfolding is_document
is_good s row d is = rw (is.name, is.algorithm, is.hash, is.language) refl

is_value : (s : Source) (row : Token) (d : Document) → IsDocumentOf s row d → document_of s row ≡ d
is_value s row d is = rw (is.name, is.algorithm, is.hash, is.language) refl

-- the n-th document stands in the n-th row
document_row : (p : PlainPdb) (methods : ℕ) (h : Built) (rows : List (List (List ℕ))) (s : Source) (n : ℕ) (d : Document) → IsPdbReadAs h rows s → HoldPdb p methods h rows → n < length (documents_of p methods) → slice_get (documents_of p methods) n ≡ Some d
    → IsDocumentOf s (nth_row tables.document n) d
document_row p methods h rows s n d is held lt here =
    let row = row_here rows tables.document n (omega (arith, held.documents, lt)) in
    document_says h rows s n (get_or (rows_at rows tables.document) n []) d is row (held.document n d (get_or (rows_at rows tables.document) n []) here row)

-- no rule answers, so none is first
none_first : (rule : ℕ → Option Place) (n : ℕ) → ((k : ℕ) → k < n → rule k ≡ None) → first_below rule n ≡ None
none_first rule zero none = first_none rule
none_first rule (suc n) none = rw (first_suc rule n, none_first rule n (λ k lt. none k (omega (arith, lt))), none n (omega arith)) refl

documents_counted : (p : PlainPdb) (methods : ℕ) (h : Built) (rows : List (List (List ℕ))) (s : Source) → IsPdbReadAs h rows s → HoldPdb p methods h rows → rows_of s.layout tables.document ≡ length (documents_of p methods)
documents_counted p methods h rows s is held = is.counts tables.document (omega arith) ∙ held.documents

abbrev empty : Document
empty = record { name = []; algorithm = []; hash = []; language = [] }

pub documents_good : (p : PlainPdb) (methods : ℕ) (h : Built) (rows : List (List (List ℕ))) (s : Source) → IsPdbReadAs h rows s → HoldPdb p methods h rows → documents_fault s ≡ None
unfolding documents_fault document_fault
documents_good p methods h rows s is held =
    let documents = documents_of p methods in
    none_first _ (rows_of s.layout tables.document) (λ k lt.
    let less : k < length documents = omega (arith, lt, documents_counted p methods h rows s is held) in
    let good = is_good s (nth_row tables.document k) (get_or documents k empty) (document_row p methods h rows s k (get_or documents k empty) is held less (slice_get-get_or documents k empty less)) in
    ap (λ b. unless_good b (nth_row tables.document k)) good)

-- the document at the row of a document is it
document_by : (s : Source) (n : ℕ) (d : Document) → IsDocumentOf s (nth_row tables.document n) d → n < rows_of s.layout tables.document → document_at s (n + 1) ≡ Some d
unfolding document_at
document_by s n d is lt =
    let a : nat_le 1 (n + 1) ≡ true = grind (arith, nat_tests) in
    let b : nat_le (n + 1) (rows_of s.layout tables.document) ≡ true = grind (arith, nat_tests, lt) in
    rw (a, b) (ap (λ (x : Document). Some x) (is_value s (nth_row tables.document n) d is))

less_place : (documents : List Document) (d : Document) (at : StandsAs documents d) → at.place < length documents
less_place documents d at = by (slice_get_cases documents (at.place)).1
  where
    by : ((x : Document) × (at.place < length documents) × (slice_get documents (at.place) ≡ Some x) × (get_or documents (at.place) x ≡ x)) ⊎ ((length documents ≤ at.place) × (slice_get documents (at.place) ≡ None)) → at.place < length documents
    by (inl x) = x.1
    by (inr x) = let e : Some d ≡ None = sym (at.here) ∙ x.1 in absurd (cc)

pub document_back : (p : PlainPdb) (methods : ℕ) (h : Built) (rows : List (List (List ℕ))) (s : Source) (o : Option Document) → IsPdbReadAs h rows s → HoldPdb p methods h rows → is_some o ≡ true → has_row (documents_of p methods) o ≡ true
    → document_at s (row_among (documents_of p methods) o) ≡ o
document_back p methods h rows s None is held some there = absurd (cc)
document_back p methods h rows s (Some d) is held some there =
    let documents = documents_of p methods in
    let at = stands documents d there in
    let lt = less_place documents d at in
    let row = document_row p methods h rows s (at.place) d is held lt (at.here) in
    rw (row_is documents d at) (document_by s (at.place) d row (omega (arith, lt, documents_counted p methods h rows s is held)))

-- the row of a document is one of the rows
row_there : (documents : List Document) (o : Option Document) (count : ℕ) → count ≡ length documents → is_some o ≡ true → has_row documents o ≡ true → (nat_lt 0 (row_among documents o) && nat_le (row_among documents o) count) ≡ true
row_there documents None count e some there = absurd (cc)
row_there documents (Some d) count e some there =
    let at = stands documents d there in
    let lt = less_place documents d at in
    let a : nat_lt 0 (at.place + 1) ≡ true = grind (arith, nat_tests) in
    let b : nat_le (at.place + 1) count ≡ true = grind (arith, nat_tests, lt, e) in
    rw (row_is documents d at, a, b) refl

rows_there : (documents : List Document) (points : List PlainPoint) (count : ℕ) → count ≡ length documents → have_documents points ≡ true → have_rows documents points ≡ true → are_there count (points_numbered documents points) ≡ true
unfolding have_documents points_numbered are_there
rows_there documents [] count e some there = refl
rows_there documents (p ∷ points) count e some there =
    let a = and_parts (is_some p.document) (list_all (λ (q : PlainPoint). is_some q.document) points) some in
    let b = and_parts (has_row documents p.document) (have_rows documents points) there in
    and_from _ _ (row_there documents p.document count e a.0 b.0) (rows_there documents points count e a.1 b.1)

-- a method's row says its points
pub points_here : (p : PlainPdb) (methods : ℕ) (h : Built) (rows : List (List (List ℕ))) (s : Source) (n : ℕ) → IsPdbReadAs h rows s → HoldPdb p methods h rows → n < methods
    → points_of s (nth_row tables.method_debug_information n) ≡ Some (method_points (nth_method p n).locals (points_numbered (documents_of p methods) (nth_method p n).points))
unfolding points_of
points_here p methods h rows s n is held lt =
    let table = tables.method_debug_information in
    let row = row_here rows table n (omega (arith, held.methods, lt)) in
    let cells = get_or (rows_at rows table) n [] in
    let says = held.method n cells row in
    let first = is.numbers table n 0 cells (slice_index cells 0) row (cell_here cells 0 (omega (arith, says.count))) in
    let second = is.numbers table n 1 cells (slice_index cells 1) row (cell_here cells 1 (omega (arith, says.count))) in
    rw (is.heaps, first, second, says.points.1) (says.points.2)

-- and its document
pub document_here : (p : PlainPdb) (methods : ℕ) (h : Built) (rows : List (List (List ℕ))) (s : Source) (n : ℕ) → IsPdbReadAs h rows s → HoldPdb p methods h rows → n < methods → IsNilOverSeveral (nth_method p n).points (document_told s n)
document_here p methods h rows s n is held lt i j q r at to apart =
    let table = tables.method_debug_information in
    let row = row_here rows table n (omega (arith, held.methods, lt)) in
    let cells = get_or (rows_at rows table) n [] in
    let says = held.method n cells row in
    is.numbers table n 0 cells (slice_index cells 0) row (cell_here cells 0 (omega (arith, says.count))) ∙ says.several i j q r at to apart

pub methods_counted : (p : PlainPdb) (methods : ℕ) (h : Built) (rows : List (List (List ℕ))) (s : Source) → IsPdbReadAs h rows s → HoldPdb p methods h rows → rows_of s.layout tables.method_debug_information ≡ methods
methods_counted p methods h rows s is held = is.counts tables.method_debug_information (omega arith) ∙ held.methods

method_good : (p : PlainPdb) (methods : ℕ) (h : Built) (rows : List (List (List ℕ))) (s : Source) (n : ℕ) → IsSoundPdb p → IsPdbReadAs h rows s → HoldPdb p methods h rows → n < methods → is_method s (nth_row tables.method_debug_information n) ≡ true
unfolding is_method
method_good p methods h rows s n sound is held lt =
    let documents = documents_of p methods in
    let count = rows_of s.layout tables.document in
    ap (all_there count) (points_here p methods h rows s n is held lt)
    ∙ rows_there documents (nth_method p n).points count (documents_counted p methods h rows s is held) ((sound.each (nth_row tables.method_def n)).documents) (documents_there p methods n lt)

pub methods_good : (p : PlainPdb) (methods : ℕ) (h : Built) (rows : List (List (List ℕ))) (s : Source) → IsSoundPdb p → IsPdbReadAs h rows s → HoldPdb p methods h rows → methods_fault s ≡ None
unfolding methods_fault method_fault
methods_good p methods h rows s sound is held =
    none_first _ (rows_of s.layout tables.method_debug_information) (λ k lt.
    ap (λ b. unless_good b (nth_row tables.method_debug_information k)) (method_good p methods h rows s k sound is held (omega (arith, lt, methods_counted p methods h rows s is held))))
