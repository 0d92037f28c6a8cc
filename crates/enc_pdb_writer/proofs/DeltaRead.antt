-- The PDB of a delta that was written isn't refused, names its methods, and each row says what was written.
use Rattle.std.proofs.Common.{◌≡◌, ℕ, zero, suc, ◌+◌, ◌*◌, ◌<◌, ◌≤◌, true, List, [], ◌∷◌, length, map, get_or, ◌⊎◌, inl, inr, Option, Some, None, Ok, refl, sym, ap, ◌∙◌, arith}
use Rattle.std.specs.Prelude.{◌^◌, ◌&&◌, ◌==◌, ◌/◌, ◌%◌, filter, is_some, option_map, nat_lt, nat_le, slice_get, slice_index}
use Rattle.std.specs.List.{list_all}
use Rattle.std.proofs.lemmas.Bool.{and_from, and_parts}
use Rattle.std.proofs.lemmas.Bool.Decides.{nat_tests}
use Rattle.std.proofs.lemmas.List.{length-map}
use Rattle.std.proofs.lemmas.Option.{slice_get-get_or, slice_get-map, slice_get_cases, slice_get_within}
use Rattle.enc_base.specs.Order.{first_below}
use Rattle.enc_base.specs.Token.{nth_row, token_of}
use Rattle.enc_base.specs.declared.refusal.Place.{Place}
use Rattle.enc_base.specs.declared.token.Token.{Token}
use Rattle.enc_base.proofs.First.{first_none, first_suc}
use Rattle.enc_meta.specs.Built.{Built, heaps_built}
use Rattle.enc_plain.specs.Debug.{Document, PlainPoint, MethodDebug, PlainPdb, plain_point, debug_of}
use Rattle.enc_plain.specs.SoundDebug.{have_documents, IsSoundPdb}
use Rattle.enc_rows.specs.Layout.{rows_of}
use Rattle.enc_rows.specs.Source.{Source, raw_in}
use Rattle.enc_rows.specs.Sums.{below}
use Rattle.enc_rows.specs.Written.{rows_at, count_at}
use Rattle.enc_rows.proofs.Listed.{get_below, length_below}
use Rattle.enc_base.specs.Tables as tables
use Rattle.enc_seqpoints.specs.Grammar.{method_points}
use Rattle.enc_ppdb.specs.Fault.{is_document, are_there, all_there, is_method, unless_good, document_fault, method_fault, documents_fault, methods_fault, map_token_at, named_tokens, fits_map, pdb_delta_of}
use Rattle.enc_ppdb.specs.Misplaced.{debug_token}
use Rattle.enc_ppdb.specs.Pdb.{pdb_source_of, name_of_document, points_of}
use Rattle.enc_ppdb.specs.PdbChain.{document_of, document_at, points_at, documents_at, debug_at}
use Rattle.enc_ppdb.specs.Written.{documents_of, nth_method, row_among, points_numbered, DocumentSays, IsNilOverSeveral, document_told}
use Rattle.enc_ppdb.proofs.PdbGood.{IsDocumentOf}
use Rattle.enc_ppdb.proofs.PdbRead.{IsPdbReadAs}
use Rattle.enc_ppdb.proofs.PdbRows.{has_row, have_rows, documents_there, StandsAs, stands, row_is}
use Rattle.enc_pdb_writer.specs.Holding.{map_cells, HoldPdbDelta}
use Rattle.enc_pdb_writer.specs.Listed.{has_short_row}
use Rattle.enc_pdb_writer.proofs.Lists.{one_of_all}

-- a number of a row that is written
cell_here : (cells : List ℕ) (i : ℕ) → i < length cells → slice_get cells i ≡ Some (slice_index cells i)
cell_here cells i lt = slice_get-get_or cells i 0 lt

row_here : (rows : List (List (List ℕ))) (t n : ℕ) → n < count_at rows t → slice_get (rows_at rows t) n ≡ Some (get_or (rows_at rows t) n [])
row_here rows t n lt = slice_get-get_or (rows_at rows t) n [] lt

-- no rule answers, so none is first
none_first : (rule : ℕ → Option Place) (n : ℕ) → ((k : ℕ) → k < n → rule k ≡ None) → first_below rule n ≡ None
none_first rule zero none = first_none rule
none_first rule (suc n) none = rw (first_suc rule n, none_first rule n (λ k lt. none k (omega (arith, lt))), none n (omega arith)) refl

name_here : (h : Built) (rows : List (List (List ℕ))) (s : Source) (n : ℕ) (cells : List ℕ) (d : Document) → IsPdbReadAs h rows s → slice_get (rows_at rows tables.document) n ≡ Some cells → DocumentSays (heaps_built h) d cells
    → name_of_document s (nth_row tables.document n) ≡ Some d.name
unfolding name_of_document
name_here h rows s n cells d is row says =
    rw (is.heaps, is.numbers tables.document n 0 cells (slice_index cells 0) row (cell_here cells 0 (omega (arith, says.count))), says.name.1) (says.name.2)

document_says : (h : Built) (rows : List (List (List ℕ))) (s : Source) (n : ℕ) (cells : List ℕ) (d : Document) → IsPdbReadAs h rows s → slice_get (rows_at rows tables.document) n ≡ Some cells → DocumentSays (heaps_built h) d cells
    → IsDocumentOf s (nth_row tables.document n) d
document_says h rows s n cells d is row says =
    let number : (i : ℕ) → i < 4 → raw_in s (nth_row tables.document n) i ≡ slice_index cells i = λ i lt. is.numbers tables.document n i cells (slice_index cells i) row (cell_here cells i (omega (arith, says.count, lt))) in
    record {
      name = name_here h rows s n cells d is row says;
      algorithm = rw (is.heaps, number 1 (omega arith)) (says.algorithm);
      hash = rw (is.heaps, number 2 (omega arith)) (says.hash);
      language = rw (is.heaps, number 3 (omega arith)) (says.language);
    }

is_good : (s : Source) (row : Token) (d : Document) → IsDocumentOf s row d → is_document s row ≡ true
unfolding is_document
is_good s row d is = rw (is.name, is.algorithm, is.hash, is.language) refl

is_value : (s : Source) (row : Token) (d : Document) → IsDocumentOf s row d → document_of s row ≡ d
is_value s row d is = rw (is.name, is.algorithm, is.hash, is.language) refl

-- the document at the row of a document is it
document_by : (s : Source) (n : ℕ) (d : Document) → IsDocumentOf s (nth_row tables.document n) d → n < rows_of s.layout tables.document → document_at s (n + 1) ≡ Some d
unfolding document_at
document_by s n d is lt =
    let a : nat_le 1 (n + 1) ≡ true = grind (arith, nat_tests) in
    let b : nat_le (n + 1) (rows_of s.layout tables.document) ≡ true = grind (arith, nat_tests, lt) in
    rw (a, b) (ap (λ (x : Document). Some x) (is_value s (nth_row tables.document n) d is))

less_place : (documents : List Document) (d : Document) (at : StandsAs documents d) → at.place < length documents
less_place documents d at = by (slice_get_cases documents (at.place)).1
  where
    by : ((x : Document) × (at.place < length documents) × (slice_get documents (at.place) ≡ Some x) × (get_or documents (at.place) x ≡ x)) ⊎ ((length documents ≤ at.place) × (slice_get documents (at.place) ≡ None)) → at.place < length documents
    by (inl x) = x.1
    by (inr x) = let e : Some d ≡ None = sym (at.here) ∙ x.1 in absurd (cc)

-- the row of a document is one of the rows
row_there : (documents : List Document) (o : Option Document) (count : ℕ) → count ≡ length documents → is_some o ≡ true → has_row documents o ≡ true → (nat_lt 0 (row_among documents o) && nat_le (row_among documents o) count) ≡ true
row_there documents None count e some there = absurd (cc)
row_there documents (Some d) count e some there =
    let at = stands documents d there in
    let lt = less_place documents d at in
    let a : nat_lt 0 (at.place + 1) ≡ true = grind (arith, nat_tests) in
    let b : nat_le (at.place + 1) count ≡ true = grind (arith, nat_tests, lt, e) in
    rw (row_is documents d at, a, b) refl

rows_there : (documents : List Document) (points : List PlainPoint) (count : ℕ) → count ≡ length documents → have_documents points ≡ true → have_rows documents points ≡ true → are_there count (points_numbered documents points) ≡ true
unfolding have_documents points_numbered are_there
rows_there documents [] count e some there = refl
rows_there documents (p ∷ points) count e some there =
    let a = and_parts (is_some p.document) (list_all (λ (q : PlainPoint). is_some q.document) points) some in
    let b = and_parts (has_row documents p.document) (have_rows documents points) there in
    and_from _ _ (row_there documents p.document count e a.0 b.0) (rows_there documents points count e a.1 b.1)

-- points with the documents that their rows have
points_back : (documents : List Document) (at : ℕ → Option Document) (points : List PlainPoint) → ((o : Option Document) → is_some o ≡ true → has_row documents o ≡ true → at (row_among documents o) ≡ o)
    → have_documents points ≡ true → have_rows documents points ≡ true → map (plain_point at) (points_numbered documents points) ≡ points
unfolding have_documents points_numbered
points_back documents at [] back some there = refl
points_back documents at (p ∷ points) back some there =
    let a = and_parts (is_some p.document) (list_all (λ (q : PlainPoint). is_some q.document) points) some in
    let b = and_parts (has_row documents p.document) (have_rows documents points) there in
    let first : record { offset = p.offset; document = at (row_among documents p.document); lines = p.lines } ≡ p = ap (λ (o : Option Document). record { offset = p.offset; document = o; lines = p.lines }) (back p.document a.0 b.0) in
    ap (λ (q : PlainPoint). q ∷ map (plain_point at) (points_numbered documents points)) first ∙ ap (λ (qs : List PlainPoint). p ∷ qs) (points_back documents at points back a.1 b.1)

-- what is known by a row
debug_back : (s : Source) (row : Token) (documents : List Document) (d : MethodDebug) → points_of s row ≡ Some (method_points d.locals (points_numbered documents d.points))
    → map (plain_point (documents_at (Some (s, row)))) (points_numbered documents d.points) ≡ d.points → debug_at (Some (s, row)) ≡ d
unfolding debug_at points_at debug_of
debug_back s row documents d there back = rw (there) (ap (λ (points : List PlainPoint). record { locals = d.locals; points = points }) back)

at_document : (s : Source) (row : Token) (n : ℕ) → documents_at (Some (s, row)) n ≡ document_at s n
unfolding documents_at
at_document s row n = refl

-- the token of a cell
token_back : (row : ℕ) → row < 2 ^ 24 → token_of (0x31 * 0x1000000 + row) ≡ debug_token row
token_back row low =
    let a : (0x31 * 0x1000000 + row) / 0x1000000 ≡ 0x31 = omega (arith, low) in
    let b : (0x31 * 0x1000000 + row) % 0x1000000 ≡ row = omega (arith, low) in
    rw (a, b) refl

short_is : (m : ℕ) → has_short_row m ≡ true → m < 2 ^ 24
short_is m short = grind (arith, nat_tests, short)

-- EncMap's tokens are all kept
same_tokens : (ts : List Token) (xs : List ℕ) → length ts ≡ length xs → ((k m : ℕ) → slice_get xs k ≡ Some m → slice_get ts k ≡ Some (debug_token m)) → ts ≡ map debug_token xs
same_tokens [] [] many each = refl
same_tokens [] (m ∷ xs) many each = absurd (omega (arith, many))
same_tokens (t ∷ ts) [] many each = absurd (omega (arith, many))
same_tokens (t ∷ ts) (m ∷ xs) many each =
    let both : Some t ≡ Some (debug_token m) = each 0 m refl in
    let first : t ≡ debug_token m = cc in
    rw (first, same_tokens ts xs (omega (arith, many)) (λ k n a. each (suc k) n a)) refl

keeps_all : (f : ℕ → Token) (n : ℕ) (xs : List ℕ) → length xs ≡ n → ((k m : ℕ) → slice_get xs k ≡ Some m → f k ≡ debug_token m) → map f (below n) ≡ map debug_token xs
keeps_all f n xs many each =
    same_tokens (map f (below n)) xs (length_below f n ∙ sym many)
    (λ k m at. get_below f n k (omega (arith, slice_get_within xs k m at, many)) ∙ ap (λ (t : Token). Some t) (each k m at))

filter_all : (xs : List ℕ) → filter (λ (t : Token). t.table == tables.method_debug_information) (map debug_token xs) ≡ map debug_token xs
filter_all [] = refl
filter_all (m ∷ xs) = ap (λ (ts : List Token). debug_token m ∷ ts) (filter_all xs)

-- what is read of parts that hold a plain PDB and the names of its methods
module _ (p : PlainPdb) (numbers : List ℕ) (h : Built) (rows : List (List (List ℕ))) (s : Source) (is : IsPdbReadAs h rows s) (held : HoldPdbDelta p numbers h rows) where
  documents_counted : rows_of s.layout tables.document ≡ length (documents_of p (length numbers))
  documents_counted = is.counts tables.document (omega arith) ∙ held.documents

  methods_counted : rows_of s.layout tables.method_debug_information ≡ length numbers
  methods_counted = is.counts tables.method_debug_information (omega arith) ∙ held.methods

  -- the n-th document stands in the n-th row
  document_row : (n : ℕ) (d : Document) → n < length (documents_of p (length numbers)) → slice_get (documents_of p (length numbers)) n ≡ Some d → IsDocumentOf s (nth_row tables.document n) d
  document_row n d lt here =
      let row = row_here rows tables.document n (omega (arith, held.documents, lt)) in
      document_says h rows s n (get_or (rows_at rows tables.document) n []) d is row (held.document n d (get_or (rows_at rows tables.document) n []) here row)

  pub documents_good : documents_fault s ≡ None
  unfolding documents_fault document_fault
  documents_good =
      let documents = documents_of p (length numbers) in
      let empty : Document = record { name = []; algorithm = []; hash = []; language = [] } in
      none_first _ (rows_of s.layout tables.document) (λ k lt.
      let less : k < length documents = omega (arith, lt, documents_counted) in
      ap (λ b. unless_good b (nth_row tables.document k)) (is_good s (nth_row tables.document k) (get_or documents k empty) (document_row k (get_or documents k empty) less (slice_get-get_or documents k empty less))))

  document_back : (o : Option Document) → is_some o ≡ true → has_row (documents_of p (length numbers)) o ≡ true → document_at s (row_among (documents_of p (length numbers)) o) ≡ o
  document_back None some there = absurd (cc)
  document_back (Some d) some there =
      let documents = documents_of p (length numbers) in
      let at = stands documents d there in
      let lt = less_place documents d at in
      rw (row_is documents d at) (document_by s (at.place) d (document_row (at.place) d lt (at.here)) (omega (arith, lt, documents_counted)))

  -- a method's row says its points
  points_here : (n : ℕ) → n < length numbers → points_of s (nth_row tables.method_debug_information n) ≡ Some (method_points (nth_method p n).locals (points_numbered (documents_of p (length numbers)) (nth_method p n).points))
  unfolding points_of
  points_here n lt =
      let table = tables.method_debug_information in
      let row = row_here rows table n (omega (arith, held.methods, lt)) in
      let cells = get_or (rows_at rows table) n [] in
      let says = held.method n cells row in
      let first = is.numbers table n 0 cells (slice_index cells 0) row (cell_here cells 0 (omega (arith, says.count))) in
      let second = is.numbers table n 1 cells (slice_index cells 1) row (cell_here cells 1 (omega (arith, says.count))) in
      rw (is.heaps, first, second, says.points.1) (says.points.2)

  -- and its document
  pub document_here : (n : ℕ) → n < length numbers → IsNilOverSeveral (nth_method p n).points (document_told s n)
  document_here n lt i j q r at to apart =
      let table = tables.method_debug_information in
      let row = row_here rows table n (omega (arith, held.methods, lt)) in
      let cells = get_or (rows_at rows table) n [] in
      let says = held.method n cells row in
      is.numbers table n 0 cells (slice_index cells 0) row (cell_here cells 0 (omega (arith, says.count))) ∙ says.several i j q r at to apart

  pub methods_good : IsSoundPdb p → methods_fault s ≡ None
  unfolding methods_fault method_fault is_method
  methods_good sound =
      let documents = documents_of p (length numbers) in
      let count = rows_of s.layout tables.document in
      none_first _ (rows_of s.layout tables.method_debug_information) (λ k lt.
      let low : k < length numbers = omega (arith, lt, methods_counted) in
      ap (λ b. unless_good b (nth_row tables.method_debug_information k)) (ap (all_there count) (points_here k low)
      ∙ rows_there documents (nth_method p k).points count documents_counted ((sound.each (nth_row tables.method_def k)).documents) (documents_there p (length numbers) k low)))

  -- what a row says is what is meant of the method
  pub method_back : (n : ℕ) → IsSoundPdb p → n < length numbers → debug_at (Some (s, nth_row tables.method_debug_information n)) ≡ nth_method p n
  method_back n sound lt =
      let row = nth_row tables.method_debug_information n in
      let documents = documents_of p (length numbers) in
      debug_back s row documents (nth_method p n) (points_here n lt)
      (points_back documents (documents_at (Some (s, row))) (nth_method p n).points (λ o some there. at_document s row (row_among documents o) ∙ document_back o some there)
      ((sound.each (nth_row tables.method_def n)).documents) (documents_there p (length numbers) n lt))

  token_here : (k m : ℕ) → list_all has_short_row numbers ≡ true → slice_get numbers k ≡ Some m → map_token_at s k ≡ debug_token m
  unfolding map_token_at map_cells
  token_here k m short at =
      let row : slice_get (rows_at rows tables.enc_map) k ≡ Some (map_cells m) = ap (λ (xs : List (List ℕ)). slice_get xs k) held.named ∙ slice_get-map map_cells numbers k ∙ ap (λ o. option_map map_cells o) at in
      let low : m < 2 ^ 24 = short_is m (one_of_all has_short_row numbers k m short at) in
      ap token_of (is.numbers tables.enc_map k 0 (map_cells m) (0x31 * 0x1000000 + m) row refl) ∙ token_back m low

  -- EncMap names the rows of the methods, in their order
  pub tokens_are : list_all has_short_row numbers ≡ true → named_tokens s ≡ map debug_token numbers
  unfolding named_tokens
  tokens_are short =
      let count : length numbers ≡ rows_of s.layout tables.enc_map = sym (is.counts tables.enc_map (omega arith) ∙ ap length held.named ∙ length-map numbers map_cells) in
      ap (filter (λ (t : Token). t.table == tables.method_debug_information)) (keeps_all (map_token_at s) (rows_of s.layout tables.enc_map) numbers count (λ k m at. token_here k m short at)) ∙ filter_all numbers

  -- it isn't refused
  pub not_refused : (bytes : List ℕ) → IsSoundPdb p → list_all has_short_row numbers ≡ true → pdb_source_of bytes ≡ Some s → pdb_delta_of bytes ≡ Ok s
  unfolding pdb_delta_of fits_map
  not_refused bytes sound short read =
      let many : length (named_tokens s) ≡ rows_of s.layout tables.method_debug_information = ap length (tokens_are short) ∙ length-map numbers debug_token ∙ sym methods_counted in
      let fits : (length (named_tokens s) == rows_of s.layout tables.method_debug_information) ≡ true = grind (arith, nat_tests, many) in
      rw (read, fits, documents_good, methods_good sound) refl
