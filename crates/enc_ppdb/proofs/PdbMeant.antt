-- A PDB of parts that hold a plain PDB means it.
use Rattle.std.proofs.Common.{◌≡◌, ℕ, ◌+◌, ◌-◌, ◌<◌, ◌≤◌, Bool, true, false, List, [], ◌∷◌, map, Option, Some, Ok, refl, sym, ap, ◌∙◌, arith, eqb-true}
use Rattle.std.specs.Prelude.{◌&&◌, ◌==◌, is_some, nat_le, if◌then◌else◌}
use Rattle.std.specs.List.{list_all}
use Rattle.std.proofs.lemmas.Bool.{and_parts}
use Rattle.std.proofs.lemmas.Bool.Decides.{nat_tests}
use Rattle.enc_base.specs.Token.{nth_row}
use Rattle.enc_base.specs.declared.token.Token.{Token}
use Rattle.enc_emit.specs.Written.{has_ptr_rows, pdb_root_built}
use Rattle.enc_meta.specs.Built.{Built}
use Rattle.enc_meta.proofs.BuiltMeanings.{all_texts_count}
use Rattle.enc_plain.specs.Debug.{Document, PlainPoint, MethodDebug, PlainPdb, unknown, plain_point, debug_of}
use Rattle.enc_plain.specs.SoundDebug.{have_documents, is_method_of, IsSoundPdb, KnowsWithin}
use Rattle.enc_rows.specs.Layout.{is_pdb_table, rows_of}
use Rattle.enc_rows.specs.Source.{Source}
use Rattle.enc_rows.specs.Written.{count_at}
use Rattle.enc_base.specs.Tables as tables
use Rattle.enc_seqpoints.specs.Grammar.{method_points}
use Rattle.enc_ppdb.specs.Fault.{fits_methods, pdb_of}
use Rattle.enc_ppdb.specs.Pdb.{pdb_source_of, points_of}
use Rattle.enc_ppdb.specs.PdbChain.{document_at, row_of_method, points_at, documents_at, debug_at, pdb_begun}
use Rattle.enc_ppdb.specs.PdbsMean.{PdbsMean}
use Rattle.enc_ppdb.specs.Written.{documents_of, nth_method, row_among, points_numbered, HoldPdb}
use Rattle.enc_ppdb.proofs.PdbGood.{documents_good, methods_good, document_back, points_here, document_here, methods_counted}
use Rattle.enc_ppdb.proofs.PdbRead.{IsPdbReadAs, pdb_is_read}
use Rattle.enc_ppdb.proofs.PdbRows.{has_row, have_rows, documents_there}

-- no table but those of a PDB has rows
none_else : (p : PlainPdb) (methods : ℕ) (h : Built) (rows : List (List (List ℕ))) (t : ℕ) → HoldPdb p methods h rows → is_pdb_table t ≡ false → count_at rows t ≡ 0
none_else p methods h rows t held e = held.others t (by t 0x30 refl e) (by t 0x31 refl e)
  where
    by : (t u : ℕ) → is_pdb_table u ≡ true → is_pdb_table t ≡ false → (t == u) ≡ false
    by t u there none = with_test (t == u) refl
      where
        with_test : (b : Bool) → (t == u) ≡ b → b ≡ false
        with_test false e = refl
        with_test true e = let same : t ≡ u = eqb-true t u e in let f : true ≡ false = sym there ∙ ap is_pdb_table (sym same) ∙ none in absurd (cc)

-- points with the documents that their rows have
points_back : (documents : List Document) (at : ℕ → Option Document) (points : List PlainPoint) → ((o : Option Document) → is_some o ≡ true → has_row documents o ≡ true → at (row_among documents o) ≡ o)
    → have_documents points ≡ true → have_rows documents points ≡ true → map (plain_point at) (points_numbered documents points) ≡ points
unfolding have_documents points_numbered
points_back documents at [] back some there = refl
points_back documents at (p ∷ points) back some there =
    let a = and_parts (is_some p.document) (list_all (λ (q : PlainPoint). is_some q.document) points) some in
    let b = and_parts (has_row documents p.document) (have_rows documents points) there in
    let first : record { offset = p.offset; document = at (row_among documents p.document); lines = p.lines } ≡ p = ap (λ (o : Option Document). record { offset = p.offset; document = o; lines = p.lines }) (back p.document a.0 b.0) in
    ap (λ (q : PlainPoint). q ∷ map (plain_point at) (points_numbered documents points)) first ∙ ap (λ (qs : List PlainPoint). p ∷ qs) (points_back documents at points back a.1 b.1)

-- what is known by a row
debug_back : (s : Source) (row : Token) (documents : List Document) (d : MethodDebug) → points_of s row ≡ Some (method_points d.locals (points_numbered documents d.points))
    → map (plain_point (documents_at (Some (s, row)))) (points_numbered documents d.points) ≡ d.points → debug_at (Some (s, row)) ≡ d
unfolding debug_at points_at debug_of
debug_back s row documents d there back = rw (there) (ap (λ (points : List PlainPoint). record { locals = d.locals; points = points }) back)

at_document : (s : Source) (row : Token) (n : ℕ) → documents_at (Some (s, row)) n ≡ document_at s n
unfolding documents_at
at_document s row n = refl

method_back : (p : PlainPdb) (methods : ℕ) (h : Built) (rows : List (List (List ℕ))) (s : Source) (n : ℕ) → IsSoundPdb p → IsPdbReadAs h rows s → HoldPdb p methods h rows → n < methods
    → debug_at (Some (s, nth_row tables.method_debug_information n)) ≡ nth_method p n
method_back p methods h rows s n sound is held lt =
    let row = nth_row tables.method_debug_information n in
    let documents = documents_of p methods in
    let back : (o : Option Document) → is_some o ≡ true → has_row documents o ≡ true → documents_at (Some (s, row)) (row_among documents o) ≡ o =
    λ o some there. at_document s row (row_among documents o) ∙ document_back p methods h rows s o is held some there in
    debug_back s row documents (nth_method p n) (points_here p methods h rows s n is held lt)
    (points_back documents (documents_at (Some (s, row))) (nth_method p n).points back ((sound.each (nth_row tables.method_def n)).documents) (documents_there p methods n lt))

-- where a method has its row, and where it has none
row_by : (s : Source) (method : Token) (b : Bool) → (method.table == tables.method_def && (nat_le 1 method.row && nat_le method.row (rows_of s.layout tables.method_debug_information))) ≡ b
    → pdb_begun (Some s) method ≡ (if b then debug_at (Some (s, record { table = tables.method_debug_information; row = method.row })) else unknown)
unfolding pdb_begun row_of_method debug_at points_at documents_at debug_of
row_by s method true e = rw e refl
row_by s method false e = rw e refl

-- a method's token by its row
method_token : (table row n : ℕ) → table ≡ tables.method_def → n + 1 ≡ row → nth_row tables.method_def n ≡ record { table = table; row = row }
method_token table row n t e = rw (t, e) refl

at_row : (s : Source) (row k : ℕ) (d : MethodDebug) → row ≡ k → debug_at (Some (s, record { table = tables.method_debug_information; row = k })) ≡ d → debug_at (Some (s, record { table = tables.method_debug_information; row = row })) ≡ d
at_row s row k d e known = rw e known

known_by : (p : PlainPdb) (methods : ℕ) (h : Built) (rows : List (List (List ℕ))) (s : Source) (method : Token) (b : Bool) → IsSoundPdb p → KnowsWithin p methods → IsPdbReadAs h rows s → HoldPdb p methods h rows
    → is_method_of methods method ≡ b → (if b then debug_at (Some (s, record { table = tables.method_debug_information; row = method.row })) else unknown) ≡ p method
unfolding is_method_of
known_by p methods h rows s method false sound within is held e = sym (within.each method e)
known_by p methods h rows s method true sound within is held e =
    let a = and_parts (method.table == tables.method_def) (nat_le 1 method.row && nat_le method.row methods) e in
    let b = and_parts (nat_le 1 method.row) (nat_le method.row methods) a.1 in
    let low : 1 ≤ method.row = grind (arith, nat_tests, b.0) in
    let high : method.row ≤ methods = grind (arith, nat_tests, b.1) in
    let n = method.row - 1 in
    let e : n + 1 ≡ method.row = omega (arith, low) in
    at_row s method.row (n + 1) (nth_method p n) (sym e) (method_back p methods h rows s n sound is held (omega (arith, low, high)))
    ∙ ap p (method_token method.table method.row n (eqb-true method.table tables.method_def a.0) e)

tested : (p : PlainPdb) (methods : ℕ) (h : Built) (rows : List (List (List ℕ))) (s : Source) (method : Token) → IsPdbReadAs h rows s → HoldPdb p methods h rows
    → (method.table == tables.method_def && (nat_le 1 method.row && nat_le method.row (rows_of s.layout tables.method_debug_information))) ≡ is_method_of methods method
unfolding is_method_of
tested p methods h rows s method is held = ap (λ (n : ℕ). method.table == tables.method_def && (nat_le 1 method.row && nat_le method.row n)) (methods_counted p methods h rows s is held)

begun_is : (p : PlainPdb) (methods : ℕ) (h : Built) (rows : List (List (List ℕ))) (s : Source) (method : Token) → IsSoundPdb p → KnowsWithin p methods → IsPdbReadAs h rows s → HoldPdb p methods h rows → pdb_begun (Some s) method ≡ p method
begun_is p methods h rows s method sound within is held =
    row_by s method (is_method_of methods method) (tested p methods h rows s method is held)
    ∙ known_by p methods h rows s method (is_method_of methods method) sound within is held refl

-- it isn't refused
fits : (p : PlainPdb) (methods : ℕ) (h : Built) (rows : List (List (List ℕ))) (s : Source) → IsPdbReadAs h rows s → HoldPdb p methods h rows → fits_methods methods s ≡ true
unfolding fits_methods
fits p methods h rows s is held = grind (arith, nat_tests, methods_counted p methods h rows s is held)

no_refusal : (p : PlainPdb) (methods : ℕ) (h : Built) (rows : List (List (List ℕ))) (s : Source) (bytes : List ℕ) → IsSoundPdb p → IsPdbReadAs h rows s → HoldPdb p methods h rows → pdb_source_of bytes ≡ Some s → pdb_of bytes methods ≡ Ok s
unfolding pdb_of
no_refusal p methods h rows s bytes sound is held read =
    rw (read, fits p methods h rows s is held, documents_good p methods h rows s is held, methods_good p methods h rows s sound is held) refl

pub pdbs_mean : PdbsMean
unfolding pdb_root_built
pdbs_mean p methods entry h rows sound within good are indices held small =
    let r = pdb_is_read h rows (has_ptr_rows rows) entry are indices (λ t e. none_else p methods h rows t held e) small (all_texts_count h good) in
    record {
      source = r.0;
      read = no_refusal p methods h rows r.0 _ sound r.2 held r.1;
      means = λ method. begun_is p methods h rows r.0 method sound within r.2 held;
      several = λ n lt. document_here p methods h rows r.0 n r.2 held lt;
    }
