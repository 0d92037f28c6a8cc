-- What the files of a chain say is sound.
use Rattle.std.proofs.Common.{◌≡◌, ℕ, ◌+◌, ◌-◌, ◌<◌, ◌≤◌, ◌^◌, Bool, true, false, List, [], ◌∷◌, ◌++◌, map, reverse, Option, Some, None, Result, Ok, Err, refl, sym, ap, ◌∙◌, arith}
use Rattle.std.specs.Prelude.{◌==◌, ◌&&◌, ◌||◌, is_some, is_ok, nat_lt, nat_le, position, option_map, option_and_then, if◌then◌else◌}
use Rattle.std.specs.List.{list_all, list_any}
use Rattle.std.proofs.lemmas.Bool.{and_from, and_parts}
use Rattle.std.proofs.lemmas.Bool.Decides.{nat_tests}
use Rattle.std.proofs.lemmas.List.{reverse-append}
use Rattle.enc_base.specs.Token.{nth_row, is_token}
use Rattle.enc_base.specs.declared.token.Token.{Token}
use Rattle.enc_base.proofs.First.{silent}
use Rattle.enc_meta.specs.Heaps.{blob_at}
use Rattle.enc_plain.specs.Debug.{Document, MethodDebug, PlainPdb, unknown, plain_point, debug_of}
use Rattle.enc_plain.specs.SoundDebug.{numbered, can_be_spelled, have_documents, IsSoundDebug, IsSoundPdb}
use Rattle.enc_rows.specs.Layout.{rows_of}
use Rattle.enc_rows.specs.Source.{Source, raw_in}
use Rattle.enc_schema.specs.Columns as columns
use Rattle.enc_base.specs.Tables as tables
use Rattle.enc_seqpoints.specs.declared.point.Point.{Point}
use Rattle.enc_seqpoints.specs.Grammar.{MethodPoints, points_in, is_row, after, opened}
use Rattle.enc_seqpoints.specs.Spelling.{document_holds, is_later, are_writable, is_writable, preceded, records_of, header_bytes, first_document, blob_of}
use Rattle.enc_seqpoints.proofs.Written.{read_good}
use Rattle.enc_ppdb.specs.Fault.{is_there, are_there, all_there, is_method, method_fault, methods_fault, named_tokens}
use Rattle.enc_ppdb.specs.Pdb.{points_of}
use Rattle.enc_ppdb.specs.PdbChain.{DebugDelta, document_at, row_of_method, row_in_file, has_changed, debug_or, points_at, documents_at, debug_at, pdb_begun, pdb_changed, pdb_with}
use Rattle.enc_ppdb.specs.Points.{names_method, row_for, IsGoodDelta}
use Rattle.enc_ppdb.specs.Sound.{IsGoodPdb, KeepsSound}
use Rattle.enc_ppdb.proofs.Positions.{position_within}
use Rattle.enc_ppdb.proofs.Rows.{is_good_row, as_many}

-- the point in document 1
abbrev in_one : Point → Point
in_one p = record { offset = p.offset; document = 1; lines = p.lines }

-- what the numbers of a record count from
abbrev First : {A B : Type 0} → (A → B) → Type 0
First {A} f = A

abbrev From : Type 0
From = First records_of

-- the points count from the same but for the document, which is 1
record IsAlike (b c : From) : Type 0 where
  offset : b.offset ≡ c.offset
  start : b.start ≡ c.start
  one : c.document ≡ 1

writable_one : (b c : From) (p : Point) → IsAlike b c → is_writable b p ≡ true → is_writable c (in_one p) ≡ true
unfolding is_writable document_holds
writable_one b c p alike w =
    let a = and_parts (document_holds b p.document) (is_later b.offset p.offset && are_writable b.start p.lines) w in
    let holds : (1 == c.document || is_some c.offset && is_row 1) ≡ true = rw (alike.one) refl in
    and_from _ _ holds (rw (← alike.offset, ← alike.start) a.1)

ok_preceded : (n : ℕ) (front : List ℕ) (r : Result (List ℕ) ℕ) → is_ok (preceded n front r) ≡ is_ok r
ok_preceded n front (Ok x) = refl
ok_preceded n front (Err i) = refl

ok_parts : (t : Bool) (front : List ℕ) (r : Result (List ℕ) ℕ) → is_ok (if t then preceded 1 front r else Err 0) ≡ true → (t ≡ true) × (is_ok r ≡ true)
ok_parts true front (Ok x) h = (refl, refl)
ok_parts true front (Err i) h = absurd cc
ok_parts false front r h = absurd cc

ok_both : (t : Bool) (front : List ℕ) (r : Result (List ℕ) ℕ) → t ≡ true → is_ok r ≡ true → is_ok (if t then preceded 1 front r else Err 0) ≡ true
ok_both true front r e ok = ok_preceded 1 front r ∙ ok
ok_both false front r e ok = absurd cc

-- points that can be spelled can be spelled in one document
spelled_in_one : (points : List Point) (b c : From) → IsAlike b c → is_ok (records_of b points) ≡ true → is_ok (records_of c (map in_one points)) ≡ true
unfolding records_of after
spelled_in_one [] b c alike ok = refl
spelled_in_one (p ∷ points) b c alike ok =
    let a = ok_parts (is_writable b p) _ _ ok in
    ok_both (is_writable c (in_one p)) _ _ (writable_one b c p alike a.0) (spelled_in_one points _ _ (record { offset = refl; start = rw (alike.start) refl; one = refl }) a.1)

one_first : (points : List Point) → first_document 0 (map in_one points) ≡ 1
unfolding first_document
one_first [] = refl
one_first (p ∷ points) = refl

blob_in_one : (locals document : ℕ) (points : List Point) → is_ok (blob_of locals document points) ≡ true → is_ok (blob_of 0 0 (map in_one points)) ≡ true
unfolding blob_of
blob_in_one locals document points ok =
    let first = first_document document points in
    let one = first_document 0 (map in_one points) in
    let records : is_ok (records_of (opened first) points) ≡ true = sym (ok_preceded 0 (header_bytes locals document first) (records_of (opened first) points)) ∙ ok in
    ok_preceded 0 (header_bytes 0 0 one) (records_of (opened one) (map in_one points))
    ∙ spelled_in_one points (opened first) (opened one) (record { offset = refl; start = refl; one = one_first points }) records

both_maps : (documents : ℕ → Option Document) (points : List Point) → map (numbered 1) (map (plain_point documents) points) ≡ map in_one points
both_maps documents [] = refl
both_maps documents (p ∷ points) = ap (λ (more : List Point). in_one p ∷ more) (both_maps documents points)

spelled_plain : (locals document : ℕ) (documents : ℕ → Option Document) (points : List Point) → is_ok (blob_of locals document points) ≡ true → can_be_spelled (map (plain_point documents) points) ≡ true
unfolding can_be_spelled
spelled_plain locals document documents points ok = ap (λ (ps : List Point). is_ok (blob_of 0 0 ps)) (both_maps documents points) ∙ blob_in_one locals document points ok

-- a document that is there is known
known_there : (s : Source) (p : Point) → is_there (rows_of s.layout tables.document) p ≡ true → is_some (document_at s p.document) ≡ true
unfolding document_at
known_there s p h =
    let a = and_parts (nat_lt 0 p.document) (nat_le p.document (rows_of s.layout tables.document)) h in
    let b : nat_le 1 p.document ≡ true = grind (arith, nat_tests, a.0) in
    rw (b, a.1) refl

plain_there : (s : Source) (documents : ℕ → Option Document) (points : List Point) → ((n : ℕ) → documents n ≡ document_at s n) → are_there (rows_of s.layout tables.document) points ≡ true → have_documents (map (plain_point documents) points) ≡ true
unfolding are_there have_documents
plain_there s documents [] same h = refl
plain_there s documents (p ∷ points) same h =
    let a = and_parts (is_there (rows_of s.layout tables.document) p) (list_all (is_there (rows_of s.layout tables.document)) points) h in
    and_from _ _ (ap is_some (same p.document) ∙ known_there s p a.0) (plain_there s documents points same a.1)

-- what is read can be written
read_blob : (document : ℕ) (o : Option (List ℕ)) (m : MethodPoints) → option_and_then (points_in document) o ≡ Some m → (m.locals < 2 ^ 29) × (is_ok (blob_of m.locals document m.points) ≡ true)
read_blob document None m h = absurd cc
read_blob document (Some blob) m h = read_good document blob m h

read_points : (s : Source) (row : Token) (m : MethodPoints) → points_of s row ≡ Some m → (document : ℕ) × (m.locals < 2 ^ 29) × (is_ok (blob_of m.locals document m.points) ≡ true)
unfolding points_of
read_points s row m h =
    let document = raw_in s row columns.method_debug_information_document in
    let read = read_blob document (blob_at s.heaps.blobs (raw_in s row columns.method_debug_information_sequence_points)) m h in
    (document, read.0, read.1)

document_same : (s : Source) (row : Token) (n : ℕ) → documents_at (Some (s, row)) n ≡ document_at s n
unfolding documents_at
document_same s row n = refl

points_sound : (s : Source) (row : Token) (m : MethodPoints) → points_of s row ≡ Some m → are_there (rows_of s.layout tables.document) m.points ≡ true → IsSoundDebug (debug_of (documents_at (Some (s, row))) m)
unfolding debug_of
points_sound s row m e there =
    let read = read_points s row m e in
    record {
      locals = read.1;
      spelled = spelled_plain m.locals read.0 (documents_at (Some (s, row))) m.points read.2;
      documents = plain_there s (documents_at (Some (s, row))) m.points (document_same s row) there;
    }

row_by : (s : Source) (row : Token) (o : Option MethodPoints) → points_of s row ≡ o → all_there (rows_of s.layout tables.document) o ≡ true → IsSoundDebug (debug_at (Some (s, row)))
unfolding debug_at points_at
row_by s row None e h = absurd cc
row_by s row (Some m) e h = rw e (points_sound s row m e h)

-- a good row says what is sound
row_sound : (s : Source) (row : Token) → is_method s row ≡ true → IsSoundDebug (debug_at (Some (s, row)))
unfolding is_method
row_sound s row good = row_by s row (points_of s row) refl good

unknown_sound : IsSoundDebug unknown
unfolding can_be_spelled have_documents blob_of records_of
unknown_sound = record { locals = omega arith; spelled = refl; documents = refl }

nothing_sound : IsSoundDebug (debug_at None)
unfolding debug_at debug_of points_at
nothing_sound = unknown_sound

nth_good : (s : Source) (k : ℕ) → methods_fault s ≡ None → k < rows_of s.layout tables.method_debug_information → is_method s (nth_row tables.method_debug_information k) ≡ true
unfolding methods_fault method_fault
nth_good s k none lt =
    is_good_row (is_method s (nth_row tables.method_debug_information k)) (nth_row tables.method_debug_information k)
    (silent (method_fault s) (rows_of s.layout tables.method_debug_information) k none lt)

numbered_good : (s : Source) (row : ℕ) → methods_fault s ≡ None → 1 ≤ row → row ≤ rows_of s.layout tables.method_debug_information → is_method s (record { table = tables.method_debug_information; row = row }) ≡ true
numbered_good s row none low high =
    let e : row - 1 + 1 ≡ row = omega (arith, low) in
    rw e at (nth_good s (row - 1) none (omega (arith, low, high)))

-- what the PDB of a base says is sound
begun_by : (s : Source) (method : Token) (b : Bool) → methods_fault s ≡ None → (method.table == tables.method_def && (nat_le 1 method.row && nat_le method.row (rows_of s.layout tables.method_debug_information))) ≡ b
    → IsSoundDebug (debug_at (row_in_file s (if b then Some (record { table = tables.method_debug_information; row = method.row }) else None)))
begun_by s method false none e = nothing_sound
begun_by s method true none e =
    let a = and_parts (method.table == tables.method_def) (nat_le 1 method.row && nat_le method.row (rows_of s.layout tables.method_debug_information)) e in
    let b = and_parts (nat_le 1 method.row) (nat_le method.row (rows_of s.layout tables.method_debug_information)) a.1 in
    let low : 1 ≤ method.row = grind (arith, nat_tests, b.0) in
    let high : method.row ≤ rows_of s.layout tables.method_debug_information = grind (arith, nat_tests, b.1) in
    row_sound s (record { table = tables.method_debug_information; row = method.row }) (numbered_good s method.row none low high)

begun_at : (s : Source) (method : Token) → methods_fault s ≡ None → IsSoundDebug (pdb_begun (Some s) method)
unfolding pdb_begun row_of_method
begun_at s method none = begun_by s method _ none refl

pub base_is_sound : (s : Source) → IsGoodPdb s → IsSoundPdb (pdb_begun (Some s))
base_is_sound s good = record { each = λ method. begun_at s method good.methods }

nothing_at : (method : Token) → IsSoundDebug (pdb_begun None method)
unfolding pdb_begun
nothing_at method = nothing_sound

pub no_base_is_sound : IsSoundPdb (pdb_begun None)
no_base_is_sound = record { each = nothing_at }

-- what was known and is sound stays so, also where a method has a new body
before_sound : (changed : List Token) (method : Token) (before : MethodDebug) → IsSoundDebug before → IsSoundDebug (has_changed changed method before)
before_sound changed method before sound = by (list_any (is_token method) changed)
  where
    by : (b : Bool) → IsSoundDebug (if b then unknown else before)
    by true = unknown_sound
    by false = sound

changed_by : (s : Source) (method : Token) (o : Option ℕ) (before : MethodDebug) → IsGoodDelta s → position (names_method method) (named_tokens s) ≡ o → IsSoundDebug before
    → IsSoundDebug (debug_or (row_in_file s (option_map (nth_row tables.method_debug_information) o)) before)
changed_by s method None before good e sound = sound
changed_by s method (Some k) before good e sound =
    let lt = position_within (names_method method) (named_tokens s) k e in
    row_sound s (nth_row tables.method_debug_information k) (nth_good s k good.rows (omega (arith, lt, as_many s good.fits)))

changed_at : (s : Source) (method : Token) (before : MethodDebug) → IsGoodDelta s → IsSoundDebug before → IsSoundDebug (debug_or (row_in_file s (row_for s method)) before)
unfolding row_for
changed_at s method before good sound = changed_by s method (position (names_method method) (named_tokens s)) before good refl sound

some_keeps : (s : Source) (before : PlainPdb) (changed : List Token) (method : Token) → IsGoodDelta s → IsSoundPdb before → IsSoundDebug (pdb_changed before (record { pdb = Some s; changed = changed }) method)
unfolding pdb_changed
some_keeps s before changed method good sound = changed_at s method (has_changed changed method (before method)) good (before_sound changed method (before method) (sound.each method))

none_keeps : (before : PlainPdb) (changed : List Token) (method : Token) → IsSoundPdb before → IsSoundDebug (pdb_changed before (record { pdb = None; changed = changed }) method)
unfolding pdb_changed
none_keeps before changed method sound = before_sound changed method (before method) (sound.each method)

-- what a delta's PDB says keeps a sound plain PDB sound, and so does a delta without one
pub delta_keeps_sound : (s : Source) → IsGoodDelta s → KeepsSound (Some s)
delta_keeps_sound s good before changed sound = record { each = λ method. some_keeps s before changed method good sound }

pub nothing_keeps_sound : KeepsSound None
nothing_keeps_sound before changed sound = record { each = λ method. none_keeps before changed method sound }

-- one delta more, the last of a list and the first of the chain
pub chain_keeps_sound : (base : Option Source) (deltas more : List DebugDelta) (d : DebugDelta) → KeepsSound d.pdb → IsSoundPdb (pdb_with base (reverse deltas)) → more ≡ deltas ++ d ∷ [] → IsSoundPdb (pdb_with base (reverse more))
unfolding pdb_with
chain_keeps_sound base deltas more d keeps sound is = rw (is, reverse-append deltas (d ∷ [])) (keeps (pdb_with base (reverse deltas)) d.changed sound)
