-- A method that is given its row, and all methods together.
use Rattle.std.proofs.Common.{◌≡◌, ℕ, zero, suc, ◌+◌, ◌*◌, ◌≤◌, ◌<◌, Bool, true, false, ◌&&◌, List, [], ◌∷◌, ◌++◌, length, map, take, Option, Some, None, refl, sym, ap, subst, ◌∙◌, ◌⊎◌, inl, inr, arith}
use Rattle.std.specs.BTreeMap.{get, is_at, IsEmpty}
use Rattle.std.specs.Map.{lookup}
use Rattle.std.specs.Cmp.Lexicographic.{slice_cmp}
use Rattle.std.specs.Ordering.{nat_cmp}
use Rattle.enc_rows.specs.Sums.{sum_below}
use Rattle.std.specs.Prelude.{◌^◌, ◌==◌, bytes_eq, position, option_map, is_some, is_ok, unwrap_or, sum_by, nat_lt, if◌then◌else◌, slice_get}
use Rattle.std.specs.List.{list_all, list_any}
use Rattle.std.proofs.lemmas.Bool.{and_parts}
use Rattle.std.proofs.lemmas.Bool.Decides.{nat_tests}
use Rattle.std.proofs.lemmas.List.{length-append, map-append, length-map}
use Rattle.std.proofs.lemmas.List.Folds.{list_all-append}
use Rattle.std.proofs.lemmas.List.Sums.{sum_by-cons}
use Rattle.enc_meta.specs.Built.{Built, blob_offset}
use Rattle.enc_plain.specs.Debug.{Document, PlainPoint, MethodDebug, PlainPdb}
use Rattle.enc_plain.specs.SoundDebug.{IsSoundPdb, numbered, can_be_spelled}
use Rattle.enc_rows.specs.Written.{rows_at, count_at}
use Rattle.enc_seqpoints.specs.declared.point.Point.{Point}
use Rattle.enc_seqpoints.specs.Grammar.{method_points, is_row}
use Rattle.enc_seqpoints.specs.Spelling.{blob_of, first_document}
use Rattle.enc_seqpoints.proofs.PointsSpelled.{spelled_so, none_spelled}
use Rattle.enc_ppdb.specs.declared.writer.Writer.{Writer}
use Rattle.enc_ppdb.specs.Method.{one_document}
use Rattle.enc_ppdb.specs.Written.{is_same, with_document, with_some, nth_method, documents_of, row_among, points_numbered, document_weight, method_weight, pdb_weight, most_pdb_weight, pdb_starts}
use Rattle.enc_ppdb.specs.Holding.{heaps_size, row_known, Grown, documents_upto, pdb_weight_of, has_among, have_rows, MethodHeld, MethodGiven, IsWritten, WrittenUpto, IsRowAt, AreNumbered}
use Rattle.enc_ppdb.proofs.DocumentKeys.{all_stay}
use Rattle.enc_ppdb.proofs.DocumentsHeld.{points_stay, with_known, with_new}
use Rattle.enc_ppdb.proofs.DocumentsUpto.{take_more, take_ended, upto_more, upto_none, upto_all, documents_more, weight_step, weight_within}
use Rattle.enc_ppdb.proofs.Positions.{position_within, position_any}
use Rattle.enc_ppdb.proofs.Several.{several_nil}

-- points keep their rows when a document comes
document_stays : (documents : List Document) (d : Document) (points : List PlainPoint) (b : Bool) → list_any (is_same d) documents ≡ b → have_rows documents points ≡ true
    → (have_rows (with_document documents d) points ≡ true) × (points_numbered (with_document documents d) points ≡ points_numbered documents points)
document_stays documents d points true is among = subst (λ ds. (have_rows ds points ≡ true) × (points_numbered ds points ≡ points_numbered documents points)) (sym (with_known documents d is)) (among, refl)
document_stays documents d points false is among =
    subst (λ ds. (have_rows ds points ≡ true) × (points_numbered ds points ≡ points_numbered documents points)) (sym (with_new documents d is)) (points_stay documents d points among)

some_stays : (documents : List Document) (o : Option Document) (points : List PlainPoint) → have_rows documents points ≡ true
    → (have_rows (with_some documents o) points ≡ true) × (points_numbered (with_some documents o) points ≡ points_numbered documents points)
some_stays documents None points among = (among, refl)
some_stays documents (Some d) points among = document_stays documents d points (list_any (is_same d) documents) refl among

numbered_last : (documents : List Document) (points : List PlainPoint) (q : PlainPoint) → points_numbered documents (points ++ q ∷ []) ≡ points_numbered documents points ++ numbered (row_among documents q.document) q ∷ []
unfolding points_numbered
numbered_last documents points q = map-append (λ (p : PlainPoint). numbered (row_among documents p.document) p) points (q ∷ [])

and_end : (a b : Bool) → a ≡ true → b ≡ true → (a && (b && true)) ≡ true
and_end true true p q = refl
and_end true false p q = absurd cc
and_end false b p q = absurd cc

among_last : (documents : List Document) (points : List PlainPoint) (q : PlainPoint) → have_rows documents points ≡ true → has_among documents q.document ≡ true → have_rows documents (points ++ q ∷ []) ≡ true
unfolding have_rows
among_last documents points q all one =
    list_all-append (λ (p : PlainPoint). has_among documents p.document) points (q ∷ [])
    ∙ and_end (list_all (λ (p : PlainPoint). has_among documents p.document) points) (has_among documents q.document) all one

-- one point more
pub numbered_more : (p : PlainPdb) (n i row : ℕ) (q : PlainPoint) (old new : List Point) → AreNumbered p n i old → slice_get (nth_method p n).points i ≡ Some q → IsRowAt p n i row → new ≡ old ++ numbered row q ∷ [] → AreNumbered p n (i + 1) new
numbered_more p n i row q old new so at given is =
    let documents = documents_upto p n i in
    let points = take i (nth_method p n).points in
    let after = documents_upto p n (i + 1) in
    let stays : (have_rows after points ≡ true) × (points_numbered after points ≡ points_numbered documents points) =
    subst (λ ds. (have_rows ds points ≡ true) × (points_numbered ds points ≡ points_numbered documents points)) (sym (upto_more p n i q at)) (some_stays documents q.document points so.among) in
    let one = given q at in
    let more = take_more (nth_method p n).points i q at in
    record {
      points = is ∙ ap (λ (xs : List Point). xs ++ numbered row q ∷ []) (so.points ∙ sym stays.1) ∙ ap (λ r. points_numbered after points ++ numbered r q ∷ []) (sym one.0) ∙ sym (numbered_last after points q) ∙ ap (λ xs. points_numbered after xs) (sym more);
      among = ap (λ xs. have_rows after xs) more ∙ among_last after points q stays.0 one.1;
    }

pub numbered_none : (p : PlainPdb) (n : ℕ) (rows : List Point) → rows ≡ [] → AreNumbered p n 0 rows
unfolding points_numbered have_rows
numbered_none p n rows none = record { points = none; among = refl }

lt_more : (a b c : ℕ) → b ≤ c → nat_lt a b ≡ true → nat_lt a c ≡ true
lt_more a b c le is = grind (arith, nat_tests)

-- the weight of a part is within that of the whole
pub point_past : (p : PlainPdb) (n i : ℕ) → nat_lt most_pdb_weight (pdb_weight_of p (n + 1) (documents_upto p n i)) ≡ true → nat_lt most_pdb_weight (pdb_weight_of p (n + 1) (documents_of p (n + 1))) ≡ true
unfolding pdb_weight_of
point_past p n i is = lt_more most_pdb_weight (pdb_weight_of p (n + 1) (documents_upto p n i)) (pdb_weight_of p (n + 1) (documents_of p (n + 1))) (omega (arith, documents_more p n i)) is

method_low : (p : PlainPdb) (n : ℕ) → pdb_weight_of p (n + 1) (documents_of p n) ≤ pdb_weight_of p (n + 1) (documents_of p (n + 1))
unfolding pdb_weight_of
method_low p n = omega (arith, ap (λ ds. sum_by document_weight ds) (upto_none p n), documents_more p n 0)

pub method_past : (p : PlainPdb) (n points weight : ℕ) → weight ≡ pdb_weight_of p n (documents_of p n) → points ≡ length (nth_method p n).points → nat_lt most_pdb_weight (weight + (64 + 32 * points)) ≡ true
    → nat_lt most_pdb_weight (pdb_weight_of p (n + 1) (documents_of p (n + 1))) ≡ true
method_past p n points weight is many past =
    lt_more most_pdb_weight (weight + (64 + 32 * points)) (pdb_weight_of p (n + 1) (documents_of p (n + 1))) (omega (arith, is, many, method_low p n, weight_step p n (documents_of p n))) past

-- the weight of a method is added
pub method_begun : (p : PlainPdb) (placed : ℕ → Option Document) (n points weight : ℕ) (w : Writer) → IsWritten p n n 0 placed (documents_of p n) w → weight ≡ w.weight + (64 + 32 * points) → weight ≤ most_pdb_weight → points ≡ length (nth_method p n).points
    → WrittenUpto p placed n 0 (record { heaps = w.heaps; tables = w.tables; by_value = w.by_value; places = w.places; weight = weight })
unfolding row_known
method_begun p placed n points weight w so is light many =
    let new : Writer = record { heaps = w.heaps; tables = w.tables; by_value = w.by_value; places = w.places; weight = weight } in
    subst (λ ds. IsWritten p n (n + 1) (method_weight (nth_method p n)) placed ds new) (upto_none p n) (record {
      held = record {
        starts = so.held.starts;
        texts = so.held.texts;
        users = so.held.users;
        size = omega (arith, so.held.size, is, many);
        rows = so.held.rows;
        kept = so.held.kept;
        by_value = so.held.by_value;
        places = so.held.places;
        count = so.held.count;
        method = so.held.method;
        others = so.held.others;
      };
      weight = is ∙ omega (arith, so.weight, many, weight_step p n (documents_of p n));
      light = light;
    })

-- a row that is given is one
row_by : (documents : List Document) (o : Option ℕ) → length documents < 2 ^ 28 → ((k : ℕ) → o ≡ Some k → k < length documents) → is_some o ≡ true → is_row (unwrap_or (option_map suc o) 0) ≡ true
row_by documents None few low some = absurd cc
row_by documents (Some k) few low some = let l = low k refl in grind (arith, nat_tests, l, few)

row_good : (documents : List Document) (o : Option Document) → length documents < 2 ^ 28 → has_among documents o ≡ true → is_row (row_among documents o) ≡ true
unfolding row_among
row_good documents None few among = absurd cc
row_good documents (Some d) few among = row_by documents (position (is_same d) documents) few (λ k e. position_within (is_same d) documents k e) (position_any (is_same d) documents ∙ among)

rows_good : (documents : List Document) (points : List PlainPoint) → length documents < 2 ^ 28 → have_rows documents points ≡ true → list_all (λ (q : PlainPoint). is_row (row_among documents q.document)) points ≡ true
unfolding have_rows
rows_good documents [] few among = refl
rows_good documents (q ∷ points) few among =
    let parts = and_parts (has_among documents q.document) (list_all (λ (p : PlainPoint). has_among documents p.document) points) among in
    rw (row_good documents q.document few parts.0, rows_good documents points few parts.1) refl

one_by : (n : ℕ) (all : Bool) → is_row n ≡ true → (if (if all then n else 0) == 0 then (if is_row n then n else 1) else (if all then n else 0)) ≡ n
one_by n true is = by (n == 0)
  where
    by : (b : Bool) → (if b then (if is_row n then n else 1) else n) ≡ n
    by true = rw is refl
    by false = refl
one_by n false is = rw is refl

-- the document that holds at first is the first point's
first_is : (p : Point) (points : List Point) → is_row p.document ≡ true → first_document (one_document (p ∷ points)) (p ∷ points) ≡ p.document
unfolding first_document one_document
first_is p points is = one_by p.document (list_all (λ (q : Point). q.document == p.document) (p ∷ points)) is

spelled_by : (documents : List Document) (locals : ℕ) (points : List PlainPoint) → length documents < 2 ^ 28 → have_rows documents points ≡ true → can_be_spelled points ≡ true
    → is_ok (blob_of locals (one_document (points_numbered documents points)) (points_numbered documents points)) ≡ true
unfolding can_be_spelled points_numbered
spelled_by documents locals [] few among is = none_spelled locals (one_document [])
spelled_by documents locals (q ∷ points) few among is =
    let f = λ (p : PlainPoint). row_among documents p.document in
    let rows = rows_good documents (q ∷ points) few among in
    let one = (and_parts (is_row (f q)) (list_all (λ (p : PlainPoint). is_row (f p)) points) rows).0 in
    spelled_so (λ (p : PlainPoint). p.offset) (λ (p : PlainPoint). p.lines) (λ (p : PlainPoint). 1) f 0 0 locals (one_document (points_numbered documents (q ∷ points))) q points rows
    (first_is (numbered (f q) q) (points_numbered documents points) one) is

documents_few : (documents : List Document) → 96 * length documents ≤ sum_by document_weight documents
documents_few [] = omega arith
documents_few (d ∷ documents) =
    let many : length (d ∷ documents) ≡ length documents + 1 = omega arith in
    rw (many, sum_by-cons document_weight d documents) (omega (arith, documents_few documents))

-- the points of a sound method can be spelled with their rows
pub method_spelled : (p : PlainPdb) (placed : ℕ → Option Document) (n k locals : ℕ) (rows : List Point) (w : Writer) → IsSoundPdb p → WrittenUpto p placed n k w → AreNumbered p n k rows → length (nth_method p n).points ≤ k
    → is_ok (blob_of locals (one_document rows) rows) ≡ true
unfolding pdb_weight_of
method_spelled p placed n k locals rows w sound so numbered whole =
    let documents = documents_upto p n k in
    let points = (nth_method p n).points in
    let all = take_ended points k whole in
    let is : rows ≡ points_numbered documents points = numbered.points ∙ ap (λ xs. points_numbered documents xs) all in
    let few : length documents < 2 ^ 28 = omega (arith, documents_few documents, so.weight, so.light) in
    subst (λ xs. is_ok (blob_of locals (one_document xs) xs) ≡ true) (sym is)
    (spelled_by documents locals points few (ap (λ xs. have_rows documents xs) (sym all) ∙ numbered.among) (sound.each (record { table = 0x06; row = n + 1 })).spelled)

-- a method's row stays when heaps grow
method_grown : (h k : Built) (documents : List Document) (d : MethodDebug) (cells : List ℕ) → Grown h k → MethodHeld h documents d cells → MethodHeld k documents d cells
method_grown h k documents d cells grown held =
    let blob = grown.blobs held.blob held.kept in
    record {
      blob = held.blob;
      first = held.first;
      cells = held.cells ∙ ap (λ n. held.first ∷ n ∷ []) (sym blob.1);
      kept = blob.0;
      reads = held.reads;
      low = held.low;
      several = held.several;
      among = held.among;
    }

got_last : {X : Type 0} (xs : List X) (y : X) (k : ℕ) (c : X) → slice_get (xs ++ y ∷ []) k ≡ Some c → (slice_get xs k ≡ Some c) ⊎ ((k ≡ length xs) × (y ≡ c))
got_last [] y zero c at = inr (refl, cc)
got_last [] y (suc k) c at = absurd cc
got_last (x ∷ xs) y zero c at = inl at
got_last (x ∷ xs) y (suc k) c at = by (got_last xs y k c at)
  where
    by : (slice_get xs k ≡ Some c) ⊎ ((k ≡ length xs) × (y ≡ c)) → (slice_get xs k ≡ Some c) ⊎ ((suc k ≡ length (x ∷ xs)) × (y ≡ c))
    by (inl e) = inl e
    by (inr e) = inr (ap suc e.0, e.1)

method_at : (p : PlainPdb) (h l : Built) (documents : List Document) (n k : ℕ) (rows : List (List ℕ)) (last cells : List ℕ) → Grown h l → length rows ≡ n
    → ((k : ℕ) (cells : List ℕ) → slice_get rows k ≡ Some cells → MethodHeld h documents (nth_method p k) cells) → MethodHeld l documents (nth_method p n) last
    → ((slice_get rows k ≡ Some cells) ⊎ ((k ≡ length rows) × (last ≡ cells))) → MethodHeld l documents (nth_method p k) cells
method_at p h l documents n k rows last cells grown many before now (inl at) = method_grown h l documents (nth_method p k) cells grown (before k cells at)
method_at p h l documents n k rows last cells grown many before now (inr e) =
    let same : n ≡ k = sym (e.0 ∙ many) in
    subst (λ c. MethodHeld l documents (nth_method p k) c) e.1 (subst (λ m. MethodHeld l documents (nth_method p m) last) same now)

-- a document that points have is a row
row_low : (documents : List Document) (o : Option Document) → row_among documents o ≤ length documents
unfolding row_among
row_low documents None = omega arith
row_low documents (Some d) = by (position (is_same d) documents) (λ k e. position_within (is_same d) documents k e)
  where
    by : (o : Option ℕ) → ((k : ℕ) → o ≡ Some k → k < length documents) → unwrap_or (option_map suc o) 0 ≤ length documents
    by None low = omega arith
    by (Some k) low = omega (arith, low k refl)

if_low : (b : Bool) (n most : ℕ) → n ≤ most → (if b then n else 0) ≤ most
if_low true n most low = low
if_low false n most low = omega arith

numbered_low : (documents : List Document) (points : List PlainPoint) → one_document (points_numbered documents points) ≤ length documents
unfolding one_document points_numbered
numbered_low documents [] = omega arith
numbered_low documents (q ∷ points) =
    let n = row_among documents q.document in
    if_low (list_all (λ (x : Point). x.document == n) (numbered n q ∷ map (λ (p : PlainPoint). numbered (row_among documents p.document) p) points)) n (length documents) (row_low documents q.document)

one_low : (documents : List Document) (points : List PlainPoint) (rows : List Point) → rows ≡ points_numbered documents points → one_document rows ≤ length documents
one_low documents points rows is = rw is (numbered_low documents points)

-- a method that is given its row
pub method_written : (p : PlainPdb) (placed : ℕ → Option Document) (n k locals : ℕ) (rows : List Point) (old new : Writer) → WrittenUpto p placed n k old → AreNumbered p n k rows → length (nth_method p n).points ≤ k
    → locals ≡ (nth_method p n).locals → MethodGiven locals rows old new → new.weight ≤ most_pdb_weight → IsWritten p (n + 1) (n + 1) 0 placed (documents_of p (n + 1)) new
unfolding row_known points_numbered
method_written p placed n k locals rows old new so listed whole own given light =
    let documents = documents_upto p n k in
    let points = (nth_method p n).points in
    let all = take_ended points k whole in
    let is : rows ≡ points_numbered documents points = listed.points ∙ ap (λ xs. points_numbered documents xs) all in
    let many : length rows ≡ length points = ap length is ∙ length-map points (λ (q : PlainPoint). numbered (row_among documents q.document) q) in
    let stays = all_stay old.heaps new.heaps documents given.grown so.held.kept in
    let among : have_rows documents points ≡ true = ap (λ xs. have_rows documents xs) (sym all) ∙ listed.among in
    let one = (given.first ∷ blob_offset new.heaps given.blob ∷ []) in
    let now : MethodHeld new.heaps documents (nth_method p n) one = record {
      blob = given.blob;
      first = given.first;
      cells = refl;
      kept = given.kept;
      reads = given.reads ∙ ap (λ x. Some (method_points x rows)) own ∙ ap (λ xs. Some (method_points (nth_method p n).locals xs)) is;
      low = rw given.document (one_low documents points rows is);
      several = several_nil documents points rows given.first among is given.document;
      among = among;
    } in
    subst (λ ds. IsWritten p (n + 1) (n + 1) 0 placed ds new) (upto_all p n k whole) (record {
      held = record {
        starts = given.grown.starts ∙ so.held.starts;
        texts = given.grown.texts ∙ so.held.texts;
        users = given.grown.users ∙ so.held.users;
        size = omega (arith, given.size, so.held.size, many, given.weight);
        rows = given.rows 0x30 ∙ so.held.rows ∙ sym stays.1;
        kept = stays.0;
        by_value = λ key. ap (λ m. get (slice_cmp nat_cmp) m key) given.known ∙ so.held.by_value key ∙ ap (λ keys. option_map suc (position (bytes_eq key) keys)) (sym stays.2);
        places = λ place row at. so.held.places place row (ap (λ m. get nat_cmp m place) (sym given.places) ∙ at);
        count = ap length (given.rows 0x31) ∙ length-append (rows_at old.tables 0x31) (one ∷ []) ∙ ap (λ m. m + 1) so.held.count;
        method = λ m cells at.
            method_at p old.heaps new.heaps documents n m (rows_at old.tables 0x31) one cells given.grown so.held.count so.held.method now
            (got_last (rows_at old.tables 0x31) one m cells (sym (ap (λ xs. slice_get xs m) (given.rows 0x31)) ∙ at));
        others = λ table a b. ap length (given.rows table ∙ ap (λ t. if t then rows_at old.tables table ++ one ∷ [] else rows_at old.tables table) b) ∙ so.held.others table a b;
      };
      weight = given.weight ∙ so.weight;
      light = light;
    })

-- a row that is refused would pass the limit
pub row_past : (p : PlainPdb) (placed : ℕ → Option Document) (n k : ℕ) (rows : List Point) (w : Writer) → WrittenUpto p placed n k w → AreNumbered p n k rows → length (nth_method p n).points ≤ k
    → nat_lt most_pdb_weight (heaps_size w.heaps + (12 + 28 * length rows)) ≡ true → nat_lt most_pdb_weight (pdb_weight_of p (n + 1) (documents_of p (n + 1))) ≡ true
unfolding points_numbered
row_past p placed n k rows w so listed whole past =
    let documents = documents_upto p n k in
    let points = (nth_method p n).points in
    let all = take_ended points k whole in
    let many : length rows ≡ length points =
    ap length (listed.points ∙ ap (λ xs. points_numbered documents xs) all) ∙ length-map points (λ (q : PlainPoint). numbered (row_among documents q.document) q) in
    point_past p n k (lt_more most_pdb_weight (heaps_size w.heaps + (12 + 28 * length rows)) (pdb_weight_of p (n + 1) documents) (omega (arith, so.held.size, many, so.weight)) past)

-- nothing is written
pub none_written : (p : PlainPdb) (placed : ℕ → Option Document) (w : Writer) → heaps_size w.heaps ≡ 1 → w.heaps.starts ≡ pdb_starts → w.heaps.texts ≡ [] → w.heaps.users ≡ [] → w.tables ≡ [] → IsEmpty w.by_value → IsEmpty w.places → w.weight ≡ 65536
    → IsWritten p 0 0 0 placed (documents_of p 0) w
unfolding row_known documents_of pdb_weight_of sum_below
none_written p placed w size starts texts users tables by_value places weight = record {
  held = record {
    starts = starts;
    texts = texts;
    users = users;
    size = omega (arith, size, weight);
    rows = ap (λ t. rows_at t 0x30) tables;
    kept = refl;
    by_value = λ key. ap (λ es. lookup (is_at (slice_cmp nat_cmp key)) es) by_value;
    places = λ place row at. let e : get nat_cmp w.places place ≡ None = ap (λ es. lookup (is_at (nat_cmp place)) es) places in absurd cc;
    count = ap (λ t. count_at t 0x31) tables;
    method = λ k cells at. let e : slice_get (rows_at w.tables 0x31) k ≡ None = ap (λ t. slice_get (rows_at t 0x31) k) tables in absurd cc;
    others = λ table a b. ap (λ t. count_at t table) tables;
  };
  weight = weight;
  light = omega (arith, weight);
}

pub weight_past : (p : PlainPdb) (n methods : ℕ) → n ≤ methods → nat_lt most_pdb_weight (pdb_weight_of p n (documents_of p n)) ≡ true → nat_lt most_pdb_weight (pdb_weight p methods) ≡ true
weight_past p n methods le is = lt_more most_pdb_weight (pdb_weight_of p n (documents_of p n)) (pdb_weight p methods) (weight_within p n methods le) is
