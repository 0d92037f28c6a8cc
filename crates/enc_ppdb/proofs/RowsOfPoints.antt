-- The row of a point's document: what is written holds with it.
use Rattle.std.proofs.Common.{◌≡◌, ℕ, zero, suc, ◌+◌, ◌*◌, ◌≤◌, Bool, true, false, cond, ◌&&◌, not, List, [], ◌∷◌, ◌++◌, length, map, Option, Some, None, refl, sym, ap, subst, ◌∙◌, arith}
use Rattle.std.specs.Prelude.{position, option_map, is_some, sum_by, nat_lt, slice_get}
use Rattle.std.specs.List.{list_all, list_any}
use Rattle.std.specs.BTreeMap.{BTreeMap, get, is_at, Updates}
use Rattle.std.specs.Ordering.{nat_cmp}
use Rattle.std.proofs.lemmas.Bool.{and_parts}
use Rattle.std.proofs.lemmas.Bool.Decides.{nat_tests}
use Rattle.std.proofs.lemmas.List.{length-map}
use Rattle.std.proofs.lemmas.List.Sums.{sum_by-append, sum_by-cons}
use Rattle.enc_plain.specs.Debug.{Document, PlainPoint, MethodDebug, PlainPdb, plain_point, debug_of}
use Rattle.enc_plain.specs.SoundDebug.{have_documents}
use Rattle.enc_rows.specs.Written.{count_at}
use Rattle.enc_seqpoints.specs.declared.point.Point.{Point}
use Rattle.enc_seqpoints.specs.Grammar.{MethodPoints}
use Rattle.enc_ppdb.specs.declared.writer.Writer.{Writer}
use Rattle.enc_ppdb.specs.Written.{is_same, with_document, with_some, nth_method, row_among, document_weight, method_weight, most_pdb_weight}
use Rattle.enc_ppdb.specs.Holding.{document_key, keeps_values, document_cells, row_known, is_unknown, RowGiven, documents_upto, pdb_weight_of, has_among, IsPdbHeld, IsWritten, WrittenUpto, IsRowAt}
use Rattle.enc_ppdb.proofs.HeapsGrown.{not_grown}
use Rattle.enc_ppdb.proofs.DocumentsHeld.{now_held, among_kept, known_row, with_known, with_new}
use Rattle.enc_ppdb.proofs.DocumentsUpto.{upto_more}
use Rattle.enc_ppdb.proofs.Positions.{position_any}

mapped : {X Y : Type 0} (f : X → Y) (xs : List X) (i : ℕ) (x : X) → slice_get xs i ≡ Some x → slice_get (map f xs) i ≡ Some (f x)
mapped f [] i x at = absurd cc
mapped f (y ∷ ys) zero x at = let e : y ≡ x = cc in rw e refl
mapped f (y ∷ ys) (suc i) x at = mapped f ys i x at

-- a point of the source is one of the method's
pub point_there : (documents : ℕ → Option Document) (m : MethodPoints) (d : MethodDebug) (i : ℕ) (q : Point) → debug_of documents m ≡ d → slice_get m.points i ≡ Some q → slice_get d.points i ≡ Some (plain_point documents q)
unfolding debug_of
point_there documents m d i q is at = ap (λ (x : MethodDebug). slice_get x.points i) (sym is) ∙ mapped (plain_point documents) m.points i q at

pub lengths_same : (documents : ℕ → Option Document) (m : MethodPoints) (d : MethodDebug) → debug_of documents m ≡ d → length d.points ≡ length m.points
unfolding debug_of
lengths_same documents m d is = ap (λ (x : MethodDebug). length x.points) (sym is) ∙ length-map m.points (plain_point documents)

pub locals_same : (documents : ℕ → Option Document) (m : MethodPoints) (d : MethodDebug) → debug_of documents m ≡ d → d.locals ≡ m.locals
unfolding debug_of
locals_same documents m d is = ap (λ (x : MethodDebug). x.locals) (sym is)

all_at : {X : Type 0} (test : X → Bool) (xs : List X) (i : ℕ) (x : X) → list_all test xs ≡ true → slice_get xs i ≡ Some x → test x ≡ true
all_at test [] i x all at = absurd cc
all_at test (y ∷ ys) zero x all at = let e : y ≡ x = cc in ap test (sym e) ∙ (and_parts (test y) (list_all test ys) all).0
all_at test (y ∷ ys) (suc i) x all at = all_at test ys i x (and_parts (test y) (list_all test ys) all).1 at

-- a sound method's point has its document
pub document_there : (points : List PlainPoint) (i : ℕ) (q : PlainPoint) → have_documents points ≡ true → slice_get points i ≡ Some q → q.document ≡ None → false ≡ true
unfolding have_documents
document_there points i q all at none = ap is_some (sym none) ∙ all_at (λ (x : PlainPoint). is_some x.document) points i q all at

some_known : (documents : List Document) (o : Option Document) → has_among documents o ≡ true → with_some documents o ≡ documents
some_known documents None among = absurd cc
some_known documents (Some d) among = with_known documents d among

same_point : (a b : PlainPoint) (o : Option PlainPoint) → o ≡ Some a → o ≡ Some b → a ≡ b
same_point a b o p q = cc

-- the row for any point that stands there
row_there : (p : PlainPdb) (n i row : ℕ) (q : PlainPoint) (documents : List Document) → documents_upto p n (i + 1) ≡ documents → slice_get (nth_method p n).points i ≡ Some q
    → row_among documents q.document ≡ row → has_among documents q.document ≡ true → IsRowAt p n i row
row_there p n i row q documents is at given among r there =
    let e = same_point q r (slice_get (nth_method p n).points i) at there in
    let o : q.document ≡ r.document = ap (λ (x : PlainPoint). x.document) e in
    (ap (λ ds. row_among ds r.document) is ∙ ap (λ x. row_among documents x) (sym o) ∙ given, ap (λ ds. has_among ds r.document) is ∙ ap (λ x. has_among documents x) (sym o) ∙ among)

-- a place that is known
pub place_known : (p : PlainPdb) (placed : ℕ → Option Document) (n i place row : ℕ) (q : PlainPoint) (w : Writer) → WrittenUpto p placed n i w → slice_get (nth_method p n).points i ≡ Some q → placed place ≡ q.document
    → Some row ≡ get nat_cmp w.places place → WrittenUpto p placed n (i + 1) w × IsRowAt p n i row
place_known p placed n i place row q w so at stands known =
    let documents = documents_upto p n i in
    let one = so.held.places place row (sym known) in
    let among : has_among documents q.document ≡ true = ap (λ o. has_among documents o) (sym stands) ∙ one.1 in
    let same : documents_upto p n (i + 1) ≡ documents = upto_more p n i q at ∙ some_known documents q.document among in (
      subst (λ ds. IsWritten p n (n + 1) (method_weight (nth_method p n)) placed ds w) (sym same) so,
      row_there p n i row q documents same at (ap (λ o. row_among documents o) (sym stands) ∙ one.0) among,
    )

-- what a new document asks for
heavy_rows : (documents : List Document) → 96 * length documents ≤ sum_by document_weight documents
heavy_rows [] = omega arith
heavy_rows (d ∷ documents) =
    let many : length (d ∷ documents) ≡ length documents + 1 = omega arith in
    rw (many, sum_by-cons document_weight d documents) (omega (arith, heavy_rows documents))

pub rows_few : (p : PlainPdb) (n m room : ℕ) (placed : ℕ → Option Document) (documents : List Document) (w : Writer) → IsWritten p n m room placed documents w → 96 * count_at w.tables 0x30 ≤ w.weight
unfolding pdb_weight_of
rows_few p n m room placed documents w so =
    let many : count_at w.tables 0x30 ≡ length documents = ap length so.held.rows ∙ length-map documents (document_cells w.heaps) in
    omega (arith, many, heavy_rows documents, so.weight)

-- an unknown document isn't among the others
unknown_by : (a b : Bool) → a ≡ true → b ≡ true → not (a && b) ≡ true → false ≡ true
unknown_by true true p q h = h
unknown_by true false p q h = q
unknown_by false b p q h = p

some_suc : (o : Option ℕ) → is_some (option_map suc o) ≡ is_some o
some_suc None = refl
some_suc (Some n) = refl

not_among : (p : PlainPdb) (n room : ℕ) (placed : ℕ → Option Document) (documents : List Document) (w : Writer) (d : Document) (b : Bool) → list_any (is_same d) documents ≡ b → IsPdbHeld p n room placed documents w → is_unknown w d ≡ true → b ≡ false
unfolding is_unknown
not_among p n room placed documents w d false is held unknown = refl
not_among p n room placed documents w d true is held unknown =
    let kept = among_kept w.heaps d documents is held.kept in
    let some : is_some (row_known w (document_key w.heaps d)) ≡ true =
    ap is_some (known_row p n room placed documents w w.heaps d held (not_grown w.heaps) kept) ∙ some_suc (position (is_same d) documents) ∙ position_any (is_same d) documents ∙ is in
    let e : false ≡ true = unknown_by (keeps_values w.heaps d) (is_some (row_known w (document_key w.heaps d))) kept some unknown in
    absurd cc

weight_more : (p : PlainPdb) (m : ℕ) (documents : List Document) (d : Document) → pdb_weight_of p m (documents ++ d ∷ []) ≡ pdb_weight_of p m documents + document_weight d
unfolding pdb_weight_of
weight_more p m documents d = rw (sum_by-append document_weight documents (d ∷ [])) (omega arith)

-- a document that is refused makes the weight pass its limit
pub document_past : (p : PlainPdb) (placed : ℕ → Option Document) (n i : ℕ) (q : PlainPoint) (d : Document) (w : Writer) → WrittenUpto p placed n i w → slice_get (nth_method p n).points i ≡ Some q → q.document ≡ Some d
    → (is_unknown w d && nat_lt most_pdb_weight (w.weight + document_weight d)) ≡ true → nat_lt most_pdb_weight (pdb_weight_of p (n + 1) (documents_upto p n (i + 1))) ≡ true
document_past p placed n i q d w so at is refused =
    let documents = documents_upto p n i in
    let parts = and_parts (is_unknown w d) (nat_lt most_pdb_weight (w.weight + document_weight d)) refused in
    let free = not_among p n (method_weight (nth_method p n)) placed documents w d (list_any (is_same d) documents) refl so.held parts.0 in
    let more : documents_upto p n (i + 1) ≡ documents ++ d ∷ [] = upto_more p n i q at ∙ ap (λ o. with_some documents o) is ∙ with_new documents d free in
    ap (λ ds. nat_lt most_pdb_weight (pdb_weight_of p (n + 1) ds)) more ∙ ap (λ k. nat_lt most_pdb_weight k) (weight_more p (n + 1) documents d ∙ ap (λ k. k + document_weight d) (sym so.weight)) ∙ parts.1

-- one place more
here : (k q : ℕ) → is_at (nat_cmp k) q ≡ true → k ≡ q
here k q h = grind (arith, nat_tests, h)

place_by : (placed : ℕ → Option Document) (documents : List Document) (old : BTreeMap ℕ ℕ) (k place row r : ℕ) (t : Bool) (o : Option ℕ) → is_at (nat_cmp k) place ≡ t → o ≡ cond t (Some row) (get nat_cmp old place)
    → ((place row : ℕ) → get nat_cmp old place ≡ Some row → (row_among documents (placed place) ≡ row) × (has_among documents (placed place) ≡ true))
    → row_among documents (placed k) ≡ row → has_among documents (placed k) ≡ true → o ≡ Some r → (row_among documents (placed place) ≡ r) × (has_among documents (placed place) ≡ true)
place_by placed documents old k place row r true o at is before given among found =
    let same : k ≡ place = here k place at in
    let e : row ≡ r = cc in
    (ap (λ x. row_among documents (placed x)) (sym same) ∙ given ∙ e, ap (λ x. has_among documents (placed x)) (sym same) ∙ among)
place_by placed documents old k place row r false o at is before given among found = before place r (sym is ∙ found)

place_added : (p : PlainPdb) (n room : ℕ) (placed : ℕ → Option Document) (documents : List Document) (w : Writer) (places : BTreeMap ℕ ℕ) (k row : ℕ) → IsPdbHeld p n room placed documents w → Updates nat_cmp w.places places k (Some row)
    → row_among documents (placed k) ≡ row → has_among documents (placed k) ≡ true
    → IsPdbHeld p n room placed documents (record { heaps = w.heaps; tables = w.tables; by_value = w.by_value; places = places; weight = w.weight })
unfolding row_known
place_added p n room placed documents w places k row held updates given among = record {
  starts = held.starts;
  texts = held.texts;
  users = held.users;
  size = held.size;
  rows = held.rows;
  kept = held.kept;
  by_value = held.by_value;
  places = λ place r found. place_by placed documents w.places k place row r (is_at (nat_cmp k) place) (get nat_cmp places place) refl (updates.0 place) held.places given among found;
  count = held.count;
  method = held.method;
  others = held.others;
}

weight_now : (p : PlainPdb) (m : ℕ) (documents after : List Document) (old new : ℕ) → old ≡ pdb_weight_of p m documents → new + sum_by document_weight documents ≡ old + sum_by document_weight after → new ≡ pdb_weight_of p m after
unfolding pdb_weight_of
weight_now p m documents after old new is e = omega (arith, is, e)

-- a document that is given its row, with its place
pub row_placed : (p : PlainPdb) (placed : ℕ → Option Document) (n i place row : ℕ) (q : PlainPoint) (d : Document) (old mid : Writer) (places : BTreeMap ℕ ℕ) → WrittenUpto p placed n i old → slice_get (nth_method p n).points i ≡ Some q
    → q.document ≡ Some d → placed place ≡ q.document → RowGiven d old mid row → mid.weight ≤ most_pdb_weight → Updates nat_cmp mid.places places place (Some row)
    → WrittenUpto p placed n (i + 1) (record { heaps = mid.heaps; tables = mid.tables; by_value = mid.by_value; places = places; weight = mid.weight }) × IsRowAt p n i row
row_placed p placed n i place row q d old mid places so at is stands given light updates =
    let documents = documents_upto p n i in
    let after = with_document documents d in
    let now = now_held p n (method_weight (nth_method p n)) placed documents d old mid row so.held given in
    let same : documents_upto p n (i + 1) ≡ after = upto_more p n i q at ∙ ap (λ o. with_some documents o) is in
    let here : placed place ≡ Some d = stands ∙ is in
    let new : Writer = record { heaps = mid.heaps; tables = mid.tables; by_value = mid.by_value; places = places; weight = mid.weight } in (
      subst (λ ds. IsWritten p n (n + 1) (method_weight (nth_method p n)) placed ds new) (sym same) (record {
        held = place_added p n (method_weight (nth_method p n)) placed after mid places place row now.held updates (ap (λ o. row_among after o) here ∙ now.row) (ap (λ o. has_among after o) here ∙ now.among);
        weight = weight_now p (n + 1) documents after old.weight mid.weight so.weight now.weight;
        light = light;
      }),
      row_there p n i row q after same at (ap (λ o. row_among after o) is ∙ now.row) (ap (λ o. has_among after o) is ∙ now.among),
    )
