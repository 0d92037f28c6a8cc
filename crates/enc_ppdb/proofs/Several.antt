-- The row of a method whose points have several documents has none.
use Rattle.std.proofs.Common.{◌≡◌, ℕ, zero, suc, Bool, true, false, List, [], ◌∷◌, map, Option, Some, None, refl, sym, ap, ◌∙◌, arith, eqb-true}
use Rattle.std.specs.Prelude.{◌==◌, if◌then◌else◌, option_map, slice_get}
use Rattle.std.specs.List.{list_any, list_all}
use Rattle.std.proofs.lemmas.Bool.{and_parts}
use Rattle.std.proofs.lemmas.Option.{slice_get-map}
use Rattle.enc_plain.specs.Debug.{Document, PlainPoint}
use Rattle.enc_plain.specs.SoundDebug.{numbered}
use Rattle.enc_seqpoints.specs.declared.point.Point.{Point}
use Rattle.enc_ppdb.specs.Method.{one_document}
use Rattle.enc_ppdb.specs.Written.{is_same, row_among, points_numbered, IsNilOverSeveral}
use Rattle.enc_ppdb.specs.Holding.{has_among, have_rows}
use Rattle.enc_ppdb.proofs.PdbRows.{stands, row_is}

-- a test that all pass, each passes
all_at : {X : Type 0} (test : X → Bool) (xs : List X) (i : ℕ) (x : X) → list_all test xs ≡ true → slice_get xs i ≡ Some x → test x ≡ true
all_at test [] i x all at = absurd cc
all_at test (y ∷ ys) zero x all at = let e : y ≡ x = cc in ap test (sym e) ∙ (and_parts (test y) (list_all test ys) all).0
all_at test (y ∷ ys) (suc i) x all at = all_at test ys i x (and_parts (test y) (list_all test ys) all).1 at

-- documents with one row are one
row_tells : (documents : List Document) (d e : Document) → list_any (is_same d) documents ≡ true → list_any (is_same e) documents ≡ true → row_among documents (Some d) ≡ row_among documents (Some e) → d ≡ e
row_tells documents d e here there same =
    let s = stands documents d here in
    let t = stands documents e there in
    let place : s.place ≡ t.place = omega (arith, row_is documents d s, row_is documents e t, same) in
    let both : Some d ≡ Some e = sym (s.here) ∙ ap (slice_get documents) place ∙ t.here in
    cc

-- the same of the documents of two points
one_row : (documents : List Document) (o u : Option Document) → has_among documents o ≡ true → has_among documents u ≡ true → row_among documents o ≡ row_among documents u → o ≡ u
one_row documents None u here there same = absurd cc
one_row documents (Some d) None here there same = absurd cc
one_row documents (Some d) (Some e) here there same = ap (λ (x : Document). Some x) (row_tells documents d e here there same)

-- where all points have one row, each has it
row_at : (documents : List Document) (points : List PlainPoint) (n i : ℕ) (p : PlainPoint) → list_all (λ (x : Point). x.document == n) (points_numbered documents points) ≡ true → slice_get points i ≡ Some p → row_among documents p.document ≡ n
unfolding points_numbered
row_at documents points n i p all at =
    let f = λ (q : PlainPoint). numbered (row_among documents q.document) q in
    eqb-true (row_among documents p.document) n (all_at (λ (x : Point). x.document == n) (map f points) i (f p) all (slice_get-map f points i ∙ ap (option_map f) at))

-- so two of them have one document
one_for_both : (documents : List Document) (points : List PlainPoint) (n i j : ℕ) (p q : PlainPoint) → have_rows documents points ≡ true → list_all (λ (x : Point). x.document == n) (points_numbered documents points) ≡ true
    → slice_get points i ≡ Some p → slice_get points j ≡ Some q → p.document ≡ q.document
unfolding have_rows
one_for_both documents points n i j p q among all at to =
    let there = λ (r : PlainPoint). has_among documents r.document in
    one_row documents p.document q.document (all_at there points i p among at) (all_at there points j q among to) (row_at documents points n i p all at ∙ sym (row_at documents points n j q all to))

-- nothing where a test fails
nil_unless : (b : Bool) (n : ℕ) → (b ≡ true → ⊥) → (if b then n else 0) ≡ 0
nil_unless true n never = absurd (never refl)
nil_unless false n never = refl

-- of points with rows, where two have different documents, none is that of all
numbered_nil : (documents : List Document) (points : List PlainPoint) → have_rows documents points ≡ true → IsNilOverSeveral points (one_document (points_numbered documents points))
unfolding one_document points_numbered
numbered_nil documents [] among i j p q at to apart = refl
numbered_nil documents (x ∷ points) among i j p q at to apart =
    let n = row_among documents x.document in
    nil_unless (list_all (λ (y : Point). y.document == n) (points_numbered documents (x ∷ points))) n (λ all. apart (one_for_both documents (x ∷ points) n i j p q among all at to))

-- the document that a method's row tells
pub several_nil : (documents : List Document) (points : List PlainPoint) (rows : List Point) (first : ℕ) → have_rows documents points ≡ true → rows ≡ points_numbered documents points → first ≡ one_document rows → IsNilOverSeveral points first
several_nil documents points rows first among is told i j p q at to apart = told ∙ ap one_document is ∙ numbered_nil documents points among i j p q at to apart
