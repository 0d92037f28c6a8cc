-- Each point's document is among the documents of a plain PDB, and its row names it.
use Rattle.std.proofs.Common.{◌≡◌, ℕ, zero, suc, ◌+◌, ◌<◌, Bool, true, false, List, [], ◌∷◌, ◌++◌, Option, Some, None, refl, ap, ◌∙◌, arith, eqb-true}
use Rattle.std.specs.Prelude.{◌||◌, ◌==◌, bytes_eq, position, slice_get, if◌then◌else◌}
use Rattle.std.specs.List.{list_any, list_all}
use Rattle.std.proofs.lemmas.Bool.{and_from, and_parts}
use Rattle.std.proofs.lemmas.Bool.Decides.{nat_tests}
use Rattle.std.proofs.lemmas.List.Folds.{list_any-append}
use Rattle.std.proofs.lemmas.Slice.Eq.{bytes_eq-Decides}
use Rattle.enc_plain.specs.Debug.{Document, PlainPoint, PlainPdb}
use Rattle.enc_plain.proofs.Owned.{position_cons}
use Rattle.enc_ppdb.specs.Written.{is_same, with_document, with_some, with_points, nth_method, documents_of, row_among}

bytes_self : (xs : List ℕ) → bytes_eq xs xs ≡ true
bytes_self xs = (bytes_eq-Decides xs xs).1 refl

pub same_self : (d : Document) → is_same d d ≡ true
unfolding is_same
same_self d = and_from _ _ (bytes_self d.name) (and_from _ _ (bytes_self d.algorithm) (and_from _ _ (bytes_self d.hash) (bytes_self d.language)))

abbrev document : List ℕ → List ℕ → List ℕ → List ℕ → Document
document n a h l = record { name = n; algorithm = a; hash = h; language = l }

-- documents of one value are equal
pub same_is : (a b : Document) → is_same a b ≡ true → a ≡ b
unfolding is_same
same_is a b e =
    let p = and_parts _ _ e in
    let q = and_parts _ _ p.1 in
    let r = and_parts _ _ q.1 in
    let name : a.name ≡ b.name = (bytes_eq-Decides a.name b.name).0 p.0 in
    let algorithm : a.algorithm ≡ b.algorithm = (bytes_eq-Decides a.algorithm b.algorithm).0 q.0 in
    let hash : a.hash ≡ b.hash = (bytes_eq-Decides a.hash b.hash).0 r.0 in
    let language : a.language ≡ b.language = (bytes_eq-Decides a.language b.language).0 r.1 in
    ap (λ x. document x a.algorithm a.hash a.language) name
    ∙ ap (λ x. document b.name x a.hash a.language) algorithm
    ∙ ap (λ x. document b.name b.algorithm x a.language) hash
    ∙ ap (λ x. document b.name b.algorithm b.hash x) language

either_left : (a b : Bool) → a ≡ true → (a || b) ≡ true
either_left true b e = refl
either_left false b e = absurd (cc)

either_right : (a b : Bool) → b ≡ true → (a || b) ≡ true
either_right true b e = refl
either_right false b e = e

-- a document among those of one list is among those of the other
abbrev Grows : List Document → List Document → Type 0
Grows a b = (d : Document) → list_any (is_same d) a ≡ true → list_any (is_same d) b ≡ true

among_more : (documents more : List Document) (d : Document) → list_any (is_same d) documents ≡ true → list_any (is_same d) (documents ++ more) ≡ true
among_more documents more d e = list_any-append (is_same d) documents more ∙ either_left _ _ e

among_last : (documents : List Document) (d : Document) → list_any (is_same d) (documents ++ d ∷ []) ≡ true
among_last [] d = either_left _ _ (same_self d)
among_last (x ∷ documents) d = either_right _ _ (among_last documents d)

one_grows : (documents : List Document) (d : Document) → Grows documents (with_document documents d)
unfolding with_document
one_grows documents d x e = by (list_any (is_same d) documents)
  where
    by : (b : Bool) → list_any (is_same x) (if b then documents else documents ++ d ∷ []) ≡ true
    by true = e
    by false = among_more documents (d ∷ []) x e

one_there : (documents : List Document) (d : Document) → list_any (is_same d) (with_document documents d) ≡ true
unfolding with_document
one_there documents d = by (list_any (is_same d) documents) refl
  where
    by : (b : Bool) → list_any (is_same d) documents ≡ b → list_any (is_same d) (if b then documents else documents ++ d ∷ []) ≡ true
    by true e = e
    by false e = among_last documents d

-- the document, where there is one, is among these
abbrev pub has_row : List Document → Option Document → Bool
has_row documents None = true
has_row documents (Some d) = list_any (is_same d) documents

abbrev pub have_rows : List Document → List PlainPoint → Bool
have_rows documents points = list_all (λ (p : PlainPoint). has_row documents p.document) points

some_grows : (documents : List Document) (o : Option Document) → Grows documents (with_some documents o)
some_grows documents None x e = e
some_grows documents (Some d) x e = one_grows documents d x e

some_there : (documents : List Document) (o : Option Document) → has_row (with_some documents o) o ≡ true
some_there documents None = refl
some_there documents (Some d) = one_there documents d

all_grow : (documents : List Document) (points : List PlainPoint) → Grows documents (with_points documents points)
unfolding with_points
all_grow documents [] x e = e
all_grow documents (p ∷ points) x e = all_grow (with_some documents p.document) points x (some_grows documents p.document x e)

row_kept : (a b : List Document) (o : Option Document) → Grows a b → has_row a o ≡ true → has_row b o ≡ true
row_kept a b None grows e = refl
row_kept a b (Some d) grows e = grows d e

rows_kept : (a b : List Document) (points : List PlainPoint) → Grows a b → have_rows a points ≡ true → have_rows b points ≡ true
rows_kept a b [] grows e = refl
rows_kept a b (p ∷ points) grows e =
    let parts = and_parts (has_row a p.document) (have_rows a points) e in
    and_from _ _ (row_kept a b p.document grows parts.0) (rows_kept a b points grows parts.1)

points_there : (documents : List Document) (points : List PlainPoint) → have_rows (with_points documents points) points ≡ true
unfolding with_points
points_there documents [] = refl
points_there documents (p ∷ points) =
    let first = with_some documents p.document in
    and_from _ _ (row_kept first (with_points first points) p.document (all_grow first points) (some_there documents p.document)) (points_there first points)

one_more : (documents : List Document) (p : PlainPdb) (m n : ℕ) (b : Bool) → (n == m) ≡ b → n < suc m → (n < m → have_rows documents (nth_method p n).points ≡ true)
    → have_rows (with_points documents (nth_method p m).points) (nth_method p n).points ≡ true
one_more documents p m n true e lt before = let same : n ≡ m = eqb-true n m e in rw same (points_there documents (nth_method p m).points)
one_more documents p m n false e lt before =
    let less : n < m = grind (arith, nat_tests, e, lt) in
    rows_kept documents (with_points documents (nth_method p m).points) (nth_method p n).points (all_grow documents (nth_method p m).points) (before less)

-- of every method
pub documents_there : (p : PlainPdb) (methods n : ℕ) → n < methods → have_rows (documents_of p methods) (nth_method p n).points ≡ true
unfolding documents_of
documents_there p zero n lt = absurd (omega (arith, lt))
documents_there p (suc m) n lt = one_more (documents_of p m) p m n (n == m) refl lt (documents_there p m n)

-- where it stands
pub record StandsAs (documents : List Document) (d : Document) : Type 0 where
  pub place : ℕ
  pub found : position (is_same d) documents ≡ Some place
  pub here : slice_get documents place ≡ Some d

stands_by : (x d : Document) (documents : List Document) (b : Bool) → is_same d x ≡ b → (b || list_any (is_same d) documents) ≡ true → (list_any (is_same d) documents ≡ true → StandsAs documents d)
    → StandsAs (x ∷ documents) d
stands_by x d documents true same e rest = record {
  place = 0;
  found = position_cons (is_same d) x documents ∙ rw same refl;
  here = ap (λ (y : Document). Some y) (let e : d ≡ x = same_is d x same in rw e refl);
}
stands_by x d documents false same e rest =
    let s = rest e in
    record {
      place = suc (s.place);
      found = position_cons (is_same d) x documents ∙ rw (same, s.found) refl;
      here = s.here;
    }

pub stands : (documents : List Document) (d : Document) → list_any (is_same d) documents ≡ true → StandsAs documents d
stands [] d e = absurd (cc)
stands (x ∷ documents) d e = stands_by x d documents (is_same d x) refl e (stands documents d)

-- the row that is among them
pub row_is : (documents : List Document) (d : Document) (s : StandsAs documents d) → row_among documents (Some d) ≡ s.place + 1
unfolding row_among
row_is documents d s = rw (s.found) (omega arith)
