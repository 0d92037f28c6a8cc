-- The documents point by point and method by method, and their weight.
use Rattle.std.proofs.Common.{◌≡◌, ℕ, zero, suc, ◌+◌, ◌-◌, ◌≤◌, Bool, true, false, List, [], ◌∷◌, ◌++◌, length, take, drop, Option, Some, None, refl, sym, ap, ◌∙◌, arith}
use Rattle.std.specs.Prelude.{sum_by, if◌then◌else◌, slice_get}
use Rattle.std.specs.List.{list_any}
use Rattle.std.proofs.lemmas.List.{take-append-drop}
use Rattle.std.proofs.lemmas.List.Sums.{sum_by-append}
use Rattle.enc_plain.specs.Debug.{Document, PlainPoint, PlainPdb}
use Rattle.enc_rows.specs.Sums.{sum_below}
use Rattle.enc_ppdb.specs.Written.{is_same, with_document, with_some, with_points, nth_method, documents_of, document_weight, method_weight, pdb_weight}
use Rattle.enc_ppdb.specs.Holding.{documents_upto, pdb_weight_of}

-- one point more
take_got : {X : Type 0} (xs : List X) (i : ℕ) (x : X) → slice_get xs i ≡ Some x → take (suc i) xs ≡ take i xs ++ x ∷ []
take_got [] i x at = absurd cc
take_got (y ∷ ys) zero x at = let e : y ≡ x = cc in rw e refl
take_got (y ∷ ys) (suc i) x at = ap (λ l. y ∷ l) (take_got ys i x at)

pub take_more : {X : Type 0} (xs : List X) (i : ℕ) (x : X) → slice_get xs i ≡ Some x → take (i + 1) xs ≡ take i xs ++ x ∷ []
take_more xs i x at = let e : i + 1 ≡ suc i = omega arith in rw e (take_got xs i x at)

points_last : (documents : List Document) (points : List PlainPoint) (q : PlainPoint) → with_points documents (points ++ q ∷ []) ≡ with_some (with_points documents points) q.document
unfolding with_points
points_last documents [] q = refl
points_last documents (p ∷ points) q = points_last (with_some documents p.document) points q

pub upto_more : (p : PlainPdb) (n i : ℕ) (q : PlainPoint) → slice_get (nth_method p n).points i ≡ Some q → documents_upto p n (i + 1) ≡ with_some (documents_upto p n i) q.document
unfolding documents_upto
upto_more p n i q at = ap (λ xs. with_points (documents_of p n) xs) (take_more (nth_method p n).points i q at) ∙ points_last (documents_of p n) (take i (nth_method p n).points) q

pub upto_none : (p : PlainPdb) (n : ℕ) → documents_of p n ≡ documents_upto p n 0
unfolding documents_upto with_points
upto_none p n = refl

take_whole : {X : Type 0} (xs : List X) (i : ℕ) → length xs ≤ i → take i xs ≡ xs
take_whole [] zero le = refl
take_whole [] (suc i) le = refl
take_whole (x ∷ xs) zero le = absurd (omega (arith, le))
take_whole (x ∷ xs) (suc i) le = ap (λ l. x ∷ l) (take_whole xs i (omega (arith, le)))

pub take_ended : {X : Type 0} (xs : List X) (i : ℕ) → length xs ≤ i → take i xs ≡ xs
take_ended xs i le = take_whole xs i le

pub upto_all : (p : PlainPdb) (n i : ℕ) → length (nth_method p n).points ≤ i → documents_upto p n i ≡ documents_of p (n + 1)
unfolding documents_upto documents_of
upto_all p n i le =
    let e : n + 1 ≡ suc n = omega arith in
    rw e (ap (λ xs. with_points (documents_of p n) xs) (take_whole (nth_method p n).points i le))

-- more documents weigh no less
document_more : (documents : List Document) (d : Document) → sum_by document_weight documents ≤ sum_by document_weight (with_document documents d)
unfolding with_document
document_more documents d = by (list_any (is_same d) documents)
  where
    by : (b : Bool) → sum_by document_weight documents ≤ sum_by document_weight (if b then documents else documents ++ d ∷ [])
    by true = omega arith
    by false = rw (sum_by-append document_weight documents (d ∷ [])) (omega arith)

some_more : (documents : List Document) (o : Option Document) → sum_by document_weight documents ≤ sum_by document_weight (with_some documents o)
some_more documents None = omega arith
some_more documents (Some d) = document_more documents d

points_more : (documents : List Document) (points : List PlainPoint) → sum_by document_weight documents ≤ sum_by document_weight (with_points documents points)
unfolding with_points
points_more documents [] = omega arith
points_more documents (p ∷ points) = omega (arith, some_more documents p.document, points_more (with_some documents p.document) points)

points_both : (documents : List Document) (xs ys : List PlainPoint) → with_points documents (xs ++ ys) ≡ with_points (with_points documents xs) ys
unfolding with_points
points_both documents [] ys = refl
points_both documents (p ∷ xs) ys = points_both (with_some documents p.document) xs ys

-- one method more
pub weight_step : (p : PlainPdb) (n : ℕ) (documents : List Document) → pdb_weight_of p (n + 1) documents ≡ pdb_weight_of p n documents + method_weight (nth_method p n)
unfolding pdb_weight_of sum_below
weight_step p n documents = let e : n + 1 ≡ suc n = omega arith in rw e (omega arith)

pub documents_more : (p : PlainPdb) (n i : ℕ) → sum_by document_weight (documents_upto p n i) ≤ sum_by document_weight (documents_of p (n + 1))
unfolding documents_upto documents_of
documents_more p n i =
    let e : n + 1 ≡ suc n = omega arith in
    let points = (nth_method p n).points in
    let whole : with_points (documents_of p n) points ≡ with_points (with_points (documents_of p n) (take i points)) (drop i points) =
    ap (λ xs. with_points (documents_of p n) xs) (sym (take-append-drop i points)) ∙ points_both (documents_of p n) (take i points) (drop i points) in
    rw (e, whole) (points_more (with_points (documents_of p n) (take i points)) (drop i points))

weight_next : (p : PlainPdb) (n : ℕ) → pdb_weight_of p n (documents_of p n) ≤ pdb_weight_of p (n + 1) (documents_of p (n + 1))
unfolding pdb_weight_of sum_below documents_of
weight_next p n = let e : n + 1 ≡ suc n = omega arith in rw e (omega (arith, points_more (documents_of p n) (nth_method p n).points))

weight_later : (p : PlainPdb) (n k : ℕ) → pdb_weight_of p n (documents_of p n) ≤ pdb_weight_of p (n + k) (documents_of p (n + k))
weight_later p n zero = let e : n + 0 ≡ n = omega arith in rw e (omega arith)
weight_later p n (suc k) = let e : n + suc k ≡ n + k + 1 = omega arith in rw e (omega (arith, weight_later p n k, weight_next p (n + k)))

pub weight_within : (p : PlainPdb) (n methods : ℕ) → n ≤ methods → pdb_weight_of p n (documents_of p n) ≤ pdb_weight p methods
unfolding pdb_weight pdb_weight_of
weight_within p n methods le = let e : methods ≡ n + (methods - n) = omega arith in rw e (weight_later p n (methods - n))
