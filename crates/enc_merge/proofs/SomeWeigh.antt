-- What is known of some of the methods weighs no more than what is known of all.
use Rattle.std.proofs.Common.{◌≡◌, ℕ, zero, suc, ◌+◌, ◌<◌, ◌≤◌, Bool, true, false, List, [], ◌∷◌, length, get_or, Option, Some, None, refl, sym, ap, ◌∙◌, arith}
use Rattle.std.proofs.Math.Seq.{take-length}
use Rattle.std.specs.Prelude.{◌-◌, ◌==◌, filter, nat_lt, sum_by, if◌then◌else◌, slice_get}
use Rattle.std.proofs.lemmas.Bool.{and_from, and_parts}
use Rattle.std.proofs.lemmas.Bool.Decides.{nat_tests}
use Rattle.std.proofs.lemmas.List.Sums.{sum_by-cons}
use Rattle.std.proofs.lemmas.Option.{slice_get-get_or}
use Rattle.enc_base.specs.Token.{nil, nth_row}
use Rattle.enc_base.specs.declared.refusal.StreamName.{StreamName}
use Rattle.enc_base.specs.declared.refusal.StreamName.TheVariants as stream
use Rattle.enc_base.specs.declared.token.Token.{Token}
use Rattle.enc_meta.specs.declared.builder.BuildFault.{BuildFault}
use Rattle.enc_meta.specs.declared.builder.BuildFault.TheVariants.{TooLarge}
use Rattle.enc_base.specs.Tables as tables
use Rattle.enc_rows.specs.Sums.{sum_below}
use Rattle.enc_plain.specs.Debug.{Document, PlainPoint, PlainPdb}
use Rattle.enc_ppdb.specs.Written.{document_weight, documents_of, method_weight, most_pdb_weight, nth_method, pdb_weight, IsPdbFault}
use Rattle.enc_ppdb.proofs.PdbRows.{documents_there, has_row, have_rows}
use Rattle.enc_pdb_writer.proofs.DocumentsWithin.{documents_within, is_among, points_among, sum_within}
use Rattle.enc_pdb_writer.proofs.Weighed.{sum_listed}
use Rattle.enc_merge.specs.Points.{debug_of_rows, nth_listed}

-- the n-th of some methods stands for the n-th row
pub method_there : (methods : List Token) (n : ℕ) (t : Token) → slice_get methods n ≡ Some t → nth_listed methods (nth_row tables.method_def n) ≡ t
unfolding nth_listed
method_there methods n t at =
    let a : (n + 1 == 0) ≡ false = grind (arith, nat_tests) in
    let b : n + 1 - 1 ≡ n = omega arith in
    rw (a, b, at) refl

-- each of those that pass is one of all
pub one_of_filter : (q : Token → Bool) (methods : List Token) (k : ℕ) (t : Token) → slice_get (filter q methods) k ≡ Some t → (i : ℕ) × ((i < length methods) × (slice_get methods i ≡ Some t))
one_of_filter q [] k t at = absurd cc
one_of_filter q (m ∷ methods) k t at = by (q m) k at (λ i here. let r = one_of_filter q methods i t here in (suc r.0, (omega (arith, r.1.0), r.1.1)))
  where
    by : (b : Bool) (k : ℕ) → slice_get (if b then m ∷ filter q methods else filter q methods) k ≡ Some t
        → ((i : ℕ) → slice_get (filter q methods) i ≡ Some t → (j : ℕ) × ((j < length (m ∷ methods)) × (slice_get (m ∷ methods) j ≡ Some t))) → (i : ℕ) × ((i < length (m ∷ methods)) × (slice_get (m ∷ methods) i ≡ Some t))
    by true zero at later = (0, (omega arith, at))
    by true (suc k) at later = later k at
    by false k at later = later k at

-- the methods
abbrev weight_of : PlainPdb → Token → ℕ
weight_of p t = method_weight (p t)

methods_weigh : (methods : List Token) (p : PlainPdb) → sum_below (λ n. method_weight (nth_method (debug_of_rows methods p) n)) (length methods) ≡ sum_by (weight_of p) methods
methods_weigh methods p =
    sum_listed _ (weight_of p) methods (length methods) nil (omega arith) (λ k lt. ap (weight_of p) (method_there methods k (get_or methods k nil) (slice_get-get_or methods k nil lt)))
    ∙ ap (sum_by (weight_of p)) (take-length methods)

fewer_weigh : (w : Token → ℕ) (q : Token → Bool) (methods : List Token) → sum_by w (filter q methods) ≤ sum_by w methods
fewer_weigh w q [] = omega arith
fewer_weigh w q (m ∷ methods) = by (q m) (fewer_weigh w q methods)
  where
    by : (b : Bool) → sum_by w (filter q methods) ≤ sum_by w methods → sum_by w (if b then m ∷ filter q methods else filter q methods) ≤ sum_by w (m ∷ methods)
    by true rest = omega (arith, sum_by-cons w m (filter q methods), sum_by-cons w m methods, rest)
    by false rest = omega (arith, sum_by-cons w m methods, rest)

-- the documents
same_test : (all : List Document) (o : Option Document) → has_row all o ≡ true → is_among all o ≡ true
same_test all None there = refl
same_test all (Some d) there = there

points_there : (all : List Document) (points : List PlainPoint) → have_rows all points ≡ true → points_among all points ≡ true
points_there all [] there = refl
points_there all (p ∷ points) there =
    let parts = and_parts (has_row all p.document) (have_rows all points) there in
    and_from (is_among all p.document) (points_among all points) (same_test all p.document parts.0) (points_there all points parts.1)

documents_among : (methods : List Token) (p : PlainPdb) (q : Token → Bool) (k : ℕ) → k < length (filter q methods)
    → points_among (documents_of (debug_of_rows methods p) (length methods)) (nth_method (debug_of_rows (filter q methods) p) k).points ≡ true
documents_among methods p q k lt =
    let all = documents_of (debug_of_rows methods p) (length methods) in
    let t = get_or (filter q methods) k nil in
    let at = slice_get-get_or (filter q methods) k nil lt in
    let r = one_of_filter q methods k t at in
    let here = documents_there (debug_of_rows methods p) (length methods) r.0 r.1.0 in
    let there : have_rows all (p t).points ≡ true = ap (λ (u : Token). have_rows all (p u).points) (sym (method_there methods r.0 t r.1.1)) ∙ here in
    ap (λ (u : Token). points_among all (p u).points) (method_there (filter q methods) k t at) ∙ points_there all (p t).points there

pub some_weigh : (p : PlainPdb) (q : Token → Bool) (methods : List Token) → pdb_weight (debug_of_rows (filter q methods) p) (length (filter q methods)) ≤ pdb_weight (debug_of_rows methods p) (length methods)
unfolding pdb_weight
some_weigh p q methods =
    let some = filter q methods in
    let all = documents_of (debug_of_rows methods p) (length methods) in
    let documents = sum_within document_weight (documents_of (debug_of_rows some p) (length some)) all (documents_within all (debug_of_rows some p) (length some) (λ k lt. documents_among methods p q k lt)) in
    omega (arith, methods_weigh some p, methods_weigh methods p, fewer_weigh (weight_of p) q methods, documents)

-- so where all aren't too heavy, some aren't
pub stays_light : (p : PlainPdb) (q : Token → Bool) (all some : List Token) (rows : List ℕ) → nat_lt most_pdb_weight (pdb_weight (debug_of_rows all p) (length all)) ≡ false → some ≡ filter q all → length rows ≡ length some
    → nat_lt most_pdb_weight (pdb_weight (debug_of_rows some p) (length rows)) ≡ true → ⊥
stays_light p q all some rows light is many heavy =
    let w = pdb_weight (debug_of_rows all p) (length all) in
    let low : w ≤ most_pdb_weight = grind (arith, nat_tests, light) in
    let same : pdb_weight (debug_of_rows some p) (length rows) ≡ pdb_weight (debug_of_rows (filter q all) p) (length (filter q all)) = ap (pdb_weight (debug_of_rows some p)) many ∙ ap (λ (ts : List Token). pdb_weight (debug_of_rows ts p) (length ts)) is in
    let less : pdb_weight (debug_of_rows some p) (length rows) ≤ most_pdb_weight = omega (arith, same, some_weigh p q all, low) in
    grind (arith, nat_tests, less, heavy)

-- what is refused is too heavy
pub too_heavy : (fault : BuildFault) (name : StreamName) (weight : ℕ) → fault ≡ TooLarge name → IsPdbFault fault weight → nat_lt most_pdb_weight weight ≡ true
too_heavy fault stream.Pdb weight is tells = rw is at tells
too_heavy fault stream.Compressed weight is tells = absurd (rw is at tells)
too_heavy fault stream.Uncompressed weight is tells = absurd (rw is at tells)
too_heavy fault stream.Strings weight is tells = absurd (rw is at tells)
too_heavy fault stream.Users weight is tells = absurd (rw is at tells)
too_heavy fault stream.Blobs weight is tells = absurd (rw is at tells)
too_heavy fault stream.Guids weight is tells = absurd (rw is at tells)
too_heavy fault stream.Jtd weight is tells = absurd (rw is at tells)
